-- Every chunk does something to an endpoint whose receiver is bounded.
use Rattle.std.proofs.Common.{◌≡◌, ℕ, zero, suc, ◌<◌, Bool, true, false, List, [], ◌∷◌, length, Option, Some, None, inl, inr, refl, sym, subst, ap, arith, ◌∙◌}
use Rattle.sctp_model.specs.wire.Chunk.{PieceMeaning, SackMeaning, ForwardMeaning, InitMeaning, ChunkMeaning, Data, IData, Init, InitAck, Sack, Heartbeat, HeartbeatAck, Abort, Shutdown, ShutdownAck, Error, CookieEcho, CookieAck, ShutdownComplete, ForwardTsn, IForwardTsn, Unknown}
use Rattle.sctp_model.specs.messages.Format.{Format, Plain, Interleaved}
use Rattle.sctp_model.specs.sender.SenderView.{SenderView}
use Rattle.sctp_model.specs.receiver.ReceiverView.{IsCumulative}
use Rattle.sctp_model.specs.receiver.ForwardTaken.{ForwardAnswer, OutOfDate, Bad, Moved, ForwardTaken, forward_answer}
use Rattle.sctp_model.specs.sender.Words.{when, first_there}
use Rattle.sctp_model.specs.sender.SackTaken.{SackFault, Stale, Beyond, BadBlock, is_stale, is_beyond, index_of, sack_fault, shutdown_fault}
use Rattle.sctp_model.specs.wire.Typed.{Typed}
use Rattle.sctp_model.specs.end.Sealing.{Sealing}
use Rattle.sctp_model.specs.end.EndView.{Tags, Draw, Stage, Established, ShutdownPending, ShutdownSent, ShutdownReceived, ShutdownAckSent, Phase, Idle, Listening, Calling, Echoing, Open, Over, EndView, format_of}
use Rattle.sctp_model.specs.end.Closing.{hears, takes_data, takes_acknowledgements, takes_cookies, awaits_ack, awaits_complete}
use Rattle.sctp_model.specs.end.PeerFaults.{After, GoesOn, PassedOver, Unnoted}
use Rattle.sctp_model.specs.end.Options.{STATE_COOKIE, value_of}
use Rattle.sctp_model.specs.end.Opening.{ack_fault, InitAckActs, NotCalling, NoTag, RefusedAck, AcceptedAck, seal_in, is_ours, cookie_read, EchoActs, NotHere, EchoedAgain, IsStrange, CookieAckActs, NotEchoing, CookieAcked}
use Rattle.sctp_model.specs.end.Beating.{beat_heard}
use Rattle.sctp_model.specs.end.Acting.{same_format, PieceActs, ForwardNotHeard, HeartbeatNotHeard, PieceNotHeard, SackNotHeard, PieceEmpty, WrongFormat, ForwardComes, PieceComes, may_forward, ForwardActs, WrongKind, IsBad, IsOld, SackActs, SackStale, ShutdownStale, SackWrong, ShutdownWrong, HeartbeatCounts, SackCounts, ShutdownCounts, HeartbeatActs, is_stale_cookie, ErrorActs, Closes, SaysNothing, ShutdownActs, ShutdownNotOpen, Crosses, Again, ShutdownAckActs, AckNotAwaited, CompleteNotAwaited, AckCompletes, CompleteCompleted, CompleteActs, Acts, OtherActs, ReconfigComes, IsUnknown, Misnumbered, is_refused}
use Rattle.sctp_outcomes.specs.receiver.Steps.{cumulative, forward_step}
use Rattle.sctp_outcomes.proofs.receiver.StepsLemmas.{cumulative_is, piece_steps, forward_steps}
use Rattle.sctp_outcomes.proofs.Bounded.{IsBounded}
use Rattle.sctp_model.specs.end.Reconfiguring.{takes_reconfig}
use Rattle.sctp_model.proofs.receiver.OneStep.{cumulative_only}

-- ---- in which states a chunk is heard

-- an open endpoint whose stage says so, or not
data IsHeard (f : Stage → Bool) (h : Phase) : Type 0 where
  Off : hears f h ≡ false → IsHeard f h
  On : (t : Tags) (g : Stage) → h ≡ Open t g → f g ≡ true → IsHeard f h

is_heard : (f : Stage → Bool) (h : Phase) → IsHeard f h
is_heard f Idle = Off refl
is_heard f Listening = Off refl
is_heard f (Calling d) = Off refl
is_heard f (Echoing t xs) = Off refl
is_heard f (Over why) = Off refl
is_heard f (Open t g) = go (f g) refl
  where
    go : (b : Bool) → f g ≡ b → IsHeard f (Open t g)
    go true q = On t g refl q
    go false q = Off q

on_heard : (f : Stage → Bool) (h : Phase) (t : Tags) (g : Stage) → h ≡ Open t g → f g ≡ true → hears f h ≡ true
on_heard f h t g is q = subst (λ (k : Phase). hears f k ≡ true) (sym is) q

-- ---- chunks

-- what a chunk leaves
pub record Acted (e : EndView) (tag : ℕ) (x : ChunkMeaning) : Type 0 where
  pub after : After
  pub acts : Acts e tag x after

-- a SHUTDOWN has no blocks
no_bad_block : (v : SenderView) (wire : ℕ) → shutdown_fault v wire ≡ Some BadBlock → ⊥
no_bad_block v wire e = by_tests (is_stale v wire) (is_beyond v (index_of v wire) []) e
  where
    by_tests : (b c : Bool) → first_there (when b Stale ∷ when c Beyond ∷ []) ≡ Some BadBlock → ⊥
    by_tests true c q = absurd (cc)
    by_tests false true q = absurd (cc)
    by_tests false false q = absurd (cc)

module _ (e : EndView) (tag : ℕ) (b : IsBounded (format_of e) e.receiver) where
  abbrev c : ℕ
  c = cumulative e.receiver b.bound

  is_c : IsCumulative e.receiver c
  is_c = cumulative_is e.receiver b.bound b.within

  -- data of one format
  piece : (f : Format) (p : PieceMeaning) → (a : After) × PieceActs f e p a
  piece f p = by (is_heard takes_data e.phase)
    where
      filled : (t : Tags) (g : Stage) → e.phase ≡ Open t g → takes_data g ≡ true → 0 < length p.bytes → (r : Bool) → same_format f (format_of e) ≡ r → (a : After) × PieceActs f e p a
      filled t g is takes some true same = numbered (is_refused e c p) refl
        where
          numbered : (w : Bool) → is_refused e c p ≡ w → (a : After) × PieceActs f e p a
          numbered true wrong = (_, Misnumbered t g c is takes some same is_c wrong)
          numbered false right =
              let k = piece_steps (format_of e) e.receiver c p is_c in
              (_, PieceComes t g _ _ is takes some same k (subst (λ (n : ℕ). is_refused e n p ≡ false) (cumulative_only e.receiver c k.c is_c k.cumulative) right))
      filled t g is takes some false same = (_, WrongFormat t g is takes some same)

      sized : (t : Tags) (g : Stage) → e.phase ≡ Open t g → takes_data g ≡ true → (n : ℕ) → length p.bytes ≡ n → (a : After) × PieceActs f e p a
      sized t g is takes zero q = (_, PieceEmpty t g is takes q)
      sized t g is takes (suc n) q = filled t g is takes (omega (arith, q)) (same_format f (format_of e)) refl

      by : IsHeard takes_data e.phase → (a : After) × PieceActs f e p a
      by (Off off) = (_, PieceNotHeard off)
      by (On t g is takes) = sized t g is takes (length p.bytes) refl

  forward : (f : Format) (m : ForwardMeaning) → (a : After) × ForwardActs f e m a
  forward f m = by (is_heard takes_data e.phase)
    where
      answered : (t : Tags) (g : Stage) → e.phase ≡ Open t g → takes_data g ≡ true → may_forward f e ≡ true → (x : ForwardAnswer) → forward_answer e.receiver c m ≡ x → (a : After) × ForwardActs f e m a
      answered t g is takes may OutOfDate q = (_, IsOld t g _ is takes may (subst (λ (x : ForwardAnswer). ForwardTaken (format_of e) e.receiver m x (forward_step (format_of e) e.receiver c m)) q (forward_steps (format_of e) e.receiver c m is_c)))
      answered t g is takes may Bad q = (_, IsBad t g _ is takes may (subst (λ (x : ForwardAnswer). ForwardTaken (format_of e) e.receiver m x (forward_step (format_of e) e.receiver c m)) q (forward_steps (format_of e) e.receiver c m is_c)))
      answered t g is takes may Moved q = (_, ForwardComes t g _ is takes may (subst (λ (x : ForwardAnswer). ForwardTaken (format_of e) e.receiver m x (forward_step (format_of e) e.receiver c m)) q (forward_steps (format_of e) e.receiver c m is_c)))

      allowed : (t : Tags) (g : Stage) → e.phase ≡ Open t g → takes_data g ≡ true → (r : Bool) → may_forward f e ≡ r → (a : After) × ForwardActs f e m a
      allowed t g is takes true may = answered t g is takes may (forward_answer e.receiver c m) refl
      allowed t g is takes false may = (_, WrongKind t g is takes may)

      by : IsHeard takes_data e.phase → (a : After) × ForwardActs f e m a
      by (Off off) = (_, ForwardNotHeard off)
      by (On t g is takes) = allowed t g is takes (may_forward f e) refl

  sack : (s : SackMeaning) → (a : After) × SackActs e s a
  sack s = by (is_heard takes_acknowledgements e.phase)
    where
      answered : (t : Tags) (g : Stage) → e.phase ≡ Open t g → takes_acknowledgements g ≡ true → (x : Option SackFault) → sack_fault e.sender s ≡ x → (a : After) × SackActs e s a
      answered t g is takes None q = (_, SackCounts (on_heard takes_acknowledgements e.phase t g is takes) q)
      answered t g is takes (Some Stale) q = (_, SackStale (on_heard takes_acknowledgements e.phase t g is takes) q)
      answered t g is takes (Some Beyond) q = (_, SackWrong t g is takes (inl q))
      answered t g is takes (Some BadBlock) q = (_, SackWrong t g is takes (inr q))

      by : IsHeard takes_acknowledgements e.phase → (a : After) × SackActs e s a
      by (Off off) = (_, SackNotHeard off)
      by (On t g is takes) = answered t g is takes (sack_fault e.sender s) refl

  shutdown : (n : ℕ) → (a : After) × ShutdownActs e n a
  shutdown n = by e.phase refl
    where
      closed : (h : Phase) → e.phase ≡ h → hears (λ g. true) h ≡ false → (a : After) × ShutdownActs e n a
      closed h is off = (_, ShutdownNotOpen (subst (λ (k : Phase). hears (λ g. true) k ≡ false) (sym is) off))

      answered : (t : Tags) (g : Stage) → e.phase ≡ Open t g → takes_acknowledgements g ≡ true → (x : Option SackFault) → shutdown_fault e.sender n ≡ x → (a : After) × ShutdownActs e n a
      answered t g is takes None q = (_, ShutdownCounts t g is takes q)
      answered t g is takes (Some Stale) q = (_, ShutdownStale t g is takes q)
      answered t g is takes (Some Beyond) q = (_, ShutdownWrong t g is takes q)
      answered t g is takes (Some BadBlock) q = absurd (no_bad_block e.sender n q)

      by : (h : Phase) → e.phase ≡ h → (a : After) × ShutdownActs e n a
      by Idle is = closed Idle is refl
      by Listening is = closed Listening is refl
      by (Calling d) is = closed (Calling d) is refl
      by (Echoing t xs) is = closed (Echoing t xs) is refl
      by (Over why) is = closed (Over why) is refl
      by (Open t Established) is = answered t Established is refl (shutdown_fault e.sender n) refl
      by (Open t ShutdownPending) is = answered t ShutdownPending is refl (shutdown_fault e.sender n) refl
      by (Open t ShutdownReceived) is = answered t ShutdownReceived is refl (shutdown_fault e.sender n) refl
      by (Open t ShutdownSent) is = (_, Crosses t is)
      by (Open t ShutdownAckSent) is = (_, Again t is)

  init_ack : (m : InitMeaning) → (a : After) × InitAckActs e m a
  init_ack m = by e.phase refl
    where
      fault : (d : Draw) → e.phase ≡ Calling d → 0 < m.tag → (xs : List ℕ) → value_of STATE_COOKIE m.parameters ≡ Some xs → (o : Option Typed) → ack_fault e m (Some xs) ≡ o → (a : After) × InitAckActs e m a
      fault d is some xs v None q = (_, AcceptedAck d xs is some v q)
      fault d is some xs v (Some x) q = (_, RefusedAck d x is some (ap (ack_fault e m) v ∙ q))

      cookie : (d : Draw) → e.phase ≡ Calling d → 0 < m.tag → (o : Option (List ℕ)) → value_of STATE_COOKIE m.parameters ≡ o → (a : After) × InitAckActs e m a
      cookie d is some None v = (_, RefusedAck d _ is some (ap (ack_fault e m) v))
      cookie d is some (Some xs) v = fault d is some xs v (ack_fault e m (Some xs)) refl

      tagged : (d : Draw) → e.phase ≡ Calling d → (n : ℕ) → m.tag ≡ n → (a : After) × InitAckActs e m a
      tagged d is zero q = (_, NoTag d is q)
      tagged d is (suc n) q = cookie d is (omega (arith, q)) (value_of STATE_COOKIE m.parameters) refl

      by : (h : Phase) → e.phase ≡ h → (a : After) × InitAckActs e m a
      by Idle is = (_, NotCalling (rw is refl))
      by Listening is = (_, NotCalling (rw is refl))
      by (Echoing t xs) is = (_, NotCalling (rw is refl))
      by (Open t g) is = (_, NotCalling (rw is refl))
      by (Over why) is = (_, NotCalling (rw is refl))
      by (Calling d) is = tagged d is m.tag refl

  echo : (xs : List ℕ) → (a : After) × EchoActs e tag xs a
  echo xs = by (seal_in e.role) refl
    where
      ours : (s : Sealing) → seal_in e.role ≡ Some s → (t : Tags) (g : Stage) → e.phase ≡ Open t g → takes_cookies g ≡ true → (r : Bool) → is_ours t (cookie_read s e tag xs) ≡ r → (a : After) × EchoActs e tag xs a
      ours s role t g is takes true q = (_, EchoedAgain s t g role is takes q)
      ours s role t g is takes false q = (_, IsStrange s t g role is takes q)

      sealed : (s : Sealing) → seal_in e.role ≡ Some s → IsHeard takes_cookies e.phase → (a : After) × EchoActs e tag xs a
      sealed s role (Off off) = (_, NotHere (inr off))
      sealed s role (On t g is takes) = ours s role t g is takes (is_ours t (cookie_read s e tag xs)) refl

      by : (o : Option Sealing) → seal_in e.role ≡ o → (a : After) × EchoActs e tag xs a
      by None role = (_, NotHere (inl role))
      by (Some s) role = sealed s role (is_heard takes_cookies e.phase)

  cookie_ack : (a : After) × CookieAckActs e a
  cookie_ack = by e.phase refl
    where
      by : (h : Phase) → e.phase ≡ h → (a : After) × CookieAckActs e a
      by Idle is = (_, NotEchoing (rw is refl))
      by Listening is = (_, NotEchoing (rw is refl))
      by (Calling d) is = (_, NotEchoing (rw is refl))
      by (Open t g) is = (_, NotEchoing (rw is refl))
      by (Over why) is = (_, NotEchoing (rw is refl))
      by (Echoing t xs) is = (_, CookieAcked t xs is)

  heartbeat : (info : List ℕ) → (a : After) × HeartbeatActs e info a
  heartbeat info = by (hears (λ g. true) e.phase) refl
    where
      by : (r : Bool) → hears (λ g. true) e.phase ≡ r → (a : After) × HeartbeatActs e info a
      by true q = (_, HeartbeatCounts q)
      by false q = (_, HeartbeatNotHeard q)

  report : (causes : List ℕ) → (a : After) × ErrorActs e causes a
  report causes = by (is_stale_cookie e.phase causes) refl
    where
      by : (r : Bool) → is_stale_cookie e.phase causes ≡ r → (a : After) × ErrorActs e causes a
      by true q = (_, Closes q)
      by false q = (_, SaysNothing q)

  shutdown_ack : (a : After) × ShutdownAckActs e a
  shutdown_ack = by (is_heard awaits_ack e.phase)
    where
      by : IsHeard awaits_ack e.phase → (a : After) × ShutdownAckActs e a
      by (Off off) = (_, AckNotAwaited off)
      by (On t g is awaits) = (_, AckCompletes t g is awaits)

  complete : (a : After) × CompleteActs e a
  complete = by (hears awaits_complete e.phase) refl
    where
      by : (r : Bool) → hears awaits_complete e.phase ≡ r → (a : After) × CompleteActs e a
      by true q = (_, CompleteCompleted q)
      by false q = (_, CompleteNotAwaited q)

  other : (kind flags : ℕ) (value : List ℕ) → (a : After) × OtherActs e kind flags value a
  other kind flags value = by (takes_reconfig e kind) refl
    where
      by : (r : Bool) → takes_reconfig e kind ≡ r → (a : After) × OtherActs e kind flags value a
      by true on = (_, ReconfigComes (cumulative e.receiver b.bound) on (cumulative_is e.receiver b.bound b.within))
      by false off = (_, IsUnknown _ off refl)

  pub acted : (x : ChunkMeaning) → Acted e tag x
  acted (Data p) = let a = piece Plain p in record { after = a.0; acts = a.1 }
  acted (IData p) = let a = piece Interleaved p in record { after = a.0; acts = a.1 }
  acted (Init m) = record { after = PassedOver; acts = refl }
  acted (InitAck m) = let a = init_ack m in record { after = a.0; acts = a.1 }
  acted (Sack s) = let a = sack s in record { after = a.0; acts = a.1 }
  acted (Heartbeat info) = let a = heartbeat info in record { after = a.0; acts = a.1 }
  acted (HeartbeatAck info) = record { after = GoesOn Unnoted (beat_heard e info); acts = refl }
  acted (Abort shown causes) = record { after = _; acts = refl }
  acted (Shutdown n) = let a = shutdown n in record { after = a.0; acts = a.1 }
  acted ShutdownAck = let a = shutdown_ack in record { after = a.0; acts = a.1 }
  acted (Error causes) = let a = report causes in record { after = a.0; acts = a.1 }
  acted (CookieEcho xs) = let a = echo xs in record { after = a.0; acts = a.1 }
  acted CookieAck = let a = cookie_ack in record { after = a.0; acts = a.1 }
  acted (ShutdownComplete shown) = let a = complete in record { after = a.0; acts = a.1 }
  acted (ForwardTsn m) = let a = forward Plain m in record { after = a.0; acts = a.1 }
  acted (IForwardTsn m) = let a = forward Interleaved m in record { after = a.0; acts = a.1 }
  acted (Unknown kind flags value) = let a = other kind flags value in record { after = a.0; acts = a.1 }
