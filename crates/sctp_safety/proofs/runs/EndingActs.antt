-- What a chunk of the peer does to the closing of an association.
use Rattle.std.proofs.Common.{◌≡◌, ℕ, true, false, List, refl, sym, subst, ◌∙◌}
use Rattle.sctp_model.specs.numbers.Lists.{Has}
use Rattle.sctp_model.specs.wire.Chunk.{ChunkMeaning, Data, IData, Init, InitAck, Sack, Heartbeat, HeartbeatAck, Abort, Shutdown, ShutdownAck, Error, CookieEcho, CookieAck, ShutdownComplete, ForwardTsn, IForwardTsn, Unknown}
use Rattle.sctp_model.specs.wire.Typed.{typed_in}
use Rattle.sctp_model.specs.wire.Packet.{Packet}
use Rattle.sctp_model.specs.sender.SenderView.{SenderView}
use Rattle.sctp_model.specs.sender.Readers.{drained}
use Rattle.sctp_model.specs.end.EndView.{Tags, Stage, Established, ShutdownPending, ShutdownSent, ShutdownReceived, ShutdownAckSent, Ended, Completed, Aborted, AbortedHere, StaleCookie, Phase, Idle, Listening, Calling, Echoing, Open, Over, AckAlarm, EndView}
use Rattle.sctp_model.specs.end.Clock.{is_home, closed}
use Rattle.sctp_model.specs.end.Closing.{hears, takes_acknowledgements, awaits_ack, awaits_complete, answers_shutdown}
use Rattle.sctp_model.specs.end.PeerFaults.{GoesOn, Ends, Replies, Note}
use Rattle.sctp_model.specs.end.Opening.{AcceptedAck, RefusedAck, EchoedAgain, CookieAcked}
use Rattle.sctp_model.specs.end.Beating.{beat_heard}
use Rattle.sctp_model.specs.end.Acting.{ReconfigComes, IsUnknown, Acts, PieceEmpty, WrongFormat, ForwardComes, PieceComes, WrongKind, IsBad, IsOld, SackStale, ShutdownStale, SackWrong, ShutdownWrong, HeartbeatCounts, SackCounts, ShutdownCounts, Closes, SaysNothing, Crosses, Again, AckCompletes, CompleteCompleted, shutdown_counted, Misnumbered}
use Rattle.sctp_model.specs.end.Arriving.{Notes, acknowledges, packet_ended, delays, kept_going}
use Rattle.sctp_safety.specs.States.{has_agreed}
use Rattle.sctp_safety.proofs.machine.Reconfigured.{parameters_same}
use Rattle.sctp_safety.proofs.machine.EndWords.{ended_cases}
use Rattle.sctp_safety.proofs.machine.Sides.{unknown_goes, unknown_ends, unknown_never_replies}
use Rattle.sctp_safety.proofs.runs.Acted.{not_calling}
use Rattle.sctp_safety.proofs.runs.Homes.{home_like, IsHome, home_turned, home_answers, home_acknowledges, home_renewed}
use Rattle.sctp_safety.proofs.runs.Ending.{was_told, is_last, IsDone, last_by_ack, AreEnding, ending_still, onward_same, onward_over, onward_complete, onward_open}

-- an endpoint that hears acknowledgements isn't done yet
heard_early : (g : Stage) → takes_acknowledgements g ≡ true → awaits_ack g ≡ true → ⊥
heard_early Established a b = absurd (cc)
heard_early ShutdownPending a b = absurd (cc)
heard_early ShutdownSent a b = absurd (cc)
heard_early ShutdownReceived a b = absurd (cc)
heard_early ShutdownAckSent a b = absurd (cc)

early : (h : Phase) → hears takes_acknowledgements h ≡ true → is_last h ≡ true → ⊥
early (Open t g) a b = heard_early g a b
early Idle a b = absurd (cc)
early Listening a b = absurd (cc)
early (Calling d) a b = absurd (cc)
early (Echoing t xs) a b = absurd (cc)
early (Over why) a b = absurd (cc)

completes_last : (h : Phase) → hears awaits_complete h ≡ true → (hears awaits_ack h ≡ true) × (hears was_told h ≡ true)
completes_last (Open t Established) on = absurd (cc)
completes_last (Open t ShutdownPending) on = absurd (cc)
completes_last (Open t ShutdownSent) on = absurd (cc)
completes_last (Open t ShutdownReceived) on = absurd (cc)
completes_last (Open t ShutdownAckSent) on = (refl, refl)
completes_last Idle on = absurd (cc)
completes_last Listening on = absurd (cc)
completes_last (Calling d) on = absurd (cc)
completes_last (Echoing t xs) on = absurd (cc)
completes_last (Over why) on = absurd (cc)

module _ (p : EndView) (out back : List ChunkMeaning) where
  abbrev Ending : EndView → Type 0
  Ending e = AreEnding e p out back

  -- the same state, the same sender
  still : (e t : EndView) → Ending e → IsHome t → t.phase ≡ e.phase → t.sender ≡ e.sender → Ending t
  still e t c home same sender =
      ending_still e p t out back c (onward_same p out back e t c home same (λ on. subst (λ (a : SenderView). drained a ≡ true) (sym sender) on))

  over : (e : EndView) (why : Ended) → (why ≡ Completed → ⊥) → Ending e → Ending (closed why e)
  over e why other c = ending_still e p (closed why e) out back c (onward_over p out back e why other)

  complete : (e : EndView) → Ending e → IsDone e → IsDone p → Ending (closed Completed e)
  complete e c d dp = ending_still e p (closed Completed e) out back c (onward_complete p out back e d dp)

  done_by_ack : (e : EndView) → Ending e → hears awaits_ack e.phase ≡ true → IsDone e
  done_by_ack e c on = record { empty = c.this.empty on; last = last_by_ack e.phase on }

  opens_early : (e : EndView) (k : Tags) (g : Stage) → e.phase ≡ Open k g → takes_acknowledgements g ≡ true → is_last e.phase ≡ true → ⊥
  opens_early e k g is on last = heard_early g on (subst (λ (h : Phase). is_last h ≡ true) is last)

  -- a sender that took an acknowledgement, in a state that hears them
  acknowledged : (e t : EndView) → Ending e → IsHome t → t.phase ≡ e.phase → hears takes_acknowledgements e.phase ≡ true → Ending t
  acknowledged e t c home same on = ending_still e p t out back c (record {
    home = home;
    empty = λ late. absurd (early e.phase on (last_by_ack e.phase (subst (λ (h : Phase). hears awaits_ack h ≡ true) same late)));
    told = λ told. c.this.told (subst (λ (h : Phase). hears was_told h ≡ true) same told);
    completed = λ is. absurd (let q : false ≡ true = subst (λ (h : Phase). hears takes_acknowledgements h ≡ true) (sym same ∙ is) on in cc);
    lasts = λ d. absurd (early e.phase on d.last);
  })

  -- the peer says that it is done
  hears_shutdown : (e t : EndView) (k : Tags) (g : Stage) (n : ℕ) → Ending e → Has back (Shutdown n) → e.phase ≡ Open k g → takes_acknowledgements g ≡ true → IsHome t →
      t.phase ≡ Open k ShutdownReceived → Ending t
  hears_shutdown e t k g n c has is on home now =
      ending_still e p t out back c (onward_open p out back e t k ShutdownReceived (opens_early e k g is on) home now (λ off. absurd (cc)) (λ told. (n, has)))

  -- both said so at once
  crosses : (e : EndView) (k : Tags) (n : ℕ) → Ending e → Has back (Shutdown n) → e.phase ≡ Open k ShutdownSent → Ending (answers_shutdown k e)
  crosses e k n c has is = ending_still e p (answers_shutdown k e) out back c (record {
    home = home_answers k e;
    empty = λ on. c.this.empty awaits;
    told = λ on. (n, has);
    completed = λ q. absurd (cc);
    lasts = λ d. record { empty = d.empty; last = refl };
  })
    where
      awaits : hears awaits_ack e.phase ≡ true
      awaits = subst (λ (h : Phase). hears awaits_ack h ≡ true) (sym is) refl

  pub goes : (e : EndView) (tag : ℕ) (x : ChunkMeaning) (y : Note) (t : EndView) → Has back x → has_agreed e.phase ≡ true → Ending e → Acts e tag x (GoesOn y t) → Ending t
  goes e tag (Data d) y t has m c (PieceComes k g o r is hears some same taken right) = still e t c (home_like e _ c.this.home refl refl refl refl refl) refl refl
  goes e tag (IData d) y t has m c (PieceComes k g o r is hears some same taken right) = still e t c (home_like e _ c.this.home refl refl refl refl refl) refl refl
  goes e tag (Init i) y t has m c h = absurd (cc)
  goes e tag (InitAck i) y t has m c (AcceptedAck d cookie is tagged value fault) = absurd (not_calling e.phase d is m)
  goes e tag (Sack s) y t has m c (SackStale hears fault) = c
  goes e tag (Sack s) y t has m c (SackCounts on none) = acknowledged e t c (home_like e _ c.this.home refl refl refl refl refl) refl on
  goes e tag (Heartbeat i) y t has m c (HeartbeatCounts on) = still e t c (home_like e _ c.this.home refl refl refl refl refl) refl refl
  goes e tag (HeartbeatAck i) y t has m c h = let q : t ≡ beat_heard e i = cc in subst Ending (sym q) (still e (beat_heard e i) c (home_like e _ c.this.home refl refl refl refl refl) refl refl)
  goes e tag (Abort b xs) y t has m c h = absurd (cc)
  goes e tag (Shutdown n) y t has m c (ShutdownStale k g is on fault) = hears_shutdown e t k g n c has is on (home_turned (Open k ShutdownReceived) e) refl
  goes e tag (Shutdown n) y t has m c (ShutdownCounts k g is on none) =
      hears_shutdown e t k g n c has is on (home_turned (Open k ShutdownReceived) (shutdown_counted e n)) refl
  goes e tag (Shutdown n) y t has m c (Crosses k is) = crosses e k n c has is
  goes e tag (Shutdown n) y t has m c (Again k is) = still e t c (record {
    shutdown = c.this.home.shutdown;
    ack = λ on. subst (λ (h : Phase). is_home AckAlarm h ≡ true) (sym is) refl;
    shutdown_runs = c.this.home.shutdown_runs;
    ack_runs = c.this.home.ack_runs;
  }) refl refl
  goes e tag ShutdownAck y t has m c h = elim h [ ]
  goes e tag (Error xs) y t has m c (SaysNothing off) = c
  goes e tag (CookieEcho xs) y t has m c (EchoedAgain _ _ _ _ _ _ _) = still e t c (home_like e _ c.this.home refl refl refl refl refl) refl refl
  goes e tag CookieAck y t has m c (CookieAcked k xs is) = ending_still e p t out back c (onward_open p out back e t k Established
      (λ last. let q : false ≡ true = subst (λ (h : Phase). is_last h ≡ true) is last in absurd (cc))
      (let h = home_turned (Open k Established) e in record { shutdown = h.shutdown; ack = h.ack; shutdown_runs = h.shutdown_runs; ack_runs = h.ack_runs }) refl
      (λ off. absurd (cc)) (λ off. absurd (cc)))
  goes e tag (ShutdownComplete b) y t has m c h = elim h [ ]
  goes e tag (ForwardTsn d) y t has m c (IsOld k g r is hears may taken) = still e t c (home_like e _ c.this.home refl refl refl refl refl) refl refl
  goes e tag (ForwardTsn d) y t has m c (ForwardComes k g r is hears may taken) = still e t c (home_like e _ c.this.home refl refl refl refl refl) refl refl
  goes e tag (IForwardTsn d) y t has m c (IsOld k g r is hears may taken) = still e t c (home_like e _ c.this.home refl refl refl refl refl) refl refl
  goes e tag (IForwardTsn d) y t has m c (ForwardComes k g r is hears may taken) = still e t c (home_like e _ c.this.home refl refl refl refl refl) refl refl
  goes e tag (Unknown k f w) y t has m c (ReconfigComes n takes cumulative) =
      let u = parameters_same n e (typed_in w) in
      ending_still e p t out back c (onward_same p out back e t c (home_like e t c.this.home u.phase u.shutdown u.ack u.shutdown_timer u.ack_timer) u.phase
      (λ on. subst (λ (a : SenderView). drained a ≡ true) (sym u.sender.1) on))
  goes e tag (Unknown k f w) y t has m c (IsUnknown _ off h) = subst Ending (sym (unknown_goes e y t k f w h).same) (still e _ c (home_like e _ c.this.home refl refl refl refl refl) refl refl)

  pub ends : (e : EndView) (tag : ℕ) (x : ChunkMeaning) (t : EndView) → Ending e → Acts e tag x (Ends t) → Ending t
  ends e tag (Data d) t c h = elim h [ ]
  ends e tag (IData d) t c h = elim h [ ]
  ends e tag (Init i) t c h = absurd (cc)
  ends e tag (InitAck i) t c h = elim h [ ]
  ends e tag (Sack s) t c h = elim h [ ]
  ends e tag (Heartbeat i) t c h = elim h [ ]
  ends e tag (HeartbeatAck i) t c h = absurd (cc)
  ends e tag (Abort b xs) t c h = let q : t ≡ closed Aborted e = cc in subst Ending (sym q) (over e Aborted (λ z. absurd (cc)) c)
  ends e tag (Shutdown n) t c h = elim h [ ]
  ends e tag ShutdownAck t c h = elim h [ ]
  ends e tag (Error xs) t c (Closes late) = over e StaleCookie (λ z. absurd (cc)) c
  ends e tag (CookieEcho xs) t c h = elim h [ ]
  ends e tag CookieAck t c h = elim h [ ]
  ends e tag (ShutdownComplete b) t c (CompleteCompleted on) =
      let last = completes_last e.phase on in
      let told = c.this.told last.1 in
      complete e c (done_by_ack e c last.0) (c.there.said (Shutdown told.0) told.1 refl)
  ends e tag (ForwardTsn d) t c h = elim h [ ]
  ends e tag (IForwardTsn d) t c h = elim h [ ]
  ends e tag (Unknown k f w) t c (IsUnknown _ off h) = subst Ending (sym (unknown_ends e t k f w h).same) (still e _ c (home_like e _ c.this.home refl refl refl refl refl) refl refl)

  fault : (e : EndView) → Ending e → Ending (closed AbortedHere e)
  fault e c = over e AbortedHere (λ z. absurd (cc)) c

  pub replies : (e : EndView) (tag : ℕ) (x : ChunkMeaning) (t : EndView) (r : Packet) → Has back x → Ending e → Acts e tag x (Replies t r) → Ending t
  replies e tag (Data d) t r has c (PieceEmpty _ _ _ _ _) = fault e c
  replies e tag (Data d) t r has c (WrongFormat _ _ _ _ _ _) = fault e c
  replies e tag (Data d) t r has c (Misnumbered _ _ _ _ _ _ _ _ _) = fault e c
  replies e tag (IData d) t r has c (PieceEmpty _ _ _ _ _) = fault e c
  replies e tag (IData d) t r has c (WrongFormat _ _ _ _ _ _) = fault e c
  replies e tag (IData d) t r has c (Misnumbered _ _ _ _ _ _ _ _ _) = fault e c
  replies e tag (Init i) t r has c h = absurd (cc)
  replies e tag (InitAck i) t r has c (RefusedAck _ _ _ _ _) = fault e c
  replies e tag (Sack s) t r has c (SackWrong _ _ _ _ _) = fault e c
  replies e tag (Heartbeat i) t r has c h = elim h [ ]
  replies e tag (HeartbeatAck i) t r has c h = absurd (cc)
  replies e tag (Abort b xs) t r has c h = absurd (cc)
  replies e tag (Shutdown n) t r has c (ShutdownWrong _ _ _ _ _) = fault e c
  replies e tag ShutdownAck t r has c (AckCompletes k g is on) =
      complete e c (done_by_ack e c (subst (λ (h : Phase). hears awaits_ack h ≡ true) (sym is) on)) (c.there.said ShutdownAck has refl)
  replies e tag (Error xs) t r has c h = elim h [ ]
  replies e tag (CookieEcho xs) t r has c h = elim h [ ]
  replies e tag CookieAck t r has c h = elim h [ ]
  replies e tag (ShutdownComplete b) t r has c h = elim h [ ]
  replies e tag (ForwardTsn d) t r has c (WrongKind _ _ _ _ _) = fault e c
  replies e tag (ForwardTsn d) t r has c (IsBad _ _ _ _ _ _ _) = fault e c
  replies e tag (IForwardTsn d) t r has c (WrongKind _ _ _ _ _) = fault e c
  replies e tag (IForwardTsn d) t r has c (IsBad _ _ _ _ _ _ _) = fault e c
  replies e tag (Unknown k f w) t r has c (IsUnknown _ off h) = absurd (unknown_never_replies e t r k f w h)

  -- ---- the end of a packet

  pub ending_ended : (n : Notes) (e : EndView) → Ending e → Ending (packet_ended n e)
  ending_ended n e c = ended_cases Ending n e c (λ k g is. still e (acknowledges g e) c (home_acknowledges k g e is c.this.home) refl refl)
      (λ k g is. still e (delays e) c (home_like e (delays e) c.this.home refl refl refl refl refl) refl refl)
      (λ x k. still x (kept_going true x) k (home_renewed x k.this.home) refl refl)
