-- Two endpoints that have not met: what a packet does at each of them, and what each says.
use Rattle.std.proofs.Common.{◌≡◌, ℕ, ◌⊎◌, true, false, List, [], ◌∷◌, drop, Option, Some, None, inl, inr, refl, sym, subst, ap, ◌∙◌, Bool}
use Rattle.sctp_model.specs.numbers.Lists.{Has}
use Rattle.sctp_model.specs.wire.Chunk.{InitMeaning, ChunkMeaning, Init, InitAck, CookieEcho, CookieAck}
use Rattle.sctp_model.specs.wire.Packet.{Packet}
use Rattle.sctp_model.specs.end.Sealing.{Body, Sealing}
use Rattle.sctp_model.specs.end.EndView.{Phase, Idle, Listening, Calling, Echoing, Open, Over, EndView, has_association}
use Rattle.sctp_model.specs.end.Configured.{IsConfiguration}
use Rattle.sctp_model.specs.end.Opening.{init_ack, begun}
use Rattle.sctp_model.specs.end.Strays.{Verdict, Taken, Dropped, Answer, stray_verdict}
use Rattle.sctp_model.specs.end.Wearing.{missed_below, wearing}
use Rattle.sctp_model.specs.end.Arriving.{AllAct, Arrives, Elsewhere, NotOurs, Stray, CookieBegins, Heard, Notes, no_notes, noted, packet_ended, urged}
use Rattle.sctp_model.specs.end.Passing.{passes_chunks}
use Rattle.sctp_model.specs.end.PeerFaults.{Unnoted}
use Rattle.sctp_model.specs.world.World.{Side, A, B, World, end_now, Setup, configuration_of}
use Rattle.sctp_safety.specs.States.{IsLaterEnd, has_agreed}
use Rattle.sctp_safety.specs.Strangers.{IsDrawn}
use Rattle.sctp_safety.specs.Agreement.{AreAgreed, AreEachOthers, was_open}
use Rattle.sctp_safety.proofs.machine.Strangers.{IsFound, found_is, none_left, GoesBy, Zero, Tag, goes_by, passing_is_own, listener_is, nothing_found, stranger_stays}
use Rattle.sctp_safety.proofs.machine.Turns.{Stays, plain_on, plain_ended}
use Rattle.sctp_safety.proofs.machine.TurnsOfTime.{plain_worn}
use Rattle.sctp_safety.proofs.machine.Diagram.{acts_later, later_ended}
use Rattle.sctp_safety.proofs.machine.AnswerToInit.{init_of, init_answered}
use Rattle.sctp_safety.proofs.machine.Answering.{opens_association, OpensNothing, acts_answer, AnswersInit, stray_answer}
use Rattle.sctp_safety.proofs.machine.CallerFacts.{InitFits, AckFits, IsFit, IsCaller, in_more, caller_is_told, caller_turns, caller_acts, caller_plain}
use Rattle.sctp_safety.proofs.machine.OneEnd.{bag_with, answer_of}
use Rattle.sctp_safety.proofs.machine.Ground.{IsWell, well_now, IsGrounded}
use Rattle.sctp_safety.proofs.machine.Met.{path_open, path_tags, listener_path}
use Rattle.sctp_safety.proofs.machine.Fronts.{IsFront, From, FromPeer, FromOutside}

-- A listener's bag holds INIT ACKs, and no other chunk of the opening.
abbrev pub IsListeners : ChunkMeaning → Type 0
IsListeners x = (opens_association x ≡ false) ⊎ ((m : InitMeaning) × (x ≡ InitAck m))

-- Two endpoints apart, with their bags.
pub record IsApart (s : Setup) (drawn : List ℕ) (a b : EndView) (out back : List Packet) : Type 0 where
  pub listens : b.phase ≡ Listening
  pub caller : IsCaller s drawn out back a
  pub answers : (p : Packet) (x : ChunkMeaning) → Has back p → Has p.chunks x → IsListeners x

-- no INIT and no COOKIE ACK is a listener's
no_init : (m : InitMeaning) → IsListeners (Init m) → ⊥
no_init m (inl e) = absurd (cc)
no_init m (inr (x, e)) = absurd (cc)

no_cookie_ack : IsListeners CookieAck → ⊥
no_cookie_ack (inl e) = absurd (cc)
no_cookie_ack (inr (x, e)) = absurd (cc)

-- what an endpoint that isn't the listener may answer
abbrev pub IsQuiet : Option Packet → Type 0
IsQuiet None = Unit {0}
IsQuiet (Some p) = OpensNothing p

quiet_by : (v : Verdict) → ((p : Packet) → v ≡ Answer p → OpensNothing p) → IsQuiet (answer_of v)
quiet_by Taken h = tt
quiet_by (Dropped n) h = tt
quiet_by (Answer p) h = h p refl

module _ (s : Setup) (drawn : List ℕ) (w : World) (ground : IsGrounded s drawn w) (apart : IsApart s drawn w.a w.b w.from_a w.from_b) where
  -- ---- the caller

  caller_now : IsCaller s drawn w.from_a w.from_b (end_now w A)
  caller_now = caller_turns s drawn w.from_a w.from_b w.a (end_now w A) refl refl (Stays w.a.phase) apart.caller

  -- the listener's packet, at a caller that has called
  caller_hears : (q : Packet) (t : EndView) (n : Notes) (gap : Bool) (v : Verdict) (p : Packet) → Has w.from_b p → IsFront p q → has_association (end_now w A).phase ≡ true →
      (xs : List ChunkMeaning) → q.chunks ≡ xs → passes_chunks (end_now w A).phase q.tag xs ≡ true → AllAct q.tag (end_now w A) no_notes xs t n v → IsCaller s drawn w.from_a w.from_b (packet_ended (urged gap n) (wearing (missed_below (end_now w A).pace) t))
  caller_hears q t n gap v p here f has [] same may acts = subst (IsCaller s drawn w.from_a w.from_b) (sym (none_left q.tag (end_now w A) t n gap v acts)) caller_now
  caller_hears q t n gap v p here f has (x ∷ xs) same may acts = by x refl (goes_by (end_now w A).phase x q.tag may)
    where
      held : (y : ChunkMeaning) → Has (x ∷ xs) y → Has p.chunks y
      held y h = f.chunks y (subst (λ (ys : List ChunkMeaning). Has ys y) (sym same) h)

      by : (y : ChunkMeaning) → x ≡ y → GoesBy (end_now w A).phase q.tag y → IsCaller s drawn w.from_a w.from_b (packet_ended (urged gap n) (wearing (missed_below (end_now w A).pace) t))
      by y e (Tag _ reflected through) =
          let k = missed_below (end_now w A).pace in
          let u = wearing k t in
          caller_plain s drawn w.from_a w.from_b t (packet_ended (urged gap n) u) (plain_on t u (packet_ended (urged gap n) u) (plain_worn k t) (plain_ended (urged gap n) u)) (caller_acts s drawn w.from_a w.from_b p here
          (subst (Has drawn) f.tag (apart.caller.drawn_tags q.tag (passing_is_own (end_now w A).phase reflected q.tag has through)))
          (λ h. no_cookie_ack (apart.answers p CookieAck here h)) q.tag (end_now w A) no_notes (x ∷ xs) t n v held has caller_now acts)
      by y e (Zero m) = absurd (no_init m (apart.answers p (Init m) here (held (Init m) (inl e))))

  pub caller_comes : (q : Packet) (t : EndView) (v : Verdict) → From s drawn w A q → Arrives (end_now w A) w.draw q t v → IsCaller s drawn w.from_a w.from_b t
  caller_comes q t v (FromOutside strange alone) arrives =
      subst (IsCaller s drawn w.from_a w.from_b)
      (sym (stranger_stays s.sealing drawn (end_now w A) w.draw q t v strange alone caller_now.drawn_tags (ground.ends A).seal arrives)) caller_now
  caller_comes q t v (FromPeer p here f) (Elsewhere ports) = caller_now
  caller_comes q t v (FromPeer p here f) (NotOurs ports may) = caller_now
  caller_comes q t v (FromPeer p here f) (Stray ports may none closed) = caller_now
  caller_comes q t v (FromPeer p here f) (CookieBegins b _ _ _ ports may none opens acts gap _) = absurd (caller_now.calls (found_is (end_now w A) q.tag q.chunks b opens).phase)
  caller_comes q t v (FromPeer p here f) (Heard u n _ ports may has acts gap _) = caller_hears q u n gap v p here f has q.chunks refl may acts

  -- what it answers opens nothing
  pub caller_quiet : (q : Packet) (t : EndView) (v : Verdict) → Arrives (end_now w A) w.draw q t v → IsQuiet (answer_of v)
  caller_quiet q t v (Elsewhere ports) = tt
  caller_quiet q t v (NotOurs ports may) = tt
  caller_quiet q t v (Stray ports may none closed) = quiet_by v (λ r is. by r (stray_answer (end_now w A) w.draw q r is))
    where
      by : (r : Packet) → OpensNothing r ⊎ AnswersInit (end_now w A) w.draw q r → OpensNothing r
      by r (inl off) = off
      by r (inr a) = absurd (caller_now.calls ((listener_is (end_now w A).phase (end_now w A).role a.seal a.listening).0))
  caller_quiet q t v (CookieBegins b _ _ _ ports may none opens acts gap _) = absurd (caller_now.calls (found_is (end_now w A) q.tag q.chunks b opens).phase)
  caller_quiet q t v (Heard u n _ ports may has acts gap _) = quiet_by v (λ r is. acts_answer q.tag (end_now w A) no_notes q.chunks u n v acts r is)

  -- ---- the listener

  -- What a packet leaves at the listener: it listens still, whatever it answered, or it has met the caller.
  pub data Listened (t : EndView) (given : Option Packet) : Type 0 where
    Listens : t.phase ≡ Listening → IsCaller s drawn w.from_a (bag_with w.from_b given) w.a →
        ((p : Packet) (x : ChunkMeaning) → Has (bag_with w.from_b given) p → Has p.chunks x → IsListeners x) → Listened t given
    Joins : has_agreed w.a.phase ≡ true → was_open t.phase ≡ true → AreAgreed w.a.terms t.terms → AreEachOthers w.a.phase t.phase → IsDrawn drawn t.phase → Listened t given

  -- a packet that it may give
  pub record IsGiven (p : Packet) : Type 0 where
    pub acks : (m : InitMeaning) → Has drawn p.tag → Has p.chunks (InitAck m) → AckFits s drawn w.a.phase m
    pub chunks : (x : ChunkMeaning) → Has p.chunks x → IsListeners x

  pub given_quiet : (p : Packet) → OpensNothing p → IsGiven p
  given_quiet p off = record { acks = λ m tag h. let q = off (InitAck m) h in absurd (cc); chunks = λ x h. inl (off x h) }

  pub listens_on : (t : EndView) (given : Option Packet) → t.phase ≡ Listening → ((p : Packet) → given ≡ Some p → IsGiven p) → Listened t given
  listens_on t None is all = Listens is apart.caller apart.answers
  listens_on t (Some r) is all =
      Listens is (caller_is_told s drawn w.from_a w.from_b w.a r apart.caller (λ m tag h. (all r refl).acks m tag h))
      (λ p x h. in_more r w.from_b p (λ (q : Packet). (y : ChunkMeaning) → Has q.chunks y → IsListeners y) (λ q k y. apart.answers q y k) (all r refl).chunks h x)

  module _ (configured : (x : Side) → IsConfiguration (configuration_of s x)) where
    listener_well : IsWell s B (end_now w B)
    listener_well = well_now s B w.b w.clock_b (ground.clock B) (ground.ends B)

    -- the answer to an INIT
    given_ack : (q r : Packet) → From s drawn w B q → AnswersInit (end_now w B) w.draw q r → IsGiven r
    given_ack q r from a = record { acks = acks; chunks = λ x h. by_chunk x (subst (λ (p : Packet). Has p.chunks x) a.answer h) }
      where
        m0 : InitMeaning
        m0 = a.init

        ack : ChunkMeaning
        ack = init_ack a.seal (end_now w B) w.draw m0

        by_chunk : (x : ChunkMeaning) → Has (ack ∷ []) x → IsListeners x
        by_chunk x (inl e) = inr (_, sym e)
        by_chunk x (inr none) = elim none [ ]

        seal : a.seal ≡ s.sealing
        seal = listener_well.seal a.seal ((listener_is (end_now w B).phase (end_now w B).role a.seal a.listening).1)

        fits : (h : Phase) → w.a.phase ≡ h → InitFits s h m0 → (m : InitMeaning) → ack ≡ InitAck m → AckFits s drawn h m
        fits Idle is none m e = elim none [ ]
        fits (Calling d) is same m e =
            init_answered s configured drawn d w.draw (apart.caller.draws d is) ground.draw (end_now w B) listener_well.configuration listener_well.moment ground.draw_tag m
            (sym (ap (λ (z : Sealing). init_ack z (end_now w B) w.draw (init_of s d)) seal) ∙ sym (ap (init_ack a.seal (end_now w B) w.draw) same) ∙ e)
        fits Listening is u m e = tt
        fits (Echoing t xs) is u m e = tt
        fits (Open t g) is u m e = tt
        fits (Over why) is u m e = tt

        answers : From s drawn w B q → (m : InitMeaning) → Has drawn m0.tag → ack ≡ InitAck m → AckFits s drawn w.a.phase m
        answers (FromOutside strange alone) m tag e = absurd (strange.chunks (Init m0) a.held tag)
        answers (FromPeer p here f) m tag e = fits w.a.phase refl (apart.caller.inits p m0 here (f.chunks (Init m0) a.held)) m e

        acks : (m : InitMeaning) → Has drawn r.tag → Has r.chunks (InitAck m) → AckFits s drawn w.a.phase m
        acks m tag h = by (subst (λ (p : Packet). Has p.chunks (InitAck m)) a.answer h)
          where
            by : Has (ack ∷ []) (InitAck m) → AckFits s drawn w.a.phase m
            by (inl e) = answers from m (subst (λ (p : Packet). Has drawn p.tag) a.answer tag) e
            by (inr none) = elim none [ ]

    -- a cookie that opens
    joins : (q : Packet) (t : EndView) (n : Notes) (gap : Bool) (v : Verdict) (b : Body) → IsFit drawn w.a b → AllAct q.tag (begun b (end_now w B)) (noted Unnoted no_notes) (drop 1 q.chunks) t n v → Listened (packet_ended (urged gap n) t) (answer_of v)
    joins q t n gap v b fit acts = Joins fit.agreed (path_open _ (packet_ended (urged gap n) t).phase refl later.path)
        (subst (AreAgreed w.a.terms) (sym (later.terms refl)) fit.terms)
        (listener_path w.a.phase _ (packet_ended (urged gap n) t).phase refl later.path fit.tags)
        (λ i h. tags i (path_tags _ (packet_ended (urged gap n) t).phase refl later.path i h))
      where
        later : IsLaterEnd (begun b (end_now w B)) (packet_ended (urged gap n) t)
        later = later_ended (begun b (end_now w B)) t (urged gap n) (acts_later q.tag (begun b (end_now w B)) (noted Unnoted no_notes) (drop 1 q.chunks) t n v refl acts)

        tags : (n : ℕ) → Has (b.listener.tag ∷ b.caller.tag ∷ []) n → Has drawn n
        tags n (inl e) = subst (Has drawn) e fit.listener_tag
        tags n (inr (inl e)) = subst (Has drawn) e fit.caller_tag
        tags n (inr (inr none)) = elim none [ ]

    pub listener_comes : (q : Packet) (t : EndView) (v : Verdict) → From s drawn w B q → Arrives (end_now w B) w.draw q t v → Listened t (answer_of v)
    listener_comes q t v from (Elsewhere ports) = listens_on (end_now w B) None apart.listens (λ p is. absurd (cc))
    listener_comes q t v from (NotOurs ports may) = listens_on (end_now w B) None apart.listens (λ p is. absurd (cc))
    listener_comes q t v from (Stray ports may none closed) = listens_on (end_now w B) (answer_of v) apart.listens (λ r is. by r (given_is v r is))
      where
        given_is : (d : Verdict) (r : Packet) → answer_of d ≡ Some r → d ≡ Answer r
        given_is Taken r e = absurd (cc)
        given_is (Dropped n) r e = absurd (cc)
        given_is (Answer p) r e = let q : p ≡ r = cc in ap (λ (x : Packet). Answer x) q

        split : (r : Packet) → OpensNothing r ⊎ AnswersInit (end_now w B) w.draw q r → IsGiven r
        split r (inl off) = given_quiet r off
        split r (inr a) = given_ack q r from a

        by : (r : Packet) → stray_verdict (end_now w B) w.draw q ≡ Answer r → IsGiven r
        by r is = split r (stray_answer (end_now w B) w.draw q r is)
    listener_comes q t v from (CookieBegins b u n _ ports may none opens acts gap _) = by from
      where
        found : IsFound (end_now w B) q.tag q.chunks b
        found = found_is (end_now w B) q.tag q.chunks b opens

        held : Has q.chunks (CookieEcho found.cookie)
        held = subst (λ (xs : List ChunkMeaning). Has xs (CookieEcho found.cookie)) (sym found.chunks) (inl refl)

        opened : s.sealing.opened found.cookie ≡ Some b
        opened = subst (λ (z : Sealing). z.opened found.cookie ≡ Some b) (listener_well.seal found.seal found.role) found.opens

        by : From s drawn w B q → Listened (packet_ended (urged gap n) u) (answer_of v)
        by (FromOutside strange alone) =
            absurd (nothing_found s.sealing drawn (end_now w B) u n gap q v strange (subst (IsDrawn drawn) (sym apart.listens) (λ n x. elim x [ ])) listener_well.seal b found)
        by (FromPeer p here f) = joins q u n gap v b (apart.caller.echoed p found.cookie b here (f.chunks (CookieEcho found.cookie) held) opened) acts
    listener_comes q t v from (Heard _ _ _ ports may has acts gap _) = let h : false ≡ true = subst (λ (k : Phase). has_association k ≡ true) apart.listens has in absurd (cc)
