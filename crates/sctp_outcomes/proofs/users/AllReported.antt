-- Of each stream all resets that began were reported to the peer's user, but one that is to be reported, and one that isn't done.
use Rattle.std.proofs.Common.{◌≡◌, ◌∙◌, ℕ, ◌+◌, ◌<◌, ◌≤◌, ◌⊎◌, ◌==◌, ◌&&◌, if◌then◌else◌, nat_le, not, is_some, Bool, true, false, List, [], ◌∷◌, Option, Some, None, inl, inr, refl, sym, subst, ap, arith}
use Rattle.std.proofs.lemmas.Bool.{and_parts}
use Rattle.std.proofs.lemmas.Bool.Decides.{nat_tests}
use Rattle.sctp_model.specs.numbers.Lists.{Has, at}
use Rattle.sctp_model.specs.wire.Packet.{Packet}
use Rattle.sctp_model.specs.sender.Outgoing.{is_sending, Sending, Resets}
use Rattle.sctp_model.specs.end.Configured.{IsConfiguration}
use Rattle.sctp_model.specs.end.EndView.{Phase, Idle, Listening, Calling, Echoing, Open, Over, EndView, ended_of}
use Rattle.sctp_model.specs.end.Closing.{hears}
use Rattle.sctp_model.specs.end.UserCalls.{is_established, ResetCall, Begun, NotAgreed, NoStream, reset_call, reset_leaves}
use Rattle.sctp_model.specs.world.World.{Side, A, B, other, World, end_of, with_end, Setup, configuration_of, start}
use Rattle.sctp_model.specs.world.Events.{Event, OpenBoth, Later, Moment, At, Drawing, Connect, Build, Deliver, Foreign, Send, Abandon, Take, Reset, WasReset, Shutdown, Abort, Outcome, Done, ResetThere, reset_told}
use Rattle.sctp_model.specs.world.Steps.{Step, OpensBoth, OpenRefused, TimePasses, TimeGoesOn, MomentComes, Draws, Connects, ConnectRefused, BuildsOne, BuildsNone, PacketComes, PacketCut, IsAbsent, Sends, AbandonsOne, TakesOne, ResetsOne, TellsReset, ShutsDown, AbortsIt, NoMemory, Brings, FromBag, FromStranger, NoPacket, PassesThrough, last_of}
use Rattle.sctp_model.specs.world.Premises.{drawn_in}
use Rattle.sctp_safety.specs.Parted.{Asks}
use Rattle.sctp_safety.proofs.machine.EndsAgree.{fine_by}
use Rattle.sctp_safety.proofs.machine.Ground.{IsFine}
use Rattle.sctp_safety.proofs.runs.DatedBags.{Dates}
use Rattle.sctp_safety.proofs.runs.Dating.{dates_of, AllKept, kept_in_time}
use Rattle.sctp_safety.proofs.runs.ResetFacts.{IsNoted}
use Rattle.sctp_safety.proofs.runs.Safety.{IsSteady, steady_step}
use Rattle.sctp_safety.proofs.runs.parted.Ongoing.{IsHeard, Delivered, Injected}
use Rattle.sctp_safety.proofs.runs.parted.Parting.{StepResets, step_resets, steady_start, asks_met, asks_shut}
use Rattle.sctp_outcomes.specs.Users.{same_side, sent_by}
use Rattle.sctp_outcomes.specs.Parted.{is_reset, is_reported, one_if, count_of}
use Rattle.sctp_outcomes.proofs.users.ReportedOnce.{side_is}
use Rattle.sctp_outcomes.specs.AllReported.{arrives_at, NoneIsLeft, HearsToldOnly, begins_reset, resets_begun, to_report, under_way, ResetsAreAllReported}

-- ---- events

same_self : (y : Side) → same_side y y ≡ true
same_self A = refl
same_self B = refl

-- a packet that arrives is no reset, and reports none
pub heard_quiet : (x : Side) (n : ℕ) (e : Event) (o : Option Outcome) → IsHeard x e → (is_reset x n e o ≡ false) × ((is_reported (other x) n e o ≡ false) × (arrives_at (other x) e ≡ true))
heard_quiet x n e o (Delivered k) = (refl, (refl, same_self (other x)))
heard_quiet x n e o (Injected p) = (refl, (refl, same_self (other x)))

-- a packet that arrives finds no reset of a stream that is there to be reported
pub none_heard : (x : Side) (n : ℕ) (w : World) (e : Event) → IsHeard x e → n < (end_of w (other x)).receiver.streams → (arrives_at (other x) e ≡ false) ⊎ NoneIsLeft (end_of w (other x)) n →
    (end_of w (other x)).receiver.resets.told n ≡ None
none_heard x n w e heard there (inl off) = absurd (let on = (heard_quiet x n e None heard).1.1 in cc (off, on))
none_heard x n w e heard there (inr (inl none)) = none
none_heard x n w e heard there (inr (inr beyond)) = absurd (omega (arith, there, beyond))

-- a reset that was to be reported is, by this event
pub reports_it : (y : Side) (n k : ℕ) (e : Event) (o : Option Outcome) → e ≡ WasReset y → o ≡ Some (ResetThere n k) → is_reported y n e o ≡ true
reports_it y n k e o is told =
    subst (λ (f : Event). is_reported y n f o ≡ true) (sym is) (subst (λ (p : Option Outcome). is_reported y n (WasReset y) p ≡ true) (sym told)
    (let side = same_self y in let number : (n == n) ≡ true = grind (arith, nat_tests) in rw (side, number) refl))

-- ---- an accepted reset shuts its stream, and is no message

-- no packet is one
packet_off : (w : World) (e : Event) (z : Side) (p : Option Packet) → Brings w e z p → (x : Side) (n : ℕ) (o : Option Outcome) → is_reset x n e o ≡ false
packet_off w e z p (FromBag _ _ _ _) x n o = refl
packet_off w e z p (FromStranger _ _ _) x n o = refl
packet_off w e z p (NoPacket _) x n o = refl

-- nor does an allocation failure
pub none_off : (e : Event) (x : Side) (n : ℕ) → is_reset x n e None ≡ false
none_off (OpenBoth a b) x n = refl
none_off (Later s m) x n = refl
none_off (Moment s) x n = refl
none_off (At m) x n = refl
none_off (Drawing d) x n = refl
none_off (Connect d) x n = refl
none_off (Build s) x n = refl
none_off (Deliver s k) x n = refl
none_off (Foreign s p) x n = refl
none_off (Send s c) x n = refl
none_off (Abandon s k) x n = refl
none_off (Take s k) x n = refl
none_off (Reset s k) x n = refl
none_off (WasReset s) x n = refl
none_off (Shutdown s) x n = refl
none_off (Abort s r) x n = refl

same_at : (f : ℕ → Sending) (i : ℕ) (z : Sending) → at f i z i ≡ z
same_at f i z = let number : (i == i) ≡ true = grind (arith, nat_tests) in rw number refl

-- an established endpoint isn't over
established_lives : (h : Phase) → hears is_established h ≡ true → ended_of h ≡ None
established_lives Idle on = refl
established_lives Listening on = refl
established_lives (Calling d) on = refl
established_lives (Echoing t xs) on = refl
established_lives (Open t g) on = refl
established_lives (Over why) on = absurd (cc)

begun_lives : (e : EndView) (m : ℕ) → reset_call e m ≡ Begun → ended_of e.phase ≡ None
begun_lives e m is = go e.terms.reset (hears is_established e.phase) refl is
  where
    go : (a b : Bool) → hears is_established e.phase ≡ b → (if not (a && b) then NotAgreed else if nat_le e.sender.streams m then NoStream else Begun) ≡ Begun → ended_of e.phase ≡ None
    go true true on begun = established_lives e.phase on
    go true false off begun = absurd (cc)
    go false b any begun = absurd (cc)

-- an accepted reset: it is that call, at an endpoint that lives; it shuts its stream, and is no message
pub record IsAccepted (x : Side) (n : ℕ) (w : World) (e : Event) (o : Option Outcome) (v : World) : Type 0 where
  pub call : e ≡ Reset x n
  pub answer : o ≡ Some Done
  pub alive : ended_of (end_of w x).phase ≡ None
  pub shut : is_sending ((end_of v x).sender.resets.sending n) ≡ false
  pub silent : sent_by x e o ≡ []

pub reset_shuts : (w : World) (e : Event) (o : Option Outcome) (v : World) → Step w e o v → (x : Side) (n : ℕ) → is_reset x n e o ≡ true → IsAccepted x n w e o v
reset_shuts w e o v (OpensBoth _ _ _ _ _ _) x n on = absurd (cc)
reset_shuts w e o v (OpenRefused _ _ _) x n on = absurd (cc)
reset_shuts w e o v (TimeGoesOn z m small) x n on = absurd (cc)
reset_shuts w e o v (MomentComes z) x n on = absurd (cc)
reset_shuts w e o v (TimePasses m small) x n on = absurd (cc)
reset_shuts w e o v (Draws d dd) x n on = absurd (cc)
reset_shuts w e o v (Connects d dd answer) x n on = absurd (cc)
reset_shuts w e o v (ConnectRefused d answer) x n on = absurd (cc)
reset_shuts w e o v (BuildsOne z c cs t b) x n on = absurd (cc)
reset_shuts w e o v (BuildsNone z t b) x n on = absurd (cc)
reset_shuts w e o v (PacketComes _ z p t d brings received) x n on = absurd (let off = packet_off w e z p brings x n o in cc (off, on))
reset_shuts w e o v (PacketCut _ z p t brings cut) x n on = absurd (let off = packet_off w e z p brings x n o in cc (off, on))
reset_shuts w e o v (IsAbsent z i none) x n on = absurd (cc)
reset_shuts w e o v (Sends z c) x n on = absurd (cc)
reset_shuts w e o v (AbandonsOne z i) x n on = absurd (cc)
reset_shuts w e o v (TakesOne z m h t takes) x n on = absurd (cc)
reset_shuts w e o v (ResetsOne z m) x n on = by (reset_call (end_of w z) m) refl on
  where
    after : (z x : Side) → same_side z x ≡ true → (t : EndView) → end_of (with_end w z t) x ≡ t
    after A A on t = refl
    after B B on t = refl
    after A B on t = absurd (cc)
    after B A on t = absurd (cc)

    by : (a : ResetCall) → reset_call (end_of w z) m ≡ a → is_reset x n (Reset z m) (Some (reset_told a)) ≡ true →
        IsAccepted x n w (Reset z m) (Some (reset_told a)) (with_end w z (reset_leaves a (end_of w z) m))
    by Begun is h =
        let parts = and_parts (same_side z x) (n == m) h in
        let same : n ≡ m = (let q = parts.1 in grind (arith, nat_tests, q)) in
        let side : z ≡ x = side_is z x parts.0 in
        record {
          call = ap (λ (y : Side). Reset y m) side ∙ ap (Reset x) (sym same);
          answer = refl;
          alive = subst (λ (y : Side). ended_of (end_of w y).phase ≡ None) side (begun_lives (end_of w z) m is);
          shut = subst (λ (t : EndView). is_sending (t.sender.resets.sending n) ≡ false) (sym (after z x parts.0 (reset_leaves Begun (end_of w z) m)))
              (subst (λ (i : ℕ). is_sending (at (end_of w z).sender.resets.sending i Resets n) ≡ false) same
              (ap is_sending (same_at (end_of w z).sender.resets.sending n Resets)));
          silent = refl;
        }
    by NotAgreed is h = absurd (cc)
    by NoStream is h = absurd (cc)
reset_shuts w e o v (TellsReset z) x n on = absurd (cc)
reset_shuts w e o v (ShutsDown z) x n on = absurd (cc)
reset_shuts w e o v (AbortsIt z why) x n on = absurd (cc)
reset_shuts w e o v (NoMemory _ no_packet) x n on = absurd (let off = none_off e x n in cc (off, on))

-- ---- one event

module _ (x : Side) (n : ℕ) where
  abbrev pub waiting : World → ℕ
  waiting w = to_report w (other x) n

  abbrev pub open_still : World → ℕ
  open_still w = under_way w x n

  abbrev pub Noted : World → Type 0
  Noted w = IsNoted (end_of w x).sender (end_of w (other x)).receiver n

  -- This number was reported, and this number began: one may be to be reported, and one under way, but not if that was performed.
  pub record Covers (reported begun : ℕ) (w : World) : Type 0 where
    pub within : begun ≤ reported + (waiting w + open_still w)
    pub noted : Noted w → begun ≤ reported + waiting w

  module _ (d : Dates) (t a : ℕ) (w v : World) (e : Event) (o : Option Outcome) (r : StepResets d x n w e o v) (step : Step w e o v)
      (told : (arrives_at (other x) e ≡ false) ⊎ NoneIsLeft (end_of w (other x)) n)
      (shut : IsNoted (end_of w x).sender (end_of w (other x)).receiver n → is_sending ((end_of w x).sender.resets.sending n) ≡ false)
      (asks_off : Asks (end_of w x).sender n → is_sending ((end_of w x).sender.resets.sending n) ≡ false) (c : Covers t a w) where
    abbrev pub report : ℕ
    report = one_if (is_reported (other x) n e o)

    -- what is to be reported is reported, or is to be still
    stays : waiting w ≤ waiting v + report
    stays = by (is_some ((end_of w (other x)).receiver.resets.told n)) refl
      where
        by : (b : Bool) → is_some ((end_of w (other x)).receiver.resets.told n) ≡ b → one_if b ≤ waiting v + report
        by false off = omega arith
        by true on = elim (r.kept on) [
          | inl still ↦ let one : waiting v ≡ 1 = ap one_if still in let z : one_if true ≡ 1 = refl in omega (arith, one, z)
          | inr (k, is, answer) ↦ let one : report ≡ 1 = ap one_if (reports_it (other x) n k e o is answer) in let z : one_if true ≡ 1 = refl in omega (arith, one, z)
        ]

    -- none begins on a stream that takes no message
    begins_not : is_sending ((end_of w x).sender.resets.sending n) ≡ false → one_if (begins_reset x n w e o) ≡ 0
    begins_not off = by (is_reset x n e o)
      where
        by : (b : Bool) → one_if (b && is_sending ((end_of w x).sender.resets.sending n)) ≡ 0
        by true = rw off refl
        by false = refl

    open_off : (u : World) → is_sending ((end_of u x).sender.resets.sending n) ≡ true → open_still u ≡ 0
    open_off u on = rw on refl

    open_on : (u : World) → is_sending ((end_of u x).sender.resets.sending n) ≡ false → open_still u ≡ 1
    open_on u off = rw off refl

    most_one : (b : Bool) → one_if b ≤ 1
    most_one true = omega arith
    most_one false = omega arith

    within_now : (b : Bool) → begins_reset x n w e o ≡ b → (f : Bool) → is_sending ((end_of v x).sender.resets.sending n) ≡ f → a + one_if b ≤ (t + report) + (waiting v + open_still v)
    within_now true begins f after =
        let both = and_parts (is_reset x n e o) (is_sending ((end_of w x).sender.resets.sending n)) begins in
        let was = open_off w both.1 in
        let now = open_on v (reset_shuts w e o v step x n both.0).shut in
        let low = c.within in
        let s = stays in
        let one : one_if true ≡ 1 = refl in
        omega (arith, was, now, low, s, one)
    within_now false off false shut_now =
        let now = open_on v shut_now in
        let was = most_one (not (is_sending ((end_of w x).sender.resets.sending n))) in
        let low = c.within in
        let s = stays in
        let none : one_if false ≡ 0 = refl in
        omega (arith, now, was, low, s, none)
    within_now false off true free = elim (r.freed free) [
      | inl before ↦ let was = open_off w before in let low = c.within in let s = stays in let none : one_if false ≡ 0 = refl in omega (arith, was, low, s, none)
      | inr noted ↦ let low = c.noted noted in let s = stays in let none : one_if false ≡ 0 = refl in omega (arith, low, s, none)
    ]

    noted_now : Noted v → a + one_if (begins_reset x n w e o) ≤ (t + report) + waiting v
    noted_now k = elim (r.performed k) [
      | inl before ↦ let low = c.noted before in let s = stays in let none = begins_not (shut before) in omega (arith, low, s, none)
      | inr (heard, (met, (asks, (on, there)))) ↦
          let off = asks_off asks in
          let was = open_on w off in
          let none = begins_not off in
          let now : waiting v ≡ 1 = ap one_if on in
          let empty = untold heard there told in
          let low = c.within in
          omega (arith, was, none, now, empty, low)
    ]
      where
        untold : IsHeard x e → n < (end_of w (other x)).receiver.streams → (arrives_at (other x) e ≡ false) ⊎ NoneIsLeft (end_of w (other x)) n → waiting w ≡ 0
        untold heard there left = ap (λ (q : Option ℕ). one_if (is_some q)) (none_heard x n w e heard there left)

    pub covered : Covers (t + report) (a + one_if (begins_reset x n w e o)) v
    covered = record {
      within = within_now (begins_reset x n w e o) refl (is_sending ((end_of v x).sender.resets.sending n)) refl;
      noted = noted_now;
    }

  -- ---- a run

  module _ (s : Setup) (drawn : List ℕ) (configured : (y : Side) → IsConfiguration (configuration_of s y)) (d : Dates) where
    -- what is noted was asked for
    pub asked_for : (w : World) → Noted w → Asks (end_of w x).sender n
    asked_for w k = record { request = k.request; waits = k.waits; named = k.named }

    pub asks_off : (w : World) → IsSteady s drawn d w → Asks (end_of w x).sender n → is_sending ((end_of w x).sender.resets.sending n) ≡ false
    asks_off w i asks = asks_shut s drawn configured d w x n (asks_met d w x n i.kept asks) asks

    run_covers : (t a : ℕ) (w : World) (es : List Event) (os : List (Option Outcome)) (vs : List World) → ((e : Event) → Has es e → IsFine s drawn e) → PassesThrough w es os vs →
        AllKept d w es vs → IsSteady s drawn d w → HearsToldOnly (other x) n w es vs → Covers t a w →
        Covers (t + count_of (is_reported (other x) n) es os) (a + resets_begun x n w es os vs) (last_of w vs)
    run_covers t a w [] [] [] fine passes kept i hears c =
        record { within = let low = c.within in omega (arith, low); noted = λ k. let low = c.noted k in omega (arith, low) }
    run_covers t a w (e ∷ es) (o ∷ os) (v ∷ vs) fine (step, passes) (now, kept) i (told, hears) c =
        let this = fine e (inl refl) in
        let one = covered d t a w v e o (step_resets s drawn configured d w v e o now this i step x n) step told (λ k. asks_off w i (asked_for w k)) (asks_off w i) c in
        let rest = run_covers (t + one_if (is_reported (other x) n e o)) (a + one_if (begins_reset x n w e o)) v es os vs (λ y h. fine y (inr h)) passes kept
        (steady_step s drawn configured d w v e o now this i step) hears one in
        record {
          within = let low = rest.within in omega (arith, low);
          noted = λ k. let low = rest.noted k in omega (arith, low);
        }
    run_covers t a w [] (o ∷ os) vs fine passes kept i hears c = absurd passes
    run_covers t a w [] [] (v ∷ vs) fine passes kept i hears c = absurd passes
    run_covers t a w (e ∷ es) [] vs fine passes kept i hears c = absurd passes
    run_covers t a w (e ∷ es) (o ∷ os) [] fine passes kept i hears c = absurd passes

pub resets_are_all_reported : ResetsAreAllReported
resets_are_all_reported s es os vs configured passes premises aged x n hears =
    let all = run_covers x n s (drawn_in es) configured (dates_of (start s) vs) 0 0 (start s) es os vs (fine_by s es premises) passes (kept_in_time s es os vs passes aged)
    (steady_start s es (dates_of (start s) vs)) hears (record { within = omega arith; noted = λ k. omega arith }) in
    let low = all.within in
    omega (arith, low)
