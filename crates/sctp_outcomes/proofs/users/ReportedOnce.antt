-- Of each stream no more resets are reported to a user than its peer's user asked for.
use Rattle.std.proofs.Common.{◌≡◌, ℕ, ◌+◌, ◌<◌, ◌≤◌, ◌⊎◌, ◌==◌, ◌&&◌, is_some, Bool, true, false, List, [], ◌∷◌, Option, Some, None, inl, inr, refl, sym, subst, ap, ◌∙◌, arith, if◌then◌else◌, eqb-true}
use Rattle.std.specs.Prelude.{find}
use Rattle.std.proofs.lemmas.Bool.{and_parts}
use Rattle.std.proofs.lemmas.Bool.Decides.{nat_tests}
use Rattle.sctp_model.specs.numbers.Lists.{Has}
use Rattle.sctp_model.specs.wire.Packet.{Packet}
use Rattle.sctp_model.specs.sender.Outgoing.{is_resetting}
use Rattle.sctp_model.specs.receiver.ReceiverView.{ReceiverView}
use Rattle.sctp_model.specs.receiver.ResetTaken.{told_of}
use Rattle.sctp_model.specs.sender.Words.{count_up}
use Rattle.sctp_model.specs.end.Configured.{IsConfiguration}
use Rattle.sctp_model.specs.end.EndView.{EndView}
use Rattle.sctp_model.specs.end.UserCalls.{reset_there, told_leaves}
use Rattle.sctp_model.specs.world.World.{Side, A, B, other, World, end_of, with_end, Setup, configuration_of, start}
use Rattle.sctp_model.specs.world.Events.{Event, OpenBoth, Later, Moment, At, Drawing, Connect, Build, Deliver, Foreign, Send, Abandon, Take, Reset, WasReset, Shutdown, Abort, Outcome, Done, resets_told}
use Rattle.sctp_model.specs.world.Steps.{Step, OpensBoth, OpenRefused, TimePasses, TimeGoesOn, MomentComes, Draws, Connects, ConnectRefused, BuildsOne, BuildsNone, PacketComes, PacketCut, IsAbsent, Sends, AbandonsOne, TakesOne, ResetsOne, TellsReset, ShutsDown, AbortsIt, NoMemory, Brings, FromBag, FromStranger, NoPacket, PassesThrough}
use Rattle.sctp_model.specs.world.Premises.{drawn_in}
use Rattle.sctp_safety.proofs.machine.EndsAgree.{fine_by}
use Rattle.sctp_safety.proofs.machine.Ground.{IsFine}
use Rattle.sctp_safety.proofs.runs.DatedBags.{Dates}
use Rattle.sctp_safety.proofs.runs.Dating.{dates_of, AllKept, kept_in_time}
use Rattle.sctp_safety.proofs.runs.ResetFacts.{IsNoted}
use Rattle.sctp_safety.proofs.runs.Safety.{IsSteady, steady_step}
use Rattle.sctp_safety.proofs.runs.parted.Parting.{StepResets, step_resets, steady_start}
use Rattle.sctp_outcomes.specs.Users.{same_side}
use Rattle.sctp_outcomes.specs.Parted.{is_reset, is_reported, one_if, count_of, ResetsAreReportedOnce}

-- ---- what is reported was to be reported, and isn't any more

find_is : (test : ℕ → Bool) (xs : List ℕ) (n : ℕ) → find test xs ≡ Some n → test n ≡ true
find_is test [] n is = absurd (cc)
find_is test (x ∷ xs) n is = go (test x) refl (find_is test xs n) is
  where
    go : (b : Bool) → test x ≡ b → (find test xs ≡ Some n → test n ≡ true) → (if b then Some x else find test xs) ≡ Some n → test n ≡ true
    go true on more here = let same : x ≡ n = cc here in subst (λ (k : ℕ). test k ≡ true) same on
    go false off more here = more here

none_there : (r : ReceiverView) (n : ℕ) → is_some ((told_of r n).resets.told n) ≡ false
none_there r n = let same : (n == n) ≡ true = grind (arith, nat_tests) in rw same refl

-- it was so before, and isn't so after
abbrev pub IsReported : Side → ℕ → World → World → Type 0
IsReported y n w v = (is_some ((end_of w y).receiver.resets.told n) ≡ true) × (is_some ((end_of v y).receiver.resets.told n) ≡ false)

-- no packet reports it, nor does an allocation failure
packet_off : (w : World) (e : Event) (z : Side) (p : Option Packet) → Brings w e z p → (y : Side) (n : ℕ) (o : Option Outcome) → is_reported y n e o ≡ false
packet_off w e z p (FromBag _ _ _ _) y n o = refl
packet_off w e z p (FromStranger _ _ _) y n o = refl
packet_off w e z p (NoPacket _) y n o = refl

pub none_off : (e : Event) (y : Side) (n : ℕ) → is_reported y n e None ≡ false
none_off (OpenBoth a b) y n = refl
none_off (Later s m) y n = refl
none_off (Moment s) y n = refl
none_off (At m) y n = refl
none_off (Drawing d) y n = refl
none_off (Connect d) y n = refl
none_off (Build s) y n = refl
none_off (Deliver s k) y n = refl
none_off (Foreign s p) y n = refl
none_off (Send s c) y n = refl
none_off (Abandon s k) y n = refl
none_off (Take s k) y n = refl
none_off (Reset s k) y n = refl
none_off (WasReset s) y n = refl
none_off (Shutdown s) y n = refl
none_off (Abort s r) y n = refl

pub side_is : (s x : Side) → same_side s x ≡ true → s ≡ x
side_is A A on = refl
side_is B B on = refl
side_is A B on = absurd (cc)
side_is B A on = absurd (cc)

pub reported_step : (w : World) (e : Event) (o : Option Outcome) (v : World) → Step w e o v → (y : Side) (n : ℕ) → is_reported y n e o ≡ true → IsReported y n w v
reported_step w e o v (OpensBoth _ _ _ _ _ _) y n on = absurd (cc)
reported_step w e o v (OpenRefused _ _ _) y n on = absurd (cc)
reported_step w e o v (TimeGoesOn z m small) y n on = absurd (cc)
reported_step w e o v (MomentComes z) y n on = absurd (cc)
reported_step w e o v (TimePasses m small) y n on = absurd (cc)
reported_step w e o v (Draws d dd) y n on = absurd (cc)
reported_step w e o v (Connects d dd answer) y n on = absurd (cc)
reported_step w e o v (ConnectRefused d answer) y n on = absurd (cc)
reported_step w e o v (BuildsOne z c cs t b) y n on = absurd (cc)
reported_step w e o v (BuildsNone z t b) y n on = absurd (cc)
reported_step w e o v (PacketComes _ z p t d brings received) y n on = absurd (let off = packet_off w e z p brings y n o in cc (off, on))
reported_step w e o v (PacketCut _ z p t brings cut) y n on = absurd (let off = packet_off w e z p brings y n o in cc (off, on))
reported_step w e o v (IsAbsent z i none) y n on = absurd (cc)
reported_step w e o v (Sends z c) y n on = absurd (cc)
reported_step w e o v (AbandonsOne z i) y n on = absurd (cc)
reported_step w e o v (TakesOne z m h t takes) y n on = absurd (cc)
reported_step w e o v (ResetsOne z m) y n on = absurd (cc)
reported_step w e o v (TellsReset z) y n on = by (reset_there (end_of w z)) refl on
  where
    after : (s : Side) (t : EndView) → end_of (with_end w s t) s ≡ t
    after A t = refl
    after B t = refl

    by : (r : Option ℕ) → reset_there (end_of w z) ≡ r → is_reported y n (WasReset z) (Some (resets_told (end_of w z) r)) ≡ true →
        IsReported y n w (with_end w z (told_leaves (reset_there (end_of w z)) (end_of w z)))
    by None there h = absurd (cc)
    by (Some i) there h =
        let parts = and_parts (same_side z y) (n == i) h in
        let found : reset_there (end_of w z) ≡ Some n = there ∙ ap (λ (j : ℕ). Some j) (sym (eqb-true n i parts.1)) in
        subst (λ (x : Side). IsReported x n w (with_end w z (told_leaves (reset_there (end_of w z)) (end_of w z)))) (side_is z y parts.0) (
          find_is (λ s. is_some ((end_of w z).receiver.resets.told s)) (count_up 0 (end_of w z).receiver.streams) n found,
          ap (λ (t : EndView). is_some (t.receiver.resets.told n)) (after z (told_leaves (reset_there (end_of w z)) (end_of w z)) ∙ ap (λ (q : Option ℕ). told_leaves q (end_of w z)) found)
              ∙ none_there (end_of w z).receiver n,
        )
reported_step w e o v (ShutsDown z) y n on = absurd (cc)
reported_step w e o v (AbortsIt z why) y n on = absurd (cc)
reported_step w e o v (NoMemory _ other_event) y n on = absurd (let off = none_off e y n in cc (off, on))

-- ---- a run's events

module _ (x : Side) (n : ℕ) where
  own_reset : (e : Event) (o : Option Outcome) → e ≡ Reset x n → o ≡ Some Done → is_reset x n e o ≡ true
  own_reset e o is done = subst (λ (y : Event). is_reset x n y o ≡ true) (sym is) (subst (λ (y : Option Outcome). is_reset x n (Reset x n) y ≡ true) (sym done) (same x))
    where
      number : (n == n) ≡ true
      number = grind (arith, nat_tests)

      same : (y : Side) → (same_side y y && (n == n)) ≡ true
      same A = number
      same B = number

  -- one that is to be reported
  abbrev pub waiting : World → ℕ
  waiting w = one_if (is_some ((end_of w (other x)).receiver.resets.told n))

  abbrev pub Noted : World → Type 0
  Noted w = IsNoted (end_of w x).sender (end_of w (other x)).receiver n

  -- This many were reported, and this many were asked for: one more may be reported if a reset is asked for that isn't noted yet.
  pub record Counts (reported accepted : ℕ) (w : World) : Type 0 where
    pub within : reported + waiting w ≤ accepted
    pub asked : is_resetting ((end_of w x).sender.resets.sending n) ≡ true → Noted w ⊎ (reported + waiting w < accepted)

  module _ (s : Setup) (drawn : List ℕ) (configured : (y : Side) → IsConfiguration (configuration_of s y)) (d : Dates) where
    one_more : (t a : ℕ) (w v : World) (e : Event) (o : Option Outcome) → StepResets d x n w e o v → Step w e o v → Counts t a w →
        Counts (t + one_if (is_reported (other x) n e o)) (a + one_if (is_reset x n e o)) v
    one_more t a w v e o r step c = by_report (is_reported (other x) n e o) refl
      where
        accepts : (e ≡ Reset x n) × (o ≡ Some Done) → one_if (is_reset x n e o) ≡ 1
        accepts (is, done) = ap one_if (own_reset e o is done)

        -- what was to be reported before, or is noted now
        waits : (b : Option ℕ) → (end_of v (other x)).receiver.resets.told n ≡ b → (t + waiting v ≤ a) × ((t + waiting w < a) → Noted v ⊎ (t + waiting v < a))
        waits None is =
            let now : waiting v ≡ 0 = ap (λ (q : Option ℕ). one_if (is_some q)) is in
            let low = c.within in
            ((omega (arith, now, low)), λ less. inr (omega (arith, now, less)))
        waits (Some k) is = by (r.anew k is)
          where
            now : waiting v ≡ 1
            now = ap (λ (q : Option ℕ). one_if (is_some q)) is

            by : ((end_of w (other x)).receiver.resets.told n ≡ Some k) ⊎ (Noted v × (Noted w → ⊥) × (is_resetting ((end_of w x).sender.resets.sending n) ≡ true)) →
                (t + waiting v ≤ a) × ((t + waiting w < a) → Noted v ⊎ (t + waiting v < a))
            by (inl before) =
                let was : waiting w ≡ 1 = ap (λ (q : Option ℕ). one_if (is_some q)) before in
                let low = c.within in
                (omega (arith, now, was, low), λ less. inr (omega (arith, now, was, less)))
            by (inr new) = (
              elim (c.asked new.2) [
                | inl noted ↦ absurd (new.1 noted)
                | inr less ↦ omega (arith, now, less)
              ],
              λ less. inl new.0,
            )

        none : one_if false ≡ 0
        none = refl

        one : one_if true ≡ 1
        one = refl

        grows : a ≤ a + one_if (is_reset x n e o)
        grows = omega arith

        by_report : (b : Bool) → is_reported (other x) n e o ≡ b → Counts (t + one_if b) (a + one_if (is_reset x n e o)) v
        by_report false off = let now = waits ((end_of v (other x)).receiver.resets.told n) refl in record {
          within = let low = now.0 in omega (arith, low, grows, none);
          asked = λ on. elim (r.resets on) [
            | inl before ↦ elim (c.asked before) [
              | inl noted ↦ inl (r.noted noted on)
              | inr less ↦ elim (now.1 less) [ inl noted ↦ inl noted | inr few ↦ inr (omega (arith, few, grows, none)) ]
            ]
            | inr asked ↦ inr (let low = now.0 in let more = accepts asked in omega (arith, low, more, none))
          ];
        }
        by_report true on =
            let both = reported_step w e o v step (other x) n on in
            let was : waiting w ≡ 1 = ap one_if both.0 in
            let now : waiting v ≡ 0 = ap one_if both.1 in
            record {
              within = let low = c.within in omega (arith, low, grows, was, now, one);
              asked = λ resets. elim (r.resets resets) [
                | inl before ↦ elim (c.asked before) [
                  | inl noted ↦ inl (r.noted noted resets)
                  | inr less ↦ inr (omega (arith, less, grows, was, now, one))
                ]
                | inr asked ↦ inr (let low = c.within in let more = accepts asked in omega (arith, low, more, was, now, one))
              ];
            }

    counted : (t a : ℕ) (w : World) (es : List Event) (os : List (Option Outcome)) (vs : List World) → ((e : Event) → Has es e → IsFine s drawn e) → PassesThrough w es os vs →
        AllKept d w es vs → IsSteady s drawn d w → Counts t a w → t + count_of (is_reported (other x) n) es os ≤ a + count_of (is_reset x n) es os
    counted t a w [] [] [] fine passes kept i c = let low = c.within in let sum : t + 0 ≤ a + 0 = omega (arith, low) in sum
    counted t a w (e ∷ es) (o ∷ os) (v ∷ vs) fine (step, passes) (now, kept) i c =
        let this = fine e (inl refl) in
        let low = counted (t + one_if (is_reported (other x) n e o)) (a + one_if (is_reset x n e o)) v es os vs (λ y h. fine y (inr h)) passes kept
        (steady_step s drawn configured d w v e o now this i step) (one_more t a w v e o (step_resets s drawn configured d w v e o now this i step x n) step c) in
        let sum : t + (one_if (is_reported (other x) n e o) + count_of (is_reported (other x) n) es os) ≤ a + (one_if (is_reset x n e o) + count_of (is_reset x n) es os) = omega (arith, low) in
        sum
    counted t a w [] (o ∷ os) vs fine passes kept i c = absurd passes
    counted t a w [] [] (v ∷ vs) fine passes kept i c = absurd passes
    counted t a w (e ∷ es) [] vs fine passes kept i c = absurd passes
    counted t a w (e ∷ es) (o ∷ os) [] fine passes kept i c = absurd passes

    -- so at each place on the way no more were reported than were asked for
    abbrev pub AllWithin : (t a : ℕ) → List Event → List (Option Outcome) → Type 0
    AllWithin t a (e ∷ es) (o ∷ os) =
        (t + one_if (is_reported (other x) n e o) ≤ a + one_if (is_reset x n e o)) × AllWithin (t + one_if (is_reported (other x) n e o)) (a + one_if (is_reset x n e o)) es os
    AllWithin t a es os = Unit {0}

    pub all_within : (t a : ℕ) (w : World) (es : List Event) (os : List (Option Outcome)) (vs : List World) → ((e : Event) → Has es e → IsFine s drawn e) → PassesThrough w es os vs →
        AllKept d w es vs → IsSteady s drawn d w → Counts t a w → AllWithin t a es os
    all_within t a w [] [] [] fine passes kept i c = tt
    all_within t a w (e ∷ es) (o ∷ os) (v ∷ vs) fine (step, passes) (now, kept) i c =
        let this = fine e (inl refl) in
        let one = one_more t a w v e o (step_resets s drawn configured d w v e o now this i step x n) step c in (
          (let low = one.within in omega (arith, low)),
          all_within (t + one_if (is_reported (other x) n e o)) (a + one_if (is_reset x n e o)) v es os vs (λ y h. fine y (inr h)) passes kept (steady_step s drawn configured d w v e o now this i step) one,
        )
    all_within t a w [] (o ∷ os) vs fine passes kept i c = absurd passes
    all_within t a w [] [] (v ∷ vs) fine passes kept i c = absurd passes
    all_within t a w (e ∷ es) [] vs fine passes kept i c = absurd passes
    all_within t a w (e ∷ es) (o ∷ os) [] fine passes kept i c = absurd passes

-- ---- a run

pub starts : (s : Setup) (x : Side) (n : ℕ) → Counts x n 0 0 (start s)
starts s A n = record { within = omega arith; asked = λ on. absurd (cc) }
starts s B n = record { within = omega arith; asked = λ on. absurd (cc) }

pub resets_are_reported_once : ResetsAreReportedOnce
resets_are_reported_once s es os vs configured passes premises aged x n =
    let low = counted x n s (drawn_in es) configured (dates_of (start s) vs) 0 0 (start s) es os vs (fine_by s es premises) passes (kept_in_time s es os vs passes aged)
    (steady_start s es (dates_of (start s) vs)) (starts s x n) in
    omega (arith, low)
