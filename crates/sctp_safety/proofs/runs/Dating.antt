-- The dates of a run: each packet has that of the first world that has it. If AGED holds of the run, or neither endpoint assigns half the space of TSNs in
-- it, whatever arrives is young.
use Rattle.std.proofs.Common.{◌≡◌, ℕ, zero, suc, ◌<◌, ◌≤◌, ◌⊎◌, nat_le, true, false, if◌then◌else◌, List, [], ◌∷◌, length, length-append, Option, Some, None, inl, inr, refl, sym, subst, ap, arith, ◌∙◌}
use Rattle.std.proofs.lemmas.Bool.{cases_lt}
use Rattle.std.proofs.lemmas.Bool.Decides.{nat_tests}
use Rattle.sctp_model.specs.numbers.Lists.{item_at}
use Rattle.sctp_model.specs.numbers.Serial.{half_space}
use Rattle.sctp_model.specs.wire.Packet.{Packet}
use Rattle.sctp_model.specs.end.EndView.{EndView}
use Rattle.sctp_model.specs.world.World.{Side, A, B, other, World, bag_of, start, Setup}
use Rattle.sctp_model.specs.world.Events.{Event, Deliver, Outcome}
use Rattle.sctp_model.specs.world.Steps.{Step, OpensBoth, OpenRefused, TimePasses, Draws, Connects, ConnectRefused, BuildsOne, BuildsNone, PacketComes, IsAbsent, Sends, AbandonsOne, TakesOne, ResetsOne, TellsReset, ShutsDown, AbortsIt, NoMemory, PacketCut, PassesThrough, TimeGoesOn, MomentComes}
use Rattle.sctp_model.specs.world.Aged.{ComesInTime, AllComeInTime, Aged}
use Rattle.sctp_safety.specs.Runs.{AssignFewer}
use Rattle.sctp_safety.proofs.lists.Basics.{item_at-above, item_at-within}
use Rattle.sctp_safety.proofs.machine.OneEnd.{bag_with, IsAt, at_end, at_log, at_packet, at_came, at_verdict, at_abort}
use Rattle.sctp_safety.proofs.runs.Dates.{Date}
use Rattle.sctp_safety.proofs.runs.DatedBags.{Dates, date_in, IsYoungIn, AreKept}
use Rattle.sctp_safety.proofs.runs.Direction.{entry_there}
use Rattle.sctp_safety.proofs.runs.Meeting.{nothing_stands}

-- ---- bags only grow

abbrev pub IsLonger : World → World → Type 0
IsLonger w v = (s : Side) → length (bag_of w s) ≤ length (bag_of v s)

longer_with : (ps : List Packet) (o : Option Packet) → length ps ≤ length (bag_with ps o)
longer_with ps None = omega arith
longer_with ps (Some p) = omega (arith, length-append ps (p ∷ []))

longer_at : (w v : World) (s : Side) (t : EndView) (o : Option Packet) → IsAt w v s t o → IsLonger w v
longer_at w v A t o at A = let e = ap length at.bag in omega (arith, e, longer_with w.from_a o)
longer_at w v A t o at B = let e = ap length at.bag_there in omega (arith, e)
longer_at w v B t o at B = let e = ap length at.bag in omega (arith, e, longer_with w.from_b o)
longer_at w v B t o at A = let e = ap length at.bag_there in omega (arith, e)

same_bags : (w v : World) → v.from_a ≡ w.from_a → v.from_b ≡ w.from_b → IsLonger w v
same_bags w v a b A = let e = ap length a in omega (arith, e)
same_bags w v a b B = let e = ap length b in omega (arith, e)

pub bags_grow : (w : World) (e : Event) (o : Option Outcome) (v : World) → Step w e o v → IsLonger w v
bags_grow w e o v (OpensBoth x y like may dx dy) = same_bags w v refl refl
bags_grow w e o v (OpenRefused x y off) = same_bags w w refl refl
bags_grow w e o v (TimeGoesOn A n small) = same_bags w v refl refl
bags_grow w e o v (TimeGoesOn B n small) = same_bags w v refl refl
bags_grow w e o v (MomentComes x) = longer_at w v x _ _ (at_log w x _ _)
bags_grow w e o v (TimePasses n small) = same_bags w v refl refl
bags_grow w e o v (Draws d dd) = same_bags w v refl refl
bags_grow w e o v (Connects d dd answer) = same_bags w v refl refl
bags_grow w e o v (ConnectRefused d answer) = same_bags w w refl refl
bags_grow w e o v (BuildsOne x y ys t b) = longer_at w v x t _ (at_packet w x t _)
bags_grow w e o v (BuildsNone x t b) = longer_at w v x t _ (at_end w x t)
bags_grow w e o v (PacketComes _ x _ t d brings comes) = longer_at w v x t _ (at_verdict w x t d)
bags_grow w e o v (IsAbsent x n none) = same_bags w w refl refl
bags_grow w e o v (Sends x c) = longer_at w v x _ _ (at_log w x _ _)
bags_grow w e o v (AbandonsOne x k) = longer_at w v x _ _ (at_log w x _ _)
bags_grow w e o v (TakesOne x n h t takes) = longer_at w v x t _ (at_end w x t)
bags_grow w e o v (ResetsOne x n) = longer_at w v x _ _ (at_end w x _)
bags_grow w e o v (TellsReset x) = longer_at w v x _ _ (at_end w x _)
bags_grow w e o v (ShutsDown x) = longer_at w v x _ _ (at_end w x _)
bags_grow w e o v (AbortsIt x r) = longer_at w v x _ _ (at_abort w x _ _)
bags_grow w e o v (PacketCut _ x _ t brings cut) = longer_at w v x t _ (at_came w x t)
bags_grow w e o v (NoMemory _ calm) = same_bags w w refl refl

-- ---- the first world that has a packet

abbrev pub first_with : Side → ℕ → World → List World → World
first_with s n w [] = w
first_with s n w (v ∷ vs) = if nat_le n (length (bag_of w s)) then w else first_with s n v vs

first_here : (s : Side) (n : ℕ) (w : World) (vs : List World) → n ≤ length (bag_of w s) → first_with s n w vs ≡ w
first_here s n w [] le = refl
first_here s n w (v ∷ vs) le = let on : nat_le n (length (bag_of w s)) ≡ true = grind (arith, nat_tests) in rw on refl

first_later : (s : Side) (n : ℕ) (w v : World) (vs : List World) → length (bag_of w s) < n → first_with s n w (v ∷ vs) ≡ first_with s n v vs
first_later s n w v vs lt = let off : nat_le n (length (bag_of w s)) ≡ false = grind (arith, nat_tests) in rw off refl

-- the dates of a run through these worlds
abbrev pub dates_of : World → List World → Dates
dates_of w vs = λ s n. date_in (first_with s n w vs) s

-- a packet that is built later has the date of the first world, from here on, that has it
abbrev AreFresh : Dates → World → List World → Type 0
AreFresh d w vs = (s : Side) (n : ℕ) → length (bag_of w s) < n → d s n ≡ date_in (first_with s n w vs) s

fresh_here : (d : Dates) (w v : World) (vs : List World) → AreFresh d w (v ∷ vs) → (s : Side) (n : ℕ) → length (bag_of w s) < n → n ≤ length (bag_of v s) → d s n ≡ date_in v s
fresh_here d w v vs fresh s n lt le = fresh s n lt ∙ ap (λ (u : World). date_in u s) (first_later s n w v vs lt ∙ first_here s n v vs le)

fresh_on : (d : Dates) (w v : World) (vs : List World) → AreFresh d w (v ∷ vs) → IsLonger w v → AreFresh d v vs
fresh_on d w v vs fresh longer s n lt =
    let more = longer s in
    let past : length (bag_of w s) < n = omega (arith, lt, more) in
    fresh s n past ∙ ap (λ (u : World). date_in u s) (first_later s n w v vs past)

-- ---- what arrives is young

-- in this step
abbrev ComesYoung : Dates → World → Event → Type 0
ComesYoung d w e = (s : Side) (n : ℕ) (p : Packet) → e ≡ Deliver s n → item_at (bag_of w s) n ≡ Some p → IsYoungIn w s (d s n)

-- in each step
abbrev AllComeYoung : Dates → World → List Event → List World → Type 0
AllComeYoung d w (e ∷ es) (v ∷ vs) = ComesYoung d w e × AllComeYoung d v es vs
AllComeYoung d w es vs = Unit {0}

-- the dates are kept in each step
abbrev pub AllKept : Dates → World → List Event → List World → Type 0
AllKept d w (e ∷ es) (v ∷ vs) = AreKept d w e v × AllKept d v es vs
AllKept d w es vs = Unit {0}

all_kept : (d : Dates) (w : World) (es : List Event) (os : List (Option Outcome)) (vs : List World) → PassesThrough w es os vs → AreFresh d w vs → AllComeYoung d w es vs → AllKept d w es vs
all_kept d w [] [] [] passes fresh young = tt
all_kept d w (e ∷ es) (o ∷ os) (v ∷ vs) (step, passes) fresh (now, later) = (
  record { young = now; fresh = fresh_here d w v vs fresh },
  all_kept d v es os vs passes (fresh_on d w v vs fresh (bags_grow w e o v step)) later,
)
all_kept d w [] (o ∷ os) vs passes fresh young = absurd passes
all_kept d w [] [] (v ∷ vs) passes fresh young = absurd passes
all_kept d w (e ∷ es) [] vs passes fresh young = absurd passes
all_kept d w (e ∷ es) (o ∷ os) [] passes fresh young = absurd passes

-- ---- if few TSNs are assigned

few_young : (d : Dates) (w : World) (es : List Event) (vs : List World) → AssignFewer (half_space 32) (w ∷ vs) → AllComeYoung d w es vs
few_young d w (e ∷ es) (v ∷ vs) few = (
  (λ s n p is there. (let a = few w (inl refl) s in let b = few w (inl refl) (other s) in record { own = omega (arith, a); there = omega (arith, b) })),
  few_young d v es vs (λ u h. few u (inr h)),
)
few_young d w [] vs few = tt
few_young d w (e ∷ es) [] few = tt

-- ---- if AGED holds

-- whenever this packet of this date arrives it is young
abbrev IsPunctual : Date → Side → ℕ → World → List Event → List World → Type 0
IsPunctual k s n w (e ∷ es) (v ∷ vs) = (e ≡ Deliver s n → IsYoungIn w s k) × IsPunctual k s n v es vs
IsPunctual k s n w es vs = Unit {0}

in_time_young : (u w : World) (s : Side) (n : ℕ) (p : Packet) → item_at (bag_of u s) n ≡ Some p → ComesInTime u w (Deliver s n) → IsYoungIn w s (date_in u s)
in_time_young u w s n p there comes =
    let own = comes p there s in
    let across = comes p there (other s) in
    record { own = omega (arith, own); there = omega (arith, across) }

in_time_punctual : (u w : World) (es : List Event) (vs : List World) (s : Side) (n : ℕ) (p : Packet) → item_at (bag_of u s) n ≡ Some p → AllComeInTime u w es vs →
    IsPunctual (date_in u s) s n w es vs
in_time_punctual u w (e ∷ es) (v ∷ vs) s n p there (now, later) =
    (λ is. in_time_young u w s n p there (subst (ComesInTime u w) is now), in_time_punctual u v es vs s n p there later)
in_time_punctual u w [] vs s n p there h = tt
in_time_punctual u w (e ∷ es) [] s n p there h = tt

aged_now : (w : World) (es : List Event) (vs : List World) → Aged w es vs → AllComeInTime w w es vs
aged_now w (e ∷ es) (v ∷ vs) aged = aged.0
aged_now w [] vs aged = tt
aged_now w (e ∷ es) [] aged = tt

-- all that lies in the bags is punctual
abbrev ArePunctual : Dates → World → List Event → List World → Type 0
ArePunctual d w es vs = (s : Side) (n : ℕ) (p : Packet) → item_at (bag_of w s) n ≡ Some p → IsPunctual (d s n) s n w es vs

item_there : {T : Type 0} (xs : List T) (n : ℕ) → 0 < n → n ≤ length xs → (x : T) × (item_at xs n ≡ Some x)
item_there xs zero some le = absurd (omega arith)
item_there xs (suc i) some le = entry_there xs i (omega arith)

punctual_on : (d : Dates) (w : World) (e : Event) (es : List Event) (v : World) (vs : List World) → AreFresh d w (v ∷ vs) → ArePunctual d w (e ∷ es) (v ∷ vs) → Aged v es vs → ArePunctual d v es vs
punctual_on d w e es v vs fresh old aged s n p there = go (cases_lt (length (bag_of w s)) n)
  where
    go : (length (bag_of w s) < n) ⊎ (n ≤ length (bag_of w s)) → IsPunctual (d s n) s n v es vs
    go (inl lt) =
        subst (λ (k : Date). IsPunctual k s n v es vs) (sym (fresh_here d w v vs fresh s n lt (item_at-within (bag_of v s) n p there)))
        (in_time_punctual v v es vs s n p there (aged_now v es vs aged))
    go (inr le) = let before = item_there (bag_of w s) n (item_at-above (bag_of v s) n p there) le in (old s n before.0 before.1).1

aged_young : (d : Dates) (w : World) (es : List Event) (os : List (Option Outcome)) (vs : List World) → PassesThrough w es os vs → AreFresh d w vs → ArePunctual d w es vs → Aged w es vs →
    AllComeYoung d w es vs
aged_young d w [] [] [] passes fresh old aged = tt
aged_young d w (e ∷ es) (o ∷ os) (v ∷ vs) (step, passes) fresh old (now, later) = (
  (λ s n p is there. (old s n p there).0 is),
  aged_young d v es os vs passes (fresh_on d w v vs fresh (bags_grow w e o v step)) (punctual_on d w e es v vs fresh old later) later,
)
aged_young d w [] (o ∷ os) vs passes fresh old aged = absurd passes
aged_young d w [] [] (v ∷ vs) passes fresh old aged = absurd passes
aged_young d w (e ∷ es) [] vs passes fresh old aged = absurd passes
aged_young d w (e ∷ es) (o ∷ os) [] passes fresh old aged = absurd passes

-- ---- a run from the start

none_waits : (s : Setup) (d : Dates) (es : List Event) (vs : List World) → ArePunctual d (start s) es vs
none_waits s d es vs A n p there = absurd (nothing_stands n p there)
none_waits s d es vs B n p there = absurd (nothing_stands n p there)

pub kept_in_time : (s : Setup) (es : List Event) (os : List (Option Outcome)) (vs : List World) → PassesThrough (start s) es os vs → Aged (start s) es vs →
    AllKept (dates_of (start s) vs) (start s) es vs
kept_in_time s es os vs passes aged =
    let d = dates_of (start s) vs in
    all_kept d (start s) es os vs passes (λ x n lt. refl) (aged_young d (start s) es os vs passes (λ x n lt. refl) (none_waits s d es vs) aged)

pub kept_by_few : (s : Setup) (es : List Event) (os : List (Option Outcome)) (vs : List World) → PassesThrough (start s) es os vs → AssignFewer (half_space 32) (start s ∷ vs) →
    AllKept (dates_of (start s) vs) (start s) es vs
kept_by_few s es os vs passes few =
    let d = dates_of (start s) vs in
    all_kept d (start s) es os vs passes (λ x n lt. refl) (few_young d (start s) es vs few)
