-- The lowest ticket to give up: the lower one of two, if the data timer is due.
use Rattle.std.proofs.Common.{◌≡◌, ℕ, zero, suc, ◌<◌, ◌≤◌, min, max, Bool, true, false, Option, Some, None, refl, sym, ap, ◌∙◌, arith}
use Rattle.std.specs.Prelude.{◌&&◌, ◌||◌, nat_lt}
use Rattle.std.proofs.lemmas.Bool.{or_left, or_right}
use Rattle.std.proofs.lemmas.Bool.Decides.{nat_tests}
use Rattle.sctp_model.specs.sender.Words.{lowest}
use Rattle.sctp_model.specs.sender.Abandoning.{is_to_expire}
use Rattle.sctp_model.specs.end.EndView.{DataAlarm, Timer, EndView}
use Rattle.sctp_model.specs.end.Clock.{at_moment, is_over_at}
use Rattle.sctp_model.specs.end.Moments.{earlier, is_data_due}
use Rattle.sctp_model.proofs.sender.WordLaws.{IsLowest, lowest_is, lowest_found, lowest_none, none_lowest}
use Rattle.sctp_send.specs.SenderAnswers.{is_at_limit, next_late, next_at_limit}
use Rattle.sctp_association.specs.GivenUp.{is_to_give_up, next_to_give_up}

-- ---- the lowest number that passes one of two tests

lowest_same : (P Q : ℕ → Bool) (n : ℕ) → ((t : ℕ) → P t ≡ Q t) → lowest P n ≡ lowest Q n
lowest_same P Q zero same = refl
lowest_same P Q (suc n) same = rw (lowest_same P Q n same, same (suc n)) refl

abbrev either : (ℕ → Bool) → (ℕ → Bool) → ℕ → Bool
either P Q t = P t || Q t

neither : (a b : Bool) → a ≡ false → b ≡ false → (a || b) ≡ false
neither a b one two = rw (one, two) refl

by_first : (P Q : ℕ → Bool) (n a : ℕ) → IsLowest P n a → ((j : ℕ) → 0 < j → j < a → Q j ≡ false) → lowest (either P Q) n ≡ Some a
by_first P Q n a h none = lowest_found (either P Q) n a (record { some = h.some; within = h.within; passes = or_left (P a) (Q a) h.passes; first = λ j lo hi. neither (P j) (Q j) (h.first j lo hi) (none j lo hi) })

by_second : (P Q : ℕ → Bool) (n b : ℕ) → IsLowest Q n b → ((j : ℕ) → 0 < j → j < b → P j ≡ false) → lowest (either P Q) n ≡ Some b
by_second P Q n b h none = lowest_found (either P Q) n b (record { some = h.some; within = h.within; passes = or_right (P b) (Q b) h.passes; first = λ j lo hi. neither (P j) (Q j) (none j lo hi) (h.first j lo hi) })

pub lowest_either : (P Q : ℕ → Bool) (n : ℕ) → earlier (lowest P n) (lowest Q n) ≡ lowest (either P Q) n
lowest_either P Q n = by (lowest P n) (lowest Q n) refl refl
  where
    by_order : (a b : ℕ) → lowest P n ≡ Some a → lowest Q n ≡ Some b → (t : Bool) → nat_lt b a ≡ t → Some (min a b) ≡ lowest (either P Q) n
    by_order a b one two true less =
        let low : min a b ≡ b = (let lt : b < a = grind (arith, nat_tests) in omega (arith, lt)) in
        let lt : b < a = grind (arith, nat_tests) in
        ap (λ (k : ℕ). Some k) low ∙ sym (by_second P Q n b (lowest_is Q n b two) (λ j lo hi. (lowest_is P n a one).first j lo (omega (arith, hi, lt))))
    by_order a b one two false more =
        let le : a ≤ b = grind (arith, nat_tests) in
        let low : min a b ≡ a = omega (arith, le) in
        ap (λ (k : ℕ). Some k) low ∙ sym (by_first P Q n a (lowest_is P n a one) (λ j lo hi. (lowest_is Q n b two).first j lo (omega (arith, hi, le))))

    by : (o p : Option ℕ) → lowest P n ≡ o → lowest Q n ≡ p → earlier o p ≡ lowest (either P Q) n
    by None None one two = sym (lowest_none (either P Q) n (λ j lo hi. neither (P j) (Q j) (none_lowest P n one j lo hi) (none_lowest Q n two j lo hi)))
    by None (Some b) one two = let h = lowest_is Q n b two in let hi_b = h.within in sym (by_second P Q n b h (λ j lo hi. none_lowest P n one j lo (omega (arith, hi, hi_b))))
    by (Some a) None one two = let h = lowest_is P n a one in let hi_a = h.within in sym (by_first P Q n a h (λ j lo hi. none_lowest Q n two j lo (omega (arith, hi, hi_a))))
    by (Some a) (Some b) one two = by_order a b one two (nat_lt b a) refl

-- ---- tickets to give up

-- whether the data timer is due; the moment and the timer are those of the code
pub due_is : (v : EndView) (now m : ℕ) (t : Timer) (b : Bool) → max v.moment now ≡ m → t ≡ v.timers DataAlarm → is_over_at m t.expiry ≡ b → is_data_due (at_moment v now) ≡ b
due_is v now m t b clock at is =
    ap (λ (n : ℕ). is_over_at n (v.timers DataAlarm).expiry) clock ∙ ap (λ (x : Timer). is_over_at m x.expiry) (sym at) ∙ is

-- where the data timer isn't due, those past their lifetime
pub listed_late : (e : EndView) (last : ℕ) → is_data_due e ≡ false → next_late e.sender last e.moment ≡ next_to_give_up e last
listed_late e last idle = lowest_same (λ t. nat_lt last t && is_to_expire e.sender e.moment t) (λ t. nat_lt last t && is_to_give_up e t) e.sender.tickets same
  where
    alike : (a x y : Bool) → (a && x) ≡ (a && (x || (false && y)))
    alike true true y = refl
    alike true false y = refl
    alike false x y = refl

    same : (t : ℕ) → (nat_lt last t && is_to_expire e.sender e.moment t) ≡ (nat_lt last t && is_to_give_up e t)
    same t =
        alike (nat_lt last t) (is_to_expire e.sender e.moment t) (is_at_limit e.sender t)
        ∙ ap (λ (d : Bool). nat_lt last t && (is_to_expire e.sender e.moment t || (d && is_at_limit e.sender t))) (sym idle)

-- where it is, those at their limit too
pub listed_both : (e : EndView) (last : ℕ) → is_data_due e ≡ true → earlier (next_late e.sender last e.moment) (next_at_limit e.sender last) ≡ next_to_give_up e last
listed_both e last due =
    lowest_either (λ t. nat_lt last t && is_to_expire e.sender e.moment t) (λ t. nat_lt last t && is_at_limit e.sender t) e.sender.tickets
    ∙ lowest_same (either (λ t. nat_lt last t && is_to_expire e.sender e.moment t) (λ t. nat_lt last t && is_at_limit e.sender t)) (λ t. nat_lt last t && is_to_give_up e t) e.sender.tickets same
  where
    alike : (a x y : Bool) → ((a && x) || (a && y)) ≡ (a && (x || (true && y)))
    alike true x y = refl
    alike false x y = refl

    same : (t : ℕ) → ((nat_lt last t && is_to_expire e.sender e.moment t) || (nat_lt last t && is_at_limit e.sender t)) ≡ (nat_lt last t && is_to_give_up e t)
    same t =
        alike (nat_lt last t) (is_to_expire e.sender e.moment t) (is_at_limit e.sender t)
        ∙ ap (λ (d : Bool). nat_lt last t && (is_to_expire e.sender e.moment t || (d && is_at_limit e.sender t))) (sym due)
