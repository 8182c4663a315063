-- The numbers that pass a test, by rising number: one more passes and comes in its place, or some don't pass any more.
use Rattle.std.proofs.Common.{◌≡◌, ℕ, zero, suc, ◌+◌, ◌<◌, ◌≤◌, length, filter, Bool, true, false, refl, sym, arith}
use Rattle.std.specs.Prelude.{◌==◌, ◌&&◌, insert}
use Rattle.std.proofs.lemmas.Bool.Decides.{nat_tests}
use Rattle.sctp_model.specs.sender.Words.{count_up}
use Rattle.sctp_send.specs.inner.Ordering.{before, AreInOrder}
use Rattle.sctp_send.proofs.resetting.CountedUp.{filter_alike, filter_two}

-- they rise
pub rises : (p : ℕ → Bool) (here i n : ℕ) → here ≤ i → AreInOrder (λ (s : ℕ). s) here (filter p (count_up i n))
rises p here i zero le = tt
rises p here i (suc n) le = grind (arith, rises p i (suc i) n, rises p here (suc i) n)

-- fewer pass than there are, as one doesn't
at_most : (p : ℕ → Bool) (i n : ℕ) → length (filter p (count_up i n)) ≤ n
at_most p i zero = omega arith
at_most p i (suc n) = grind (arith, at_most p (suc i) n)

pub fewer_pass : (p : ℕ → Bool) (s i n : ℕ) → i ≤ s → s < i + n → p s ≡ false → length (filter p (count_up i n)) < n
fewer_pass p s i zero lo hi off = absurd (omega (arith, lo, hi))
fewer_pass p s i (suc n) lo hi off = grind (arith, at_most p (suc i) n, fewer_pass p s (suc i) n)

-- none of those from a number on comes before it
none_before : (p : ℕ → Bool) (s i n : ℕ) → s ≤ i → before (λ (x : ℕ). x) s (filter p (count_up i n)) ≡ 0
none_before p s i zero le = refl
none_before p s i (suc n) le = grind (arith, nat_tests, none_before p s (suc i) n)

-- one that failed passes, as all others do that passed: it comes in its place
pub one_more : (p q : ℕ → Bool) (s i n : ℕ) → i ≤ s → s < i + n → p s ≡ false → q s ≡ true → ((x : ℕ) → (x == s) ≡ false → q x ≡ p x)
    → insert (filter p (count_up i n)) (before (λ (x : ℕ). x) s (filter p (count_up i n))) s ≡ filter q (count_up i n)
one_more p q s i zero lo hi off on same = absurd (omega (arith, lo, hi))
one_more p q s i (suc n) lo hi off on same =
    let others : i ≡ s → filter q (count_up (suc i) n) ≡ filter p (count_up (suc i) n) = λ here. filter_alike q p (suc i) n (λ x from below. same x (grind (arith, nat_tests))) in
    let rest : suc i ≤ s → insert (filter p (count_up (suc i) n)) (before (λ (x : ℕ). x) s (filter p (count_up (suc i) n))) s ≡ filter q (count_up (suc i) n) =
    λ other. one_more p q s (suc i) n other (omega (arith, hi)) off on same in
    grind (arith, nat_tests, others, rest, none_before p s (suc i) n, same i)

-- none passes that failed: those that pass are among those that passed
pub some_stop : (p q : ℕ → Bool) (i n : ℕ) → ((x : ℕ) → q x ≡ (p x && q x)) → filter q (filter p (count_up i n)) ≡ filter q (count_up i n)
some_stop p q i n none = sym (filter_two p q q i n (λ x lo hi. none x))
