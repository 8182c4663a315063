-- The lowest stream that passes a test decides whose turn it is, if it isn't below the next one.
use Rattle.std.proofs.Common.{◌≡◌, ℕ, zero, suc, ◌+◌, ◌-◌, ◌<◌, ◌≤◌, ◌⊎◌, inl, inr, Bool, true, false, [], Option, Some, None, sym, ap, ◌∙◌, refl, subst, arith}
use Rattle.std.specs.Prelude.{if◌then◌else◌}
use Rattle.std.proofs.lemmas.Bool.{cases_lt}
use Rattle.sctp_model.specs.end.EndView.{EndView}
use Rattle.sctp_recv.specs.Readable.{IsReadable, NextReadableAnswer}
use Rattle.sctp_channels.specs.Streams.{Table, first_from, is_drained, stream_at}
use Rattle.sctp_channels.specs.Events.{or_else, is_readable, readable_from, turn}
use Rattle.sctp_channels.proofs.FirstLemmas.{first_from_to, first_found, first_none, none_from, unread, reads, turn_is, turn_else}

-- ---- what comes before the first one

at_or_on : (test : ℕ → Bool) (i q : ℕ) → test i ≡ false → i ≤ q → (suc i ≤ q → test q ≡ false) → test q ≡ false
at_or_on test i q fails low on = go (cases_lt i q)
  where
    go : (i < q) ⊎ (q ≤ i) → test q ≡ false
    go (inl less) = on (omega (arith, less))
    go (inr most) = let same : i ≡ q = omega (arith, low, most) in subst (λ (j : ℕ). test j ≡ false) same fails

found_step : (test : ℕ → Bool) (i s : ℕ) (o : Option ℕ) → (if test i then Some i else o) ≡ Some s → (o ≡ Some s → (q : ℕ) → suc i ≤ q → q < s → test q ≡ false)
    → (q : ℕ) → i ≤ q → q < s → test q ≡ false
found_step test i s o is on = go (test i) refl
  where
    go : (b : Bool) → test i ≡ b → (q : ℕ) → i ≤ q → q < s → test q ≡ false
    go true holds = λ q low high.
        let here : Some i ≡ Some s = sym (ap (λ (b : Bool). if b then Some i else o) holds) ∙ is in
        let same : i ≡ s = cc in
        absurd (omega (arith, same, low, high))
    go false fails = λ q low high. at_or_on test i q fails low (λ more. on (sym (ap (λ (b : Bool). if b then Some i else o) fails) ∙ is) q more high)

-- those before the one that is found don't pass
found_first : (test : ℕ → Bool) (k i s : ℕ) → first_from test i k ≡ Some s → (q : ℕ) → i ≤ q → q < s → test q ≡ false
found_first test zero i s is = absurd (cc)
found_first test (suc k) i s is = found_step test i s (first_from test (suc i) k) is (found_first test k (suc i) s)

none_step : (test : ℕ → Bool) (i m : ℕ) (o : Option ℕ) → (if test i then Some i else o) ≡ None → (o ≡ None → (q : ℕ) → suc i ≤ q → q < m → test q ≡ false)
    → (q : ℕ) → i ≤ q → q < m → test q ≡ false
none_step test i m o is on = go (test i) refl
  where
    go : (b : Bool) → test i ≡ b → (q : ℕ) → i ≤ q → q < m → test q ≡ false
    go true holds =
        let here : Some i ≡ None = sym (ap (λ (b : Bool). if b then Some i else o) holds) ∙ is in
        absurd (cc)
    go false fails = λ q low high. at_or_on test i q fails low (λ more. on (sym (ap (λ (b : Bool). if b then Some i else o) fails) ∙ is) q more high)

-- if none is found none passes
none_found : (test : ℕ → Bool) (k i m : ℕ) → m ≤ i + k → first_from test i k ≡ None → (q : ℕ) → i ≤ q → q < m → test q ≡ false
none_found test zero i m most is = λ q low high. absurd (omega (arith, most, low, high))
none_found test (suc k) i m most is = none_step test i m (first_from test (suc i) k) is (none_found test k (suc i) m (omega (arith, most)))

-- ---- whose turn it is

-- none waits
pub turn_none : (test : ℕ → Bool) (i n : ℕ) → None ≡ first_from test 0 (n - 0) → None ≡ or_else (first_from test i (n - i)) (first_from test 0 (n - 0))
turn_none test i n is = go (cases_lt i n)
  where
    go : (i < n) ⊎ (n ≤ i) → None ≡ or_else (first_from test i (n - i)) (first_from test 0 (n - 0))
    go (inl less) =
        let skip = first_from_to test 0 i n (omega arith) (omega (arith, less)) (λ q low high. none_found test (n - 0) 0 n (omega arith) (sym is) q low (omega (arith, high, less))) in
        turn_else (first_from test i (n - i)) (first_from test 0 (n - 0)) None (sym skip ∙ sym is) is
    go (inr most) = turn_else (first_from test i (n - i)) (first_from test 0 (n - 0)) None (first_none test i n most) is

-- the lowest one isn't below the next
pub turn_low : (test : ℕ → Bool) (i s n : ℕ) → i ≤ s → s < n → Some s ≡ first_from test 0 (n - 0) → Some s ≡ or_else (first_from test i (n - i)) (first_from test 0 (n - 0))
turn_low test i s n low high is =
    let skip = first_from_to test 0 i n (omega arith) (omega (arith, low, high)) (λ q from below. found_first test (n - 0) 0 s (sym is) q from (omega (arith, below, low))) in
    turn_is (first_from test i (n - i)) (first_from test 0 (n - 0)) s (sym skip ∙ sym is)

-- ---- by the endpoint's next stream with a message

-- none waits on any
pub turn_nowhere : (v : EndView) (x : Table) → ((q : ℕ) → v.receiver.waiting q ≡ []) → None ≡ turn v x
turn_nowhere v x none =
    let nowhere : (from : ℕ) → readable_from v x from ≡ None = λ from. none_from (is_readable v x) from 65_536 (λ q low. unread v x q (none q)) in
    turn_else (readable_from v x x.next) (readable_from v x 0) None (nowhere x.next) (sym (nowhere 0))

-- it is that one, unless what waits there is of the next channel
pub turn_next : (v : EndView) (x : Table) (s : ℕ) → s < 65_536 → is_drained (stream_at x s) ≡ false → NextReadableAnswer v.receiver.waiting x.next (Some s) → Some s ≡ turn v x
turn_next v x s less fails next = go next
  where
    first_at : (from : ℕ) → IsReadable v.receiver.waiting from s → readable_from v x from ≡ Some s
    first_at from w =
        first_from_to (is_readable v x) from s 65_536 w.above (omega (arith, less)) (λ q low high. unread v x q (w.first q low high))
        ∙ first_found (is_readable v x) s 65_536 less (reads v x s w.some fails)

    go : NextReadableAnswer v.receiver.waiting x.next (Some s) → Some s ≡ turn v x
    go (inl w) = turn_is (readable_from v x x.next) (readable_from v x 0) s (first_at x.next w)
    go (inr (none, w)) =
        let nowhere : readable_from v x x.next ≡ None = none_from (is_readable v x) x.next 65_536 (λ q low. unread v x q (none q low)) in
        turn_else (readable_from v x x.next) (readable_from v x 0) (Some s) nowhere (sym (first_at 0 w))
