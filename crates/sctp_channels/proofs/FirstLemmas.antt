-- The first number that passes a test is found step by step.
use Rattle.std.proofs.Common.{◌≡◌, ℕ, zero, suc, ◌+◌, ◌-◌, ◌<◌, ◌≤◌, ◌⊎◌, inl, inr, Bool, true, false, List, [], ◌∷◌, length, Option, Some, None, refl, ap, ◌∙◌, subst, arith}
use Rattle.std.specs.Prelude.{◌&&◌}
use Rattle.std.proofs.lemmas.Bool.{cases_lt}
use Rattle.sctp_model.specs.receiver.ReceiverView.{Handed}
use Rattle.sctp_model.specs.end.EndView.{EndView}
use Rattle.sctp_channels.specs.Streams.{is_drained, Table, stream_at, first_from}
use Rattle.sctp_channels.specs.Events.{is_empty, is_readable, or_else}

-- ---- a step

-- one that doesn't pass
pub first_more : (test : ℕ → Bool) (i n : ℕ) → i < n → test i ≡ false → first_from test i (n - i) ≡ first_from test (i + 1) (n - (i + 1))
first_more test i n less fails =
    let many : n - i ≡ suc (n - (i + 1)) = omega (arith, less) in
    let next : i + 1 ≡ suc i = omega arith in
    rw (many, fails, next) refl

-- one that does
pub first_found : (test : ℕ → Bool) (i n : ℕ) → i < n → test i ≡ true → first_from test i (n - i) ≡ Some i
first_found test i n less holds =
    let many : n - i ≡ suc (n - suc i) = omega (arith, less) in
    rw (many, holds) refl

-- none is left
pub first_none : (test : ℕ → Bool) (i n : ℕ) → n ≤ i → first_from test i (n - i) ≡ None
first_none test i n most =
    let many : n - i ≡ zero = omega (arith, most) in
    rw many refl

-- several that don't pass
pub first_skipped : (test : ℕ → Bool) (k i n : ℕ) → i + k ≤ n → ((q : ℕ) → i ≤ q → q < i + k → test q ≡ false) → first_from test i (n - i) ≡ first_from test (i + k) (n - (i + k))
first_skipped test zero i n most none = let same : i + zero ≡ i = omega arith in rw same refl
first_skipped test (suc k) i n most none =
    let moved : (i + 1) + k ≡ i + suc k = omega arith in
    first_more test i n (omega (arith, most)) (none i (omega arith) (omega arith))
    ∙ (first_skipped test k (i + 1) n (omega (arith, most)) (λ q low high. none q (omega (arith, low)) (omega (arith, high)))
    ∙ ap (λ (j : ℕ). first_from test j (n - j)) moved)

-- up to one
pub first_from_to : (test : ℕ → Bool) (i s n : ℕ) → i ≤ s → s ≤ n → ((q : ℕ) → i ≤ q → q < s → test q ≡ false) → first_from test i (n - i) ≡ first_from test s (n - s)
first_from_to test i s n low most none =
    let to : i + (s - i) ≡ s = omega (arith, low) in
    first_skipped test (s - i) i n (omega (arith, low, most)) (λ q a b. none q a (omega (arith, b, low))) ∙ ap (λ (j : ℕ). first_from test j (n - j)) to

-- none from one on
pub none_from : (test : ℕ → Bool) (i n : ℕ) → ((q : ℕ) → i ≤ q → test q ≡ false) → first_from test i (n - i) ≡ None
none_from test i n none = go (cases_lt i n)
  where
    go : (i < n) ⊎ (n ≤ i) → first_from test i (n - i) ≡ None
    go (inl less) = first_from_to test i n n (omega (arith, less)) (omega arith) (λ q low high. none q low) ∙ first_none test n n (omega arith)
    go (inr most) = first_none test i n most

-- from 0 on, up to one
pub first_from_start : (test : ℕ → Bool) (s n : ℕ) → s ≤ n → ((q : ℕ) → q < s → test q ≡ false) → first_from test 0 n ≡ first_from test s (n - s)
first_from_start test s n most none =
    let all : n - 0 ≡ n = omega arith in
    subst (λ (k : ℕ). first_from test 0 k ≡ first_from test s (n - s)) all (first_from_to test 0 s n (omega arith) most (λ q low high. none q high))

pub none_from_start : (test : ℕ → Bool) (n : ℕ) → ((q : ℕ) → test q ≡ false) → first_from test 0 n ≡ None
none_from_start test n none =
    let all : n - 0 ≡ n = omega arith in
    subst (λ (k : ℕ). first_from test 0 k ≡ None) all (none_from test 0 n (λ q low. none q))

-- ---- readable streams

and_false : (b : Bool) → (b && false) ≡ false
and_false true = refl
and_false false = refl

some_there : (hs : List Handed) → (hs ≡ [] → ⊥) → is_empty hs ≡ false
some_there [] some = absurd (some refl)
some_there (h ∷ hs) some = refl

-- nothing waits on it
pub unread : (v : EndView) (x : Table) (q : ℕ) → v.receiver.waiting q ≡ [] → is_readable v x q ≡ false
unread v x q none = rw none refl

-- what waits is of the next channel
pub drained : (v : EndView) (x : Table) (q : ℕ) → is_drained (stream_at x q) ≡ true → is_readable v x q ≡ false
drained v x q holds = rw holds (and_false _)

-- a message waits
pub reads : (v : EndView) (x : Table) (q : ℕ) → (v.receiver.waiting q ≡ [] → ⊥) → is_drained (stream_at x q) ≡ false → is_readable v x q ≡ true
reads v x q some fails = rw (some_there (v.receiver.waiting q) some, fails) refl

-- the one, or the other
pub turn_is : (a b : Option ℕ) (s : ℕ) → a ≡ Some s → Some s ≡ or_else a b
turn_is a b s is = rw is refl

pub turn_else : (a b c : Option ℕ) → a ≡ None → c ≡ b → c ≡ or_else a b
turn_else a b c none is = rw (none, is) refl

-- ---- streams that are there

pub below_length : (t x : Table) (i : ℕ) → t ≡ x → i < length t.streams → i < length x.streams
below_length t x i is less = subst (λ (y : Table). i < length y.streams) is less
