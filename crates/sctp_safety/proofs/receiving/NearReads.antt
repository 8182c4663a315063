-- Wire values that are read as their counts: a TSN by its distance, an SSN or MID near a reference.
use Rattle.std.proofs.Common.{◌≡◌, ℕ, ◌+◌, ◌-◌, ◌^◌, ◌%◌, ◌<◌, ◌≤◌, ◌⊎◌, ◌&&◌, nat_lt, nat_le, true, false, Option, Some, None, inl, inr, refl, arith}
use Rattle.std.specs.Prelude.{if◌then◌else◌}
use Rattle.std.proofs.lemmas.Bool.{cases_lt, lt-ltb, le-leb}
use Rattle.std.proofs.lemmas.Bool.Decides.{nat_tests}
use Rattle.sctp_model.specs.numbers.Serial.{COUNTS, IsWithinHalf, wire_value, tsn, ahead, half_space, as_count, near}
use Rattle.sctp_model.specs.messages.Format.{Format, Plain, Interleaved, Kind, Ordered, Unordered, is_numbered}
use Rattle.sctp_model.specs.messages.Framing.{as_number, wire_number, number_near}

-- ---- TSNs

-- A TSN that lies ahead of that of c by less than half the space is read as its index, if the index itself lies no further away.
pub ahead_is : (initial c i : ℕ) → IsWithinHalf 32 i c → nat_le (half_space 32) (ahead 32 (tsn initial c) (tsn initial i)) ≡ false →
    c + ahead 32 (tsn initial c) (tsn initial i) ≡ i
ahead_is initial c i near fresh = let above = near.not_above in let below = near.not_below in grind (arith, nat_tests, above, below, fresh)

-- ---- SSNs and MIDs

-- how a count lies to its reference on the circle
ahead_16 : (n r : ℕ) → r ≤ n → n < r + 2 ^ 15 → ahead 16 r (n % 2 ^ 16) ≡ n - r
ahead_16 n r a b = omega arith

behind_16 : (n r : ℕ) → n < r → r < n + 2 ^ 15 → ahead 16 (n % 2 ^ 16) r ≡ r - n
behind_16 n r a b = omega arith

over_16 : (n r : ℕ) → n < r → r < n + 2 ^ 15 → 2 ^ 15 ≤ ahead 16 r (n % 2 ^ 16)
over_16 n r a b = omega arith

ahead_32 : (n r : ℕ) → r ≤ n → n < r + 2 ^ 31 → ahead 32 r (n % 2 ^ 32) ≡ n - r
ahead_32 n r a b = omega arith

behind_32 : (n r : ℕ) → n < r → r < n + 2 ^ 31 → ahead 32 (n % 2 ^ 32) r ≡ r - n
behind_32 n r a b = omega arith

over_32 : (n r : ℕ) → n < r → r < n + 2 ^ 31 → 2 ^ 31 ≤ ahead 32 r (n % 2 ^ 32)
over_32 n r a b = omega arith

-- the answer, by the two distances
abbrev answered : ℕ → ℕ → ℕ → ℕ → Option ℕ
answered half r up down =
    if nat_lt up half then as_count (r + up) else if nat_lt down half && nat_le down r then Some (r - down) else None

answered_above : (half n r up down : ℕ) → up ≡ n - r → r ≤ n → n < r + half → n < COUNTS - 1 → as_number (answered half r up down) ≡ Some n
answered_above half n r up down is a b c =
    let x : nat_lt up half ≡ true = lt-ltb up half (omega (arith, is, a, b)) in
    let z : r + up ≡ n = omega (arith, is, a) in
    let y : nat_lt n COUNTS ≡ true = lt-ltb n COUNTS (omega (arith, c)) in
    let u : nat_lt n (COUNTS - 1) ≡ true = lt-ltb n (COUNTS - 1) c in
    rw (x, z, y, u) refl

answered_below : (half n r up down : ℕ) → half ≤ up → down ≡ r - n → n < r → r < n + half → n < COUNTS - 1 → as_number (answered half r up down) ≡ Some n
answered_below half n r up down over is a b c =
    let x : nat_lt up half ≡ false = grind (arith, over, nat_tests) in
    let y : nat_lt down half ≡ true = lt-ltb down half (omega (arith, is, a, b)) in
    let v : nat_le down r ≡ true = le-leb down r (omega (arith, is, a)) in
    let z : r - down ≡ n = omega (arith, is, a) in
    let u : nat_lt n (COUNTS - 1) ≡ true = lt-ltb n (COUNTS - 1) c in
    rw (x, y, v, z, u) refl

-- A number less than half the space away is read again, in 16 bits and in 32.
near_16 : (n r : ℕ) → n < r + 2 ^ 15 → r < n + 2 ^ 15 → n < COUNTS - 1 → as_number (near 16 (wire_value 16 n) r) ≡ Some n
near_16 n r a b c = go (cases_lt n r)
  where
    go : (n < r) ⊎ (r ≤ n) → as_number (near 16 (wire_value 16 n) r) ≡ Some n
    go (inl l) = answered_below (2 ^ 15) n r (ahead 16 r (n % 2 ^ 16)) (ahead 16 (n % 2 ^ 16) r) (over_16 n r l b) (behind_16 n r l b) l b c
    go (inr l) = answered_above (2 ^ 15) n r (ahead 16 r (n % 2 ^ 16)) (ahead 16 (n % 2 ^ 16) r) (ahead_16 n r l a) l a c

near_32 : (n r : ℕ) → n < r + 2 ^ 31 → r < n + 2 ^ 31 → n < COUNTS - 1 → as_number (near 32 (wire_value 32 n) r) ≡ Some n
near_32 n r a b c = go (cases_lt n r)
  where
    go : (n < r) ⊎ (r ≤ n) → as_number (near 32 (wire_value 32 n) r) ≡ Some n
    go (inl l) = answered_below (2 ^ 31) n r (ahead 32 r (n % 2 ^ 32)) (ahead 32 (n % 2 ^ 32) r) (over_32 n r l b) (behind_32 n r l b) l b c
    go (inr l) = answered_above (2 ^ 31) n r (ahead 32 r (n % 2 ^ 32)) (ahead 32 (n % 2 ^ 32) r) (ahead_32 n r l a) l a c

-- ---- numbers that the window keeps near

-- a count lies less than half the space of SSNs from another, and so of MIDs
pub record IsClose (n r : ℕ) : Type 0 where
  pub above : n < r + 2 ^ 15
  pub below : r < n + 2 ^ 15

-- So it is read again in each format that has a number of this kind.
pub close_reads : (f : Format) (k : Kind) (n r : ℕ) → is_numbered f k ≡ true → IsClose n r → n < COUNTS - 1 → number_near f k (wire_number f k n) r ≡ Some n
close_reads Plain Ordered n r numbered close small = near_16 n r close.above close.below small
close_reads Plain Unordered n r numbered close small = absurd (cc)
close_reads Interleaved k n r numbered close small =
    let a = close.above in
    let b = close.below in
    near_32 n r (omega (arith, a)) (omega (arith, b)) small
