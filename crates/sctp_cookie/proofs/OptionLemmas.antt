-- The options' byte of a cookie: what it says, and that it is the byte of what it says.
use Rattle.std.proofs.Common.{◌≡◌, ℕ, zero, suc, ◌+◌, ◌<◌, ◌≤◌, Bool, true, false, cond, refl, arith, nat_eq, nat_le}
use Rattle.std.specs.Prelude.{◌&&◌, ◌||◌, not}
use Rattle.std.proofs.lemmas.Bool.{and_parts, and_from, eqb-true, leb-true}
use Rattle.sctp_model.specs.end.Sealing.{Body}
use Rattle.sctp_cookie.specs.CookieBody.{options_byte, says, says_only}
use Rattle.sctp_cookie.specs.Opens.{is_made}
use Rattle.sctp_cookie.specs.declared.body.CookieOptions.{CookieOptions}

-- ---- what is written

-- the byte of four options says these
pub record Says (p i r z : Bool) (n : ℕ) : Type 0 where
  pub partial : says 1 n ≡ p
  pub interleave : says 2 n ≡ i
  pub reset : says 4 n ≡ r
  pub checksum : says 8 n ≡ z
  pub small : nat_le n 15 ≡ true

bits : (p i r z : Bool) → Says p i r z (cond p 1 0 + cond i 2 0 + cond r 4 0 + cond z 8 0)
bits false false false false = record { partial = refl; interleave = refl; reset = refl; checksum = refl; small = refl }
bits false false false true = record { partial = refl; interleave = refl; reset = refl; checksum = refl; small = refl }
bits false false true false = record { partial = refl; interleave = refl; reset = refl; checksum = refl; small = refl }
bits false false true true = record { partial = refl; interleave = refl; reset = refl; checksum = refl; small = refl }
bits false true false false = record { partial = refl; interleave = refl; reset = refl; checksum = refl; small = refl }
bits false true false true = record { partial = refl; interleave = refl; reset = refl; checksum = refl; small = refl }
bits false true true false = record { partial = refl; interleave = refl; reset = refl; checksum = refl; small = refl }
bits false true true true = record { partial = refl; interleave = refl; reset = refl; checksum = refl; small = refl }
bits true false false false = record { partial = refl; interleave = refl; reset = refl; checksum = refl; small = refl }
bits true false false true = record { partial = refl; interleave = refl; reset = refl; checksum = refl; small = refl }
bits true false true false = record { partial = refl; interleave = refl; reset = refl; checksum = refl; small = refl }
bits true false true true = record { partial = refl; interleave = refl; reset = refl; checksum = refl; small = refl }
bits true true false false = record { partial = refl; interleave = refl; reset = refl; checksum = refl; small = refl }
bits true true false true = record { partial = refl; interleave = refl; reset = refl; checksum = refl; small = refl }
bits true true true false = record { partial = refl; interleave = refl; reset = refl; checksum = refl; small = refl }
bits true true true true = record { partial = refl; interleave = refl; reset = refl; checksum = refl; small = refl }

pub said : (b : Body) → Says b.partial b.interleave b.reset b.zero_checksum (options_byte b)
said b = bits b.partial b.interleave b.reset b.zero_checksum

-- a listener that makes such a body may read its byte
pub said_only : (taken : CookieOptions) (b : Body) → is_made taken b ≡ true → says_only taken (options_byte b) ≡ true
said_only taken b made = let told = said b in rw (told.small, told.reset, told.checksum) made

-- ---- what is read

-- each number below this one passes
abbrev every : (ℕ → Bool) → ℕ → Bool
every test zero = true
every test (suc n) = every test n && test n

passes : (test : ℕ → Bool) (m : ℕ) → every test m ≡ true → (k : ℕ) → k < m → test k ≡ true
passes test zero all k below = absurd (omega arith)
passes test (suc m) all k below =
    let parts = and_parts _ _ all in
    by_last test m k (λ under. passes test m parts.0 k under) parts.1 below (nat_eq k m) refl
  where
    by_last : (test : ℕ → Bool) (m k : ℕ) → (k < m → test k ≡ true) → test m ≡ true → k < suc m → (same : Bool) → nat_eq k m ≡ same → test k ≡ true
    by_last test m k lower last below true same = rw (eqb-true k m same) last
    by_last test m k lower last below false other = lower (grind (arith, other))

-- a number up to 15 from its four bits
pub byte_again : (n : ℕ) → n ≤ 15 → cond (says 1 n) 1 0 + cond (says 2 n) 2 0 + cond (says 4 n) 4 0 + cond (says 8 n) 8 0 ≡ n
byte_again n small =
    eqb-true _ _ (passes (λ k. nat_eq (cond (says 1 k) 1 0 + cond (says 2 k) 2 0 + cond (says 4 k) 4 0 + cond (says 8 k) 8 0) k) 16 refl n (omega arith))

-- a byte that such a listener may read is one that it makes
pub only_made : (taken : CookieOptions) (n : ℕ) → says_only taken n ≡ true → (n ≤ 15) × (((taken.reset || not (says 4 n)) && (taken.zero_checksum || not (says 8 n))) ≡ true)
only_made taken n only =
    let both = and_parts _ _ only in
    let first = and_parts _ _ both.0 in
    (leb-true _ _ first.0, and_from _ _ first.1 both.1)
