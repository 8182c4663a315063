-- The bytes of parts, one part more at a time.
use Rattle.std.proofs.Common.{◌≡◌, ℕ, zero, suc, ◌+◌, ◌<◌, List, [], ◌∷◌, length, get_or, take, drop, map, refl, ap, add-one, arith}
use Rattle.std.specs.declared.vec.Vec.{Vec}
use Rattle.std.specs.declared.alloc.Global.{Global}
use Rattle.sctp_chains.specs.Links.{bytes_of}
use Rattle.sctp_chains.specs.inner.LettingGo.{size_of_parts}

size_suc : (ps : List (Vec ℕ Global)) (i : ℕ) (p : Vec ℕ Global) → i < length ps → p ≡ get_or ps i p → size_of_parts (map bytes_of (take (suc i) ps)) ≡ size_of_parts (map bytes_of (take i ps)) + length p.items
size_suc [] i p l e = absurd (omega (arith, l))
size_suc (q ∷ ps) zero p l e = let same = ap (λ (v : Vec ℕ Global). length v.items) e in omega (arith, same)
size_suc (q ∷ ps) (suc i) p l e = let more = size_suc ps i p (omega (arith, l)) e in omega (arith, more)

pub size_more : (ps : List (Vec ℕ Global)) (i : ℕ) (p : Vec ℕ Global) → i < length ps → p ≡ get_or ps i p → size_of_parts (map bytes_of (take (i + 1) ps)) ≡ size_of_parts (map bytes_of (take i ps)) + length p.items
size_more ps i p l e = rw add-one (size_suc ps i p l e)

pub ruleset sizes = (size_more)

-- ---- the front of parts, and those behind it

pub kept_behind : (ps : List (Vec ℕ Global)) (k : ℕ) → map bytes_of (drop k ps) ≡ drop k (map bytes_of ps)
kept_behind ps zero = refl
kept_behind [] (suc k) = refl
kept_behind (p ∷ ps) (suc k) = kept_behind ps k

pub kept_front : (ps : List (Vec ℕ Global)) (k : ℕ) → map bytes_of (take k ps) ≡ take k (map bytes_of ps)
kept_front ps zero = refl
kept_front [] (suc k) = refl
kept_front (p ∷ ps) (suc k) = ap (λ (xs : List (List ℕ)). p.items ∷ xs) (kept_front ps k)
