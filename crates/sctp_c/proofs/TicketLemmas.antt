-- Tickets put into a buffer one behind the other.
use Rattle.std.proofs.Common.{◌≡◌, ℕ, zero, suc, ◌+◌, ◌<◌, List, [], ◌∷◌, ◌++◌, map, length, get_or, take, drop, set, ◌∙◌, ap, add-one, arith}
use Rattle.sctp_values.specs.declared.ticket.Ticket.{Ticket}

-- their numbers
abbrev pub numbers : List Ticket → List ℕ
numbers ts = map (λ t. t.0) ts

-- a buffer whose first places have their numbers
abbrev pub told : List Ticket → (count : ℕ) → (buffer : List ℕ) → List ℕ
told ts n buffer = take n (numbers ts) ++ drop n buffer

put : (ts : List Ticket) (buffer : List ℕ) (i : ℕ) (t : Ticket) → i < length ts → i < length buffer → t ≡ get_or ts i t → set (told ts i buffer) i t.0 ≡ told ts (suc i) buffer
put [] buffer i t below fits is = absurd (omega arith)
put (s ∷ ts) [] i t below fits is = absurd (omega arith)
put (s ∷ ts) (x ∷ buffer) zero t below fits is = ap (λ (u : Ticket). u.0 ∷ buffer) is
put (s ∷ ts) (x ∷ buffer) (suc i) t below fits is = ap (λ (xs : List ℕ). s.0 ∷ xs) (put ts buffer i t (omega arith) (omega arith) is)

-- one ticket more
pub put_one : (ts : List Ticket) (old buffer : List ℕ) (i : ℕ) (t : Ticket) → i < length ts → i < length old → t ≡ get_or ts i t → buffer ≡ told ts i old
    → set buffer i t.0 ≡ told ts (i + 1) old
put_one ts old buffer i t below fits is so_far = ap (λ (xs : List ℕ). set xs i t.0) so_far ∙ rw add-one (put ts old i t below fits is)
