-- Division with remainder, of polynomials over the field of two elements.
--
-- A polynomial is the list of its coefficients, each true (1) or false (0), the highest power first.
use Rattle.std.specs.Prelude.{◌≡◌, ℕ, zero, suc, ◌-◌, Bool, true, false, not, ◌&&◌, List, [], ◌∷◌, ◌++◌, map, length, drop, replicate}

-- The sum in the field of two elements, which is the difference too.
abbrev pub plus : Bool → Bool → Bool
plus true b = not b
plus false b = b

-- The polynomial 0, with so many coefficients.
abbrev pub zeros : ℕ → List Bool
zeros n = replicate n false

-- The sum, and the difference, of two polynomials with the same number of coefficients.
abbrev pub add : List Bool → List Bool → List Bool
add [] bs = []
add (a ∷ f) [] = []
add (a ∷ f) (b ∷ g) = plus a b ∷ add f g

-- The product of a polynomial and one coefficient.
abbrev pub scale : Bool → List Bool → List Bool
scale c g = map (λ b. c && b) g

-- The product: each coefficient of the first times the second, moved up by its power.
abbrev pub times : List Bool → List Bool → List Bool
times [] g = zeros (length (drop 1 g))
times (c ∷ f) g = add (scale c g ++ zeros (length f)) (false ∷ times f g)

-- What remains on division: the dividend is a multiple of the divisor plus the remainder, which has one coefficient fewer than it.
pub record IsRemainder (dividend divisor rest : List Bool) : Type 0 where
  pub quotient : List Bool
  pub shorter : suc (length rest) ≡ length divisor
  pub divides : dividend ≡ add (times quotient divisor) (zeros (length quotient) ++ rest)

-- Long division by a divisor that begins with 1: where the first coefficient of the dividend is 1 the divisor is taken away
-- there, and that coefficient is done with. The number is how many steps are left.
abbrev pub divide : ℕ → List Bool → List Bool → List Bool
divide zero divisor dividend = dividend
divide (suc n) divisor [] = []
divide (suc n) divisor (c ∷ dividend) = divide n divisor (drop 1 (add (c ∷ dividend) (scale c divisor ++ zeros n)))

-- The remainder, by long division.
abbrev pub remainder : List Bool → List Bool → List Bool
remainder divisor dividend = divide (length dividend - length (drop 1 divisor)) divisor dividend
