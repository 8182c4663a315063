-- A shift register over bits, the highest power first: how the sum is taken without the whole dividend at hand.
-- Only the parts of the body speak of it. That it leaves the remainder is proved.
use Rattle.std.specs.Prelude.{Bool, false, List, [], ◌∷◌, ◌++◌}
use Rattle.sctp_packet.specs.Remainder.{plus, add, scale}

-- One step: a bit of the message comes in, and the divisor without its first coefficient is added where the two leading bits differ.
abbrev pub shifted : List Bool → List Bool → Bool → List Bool
shifted tail [] m = []
shifted tail (r ∷ rs) m = add (rs ++ false ∷ []) (scale (plus r m) tail)

-- The register after all bits of a message.
abbrev pub register_after : List Bool → List Bool → List Bool → List Bool
register_after tail rs [] = rs
register_after tail rs (m ∷ ms) = register_after tail (shifted tail rs m) ms
