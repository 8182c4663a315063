-- Which pair stands for which world.
use Rattle.std.specs.Prelude.{◌≡◌, ◌≤◌}
use Rattle.sctp_model.specs.world.World.{Side, A, B, World, end_of, clock_of}
use Rattle.sctp_pair.specs.Sides.{side_of, SideStands}
use Rattle.sctp_pair.specs.declared.pair.Pair.{Pair}

-- no endpoint's time is past its clock
abbrev pub IsOnTime : World → Type 0
IsOnTime w = (s : Side) → (end_of w s).moment ≤ clock_of w s

-- Each part of a pair stands for its part of the world.
pub record KeepsPair (p : Pair) (w : World) : Type 0 where
  pub a : SideStands p.a (side_of w A)
  pub b : SideStands p.b (side_of w B)
  pub clock_a : w.clock_a ≡ p.clock_a
  pub clock_b : w.clock_b ≡ p.clock_b
  pub draw : w.draw ≡ p.draw
  pub openable : w.openable ≡ p.openable
  pub on_time : IsOnTime w

-- the pair stands for this world
unfoldable pub PairStands : Pair → World → Type 0
PairStands p w = KeepsPair p w
