-- The data of a message's fragments.
use Rattle.std.specs.Prelude.{ℕ, List}
use Rattle.std.specs.declared.vec.Vec.{Vec}
use Rattle.std.specs.declared.alloc.Global.{Global}
use Rattle.sctp_chains.specs.declared.whole.Fragments.{Fragments}
use Rattle.sctp_chains.specs.declared.whole.Fragments.TheVariants.{One, Many}

-- as a list, first to last
abbrev pub fragments_in : Fragments → List (Vec ℕ Global)
fragments_in (One one) = one
fragments_in (Many more) = more.items
