-- The data of fragments, one after another.
use Rattle.std.specs.Prelude.{ℕ, List, map}
use Rattle.std.specs.declared.vec.Vec.{Vec}
use Rattle.std.specs.declared.alloc.Global.{Global}
use Rattle.sctp_model.specs.numbers.Lists.{joined}

-- the data of one fragment
abbrev pub bytes_of : Vec ℕ Global → List ℕ
bytes_of v = v.items

-- the data of each part, joined
abbrev pub text_of_parts : List (Vec ℕ Global) → List ℕ
text_of_parts parts = joined (map bytes_of parts)
