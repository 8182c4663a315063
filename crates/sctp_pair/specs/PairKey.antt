-- The key that seals the cookies of a pair which is made without one.
use Rattle.std.specs.Prelude.{ℕ, List}
use Rattle.sctp_model.specs.sender.Words.{count_up}

-- the bytes 0 to 31
abbrev pub PAIR_KEY : List ℕ
PAIR_KEY = count_up 0 32
