-- The highest indexes of an acknowledgement, and what it takes back: `v` is the sender before it, `u` the sender after it.
use Rattle.std.specs.Prelude.{◌≡◌, ℕ, ◌<◌, true, false, List, length}
use Rattle.sctp_model.specs.sender.SenderView.{SenderView}
use Rattle.sctp_model.specs.end.Misses.{newest, is_taken_back, last_sent}
use Rattle.sctp_congestion.specs.Went.{AreThose}
use Rattle.sctp_congestion.specs.declared.misses.Highest.{Highest}

-- these are the index of the cumulative TSN after it and its highest indexes, outside Fast Recovery and in it
pub record AreHighest (v u : SenderView) (x : Highest) : Type 0 where
  pub cum : x.cum ≡ u.cum
  pub outside : x.newest ≡ newest false v u
  pub inside : x.newest_in_recovery ≡ newest true v u

-- These indexes are those that it takes back, and this the highest one that was sent; if it takes none back, that isn't asked for.
pub record AreTakenBack (v u : SenderView) (room last : ℕ) (is : List ℕ) : Type 0 where
  pub those : AreThose (is_taken_back v u) u.cum room is
  pub highest : 0 < length is → last ≡ last_sent u
