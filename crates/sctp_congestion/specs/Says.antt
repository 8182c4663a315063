-- What an acknowledgement says to congestion control, in code and in definitions.
use Rattle.std.specs.Prelude.{◌≡◌}
use Rattle.sctp_model.specs.end.Control.{News}
use Rattle.sctp_congestion.specs.declared.news.News as code

-- All but when it arrived, and SRTT, of which CUBIC alone asks.
pub record Says (n : News) (x : code.News) : Type 0 where
  pub flight : x.flight ≡ n.flight
  pub left : x.left ≡ n.left
  pub bytes : x.bytes ≡ n.bytes
  pub recovers : x.recovers ≡ n.recovers
  pub lost : x.lost ≡ n.lost
  pub moved : x.moved ≡ n.moved
  pub waits : x.waits ≡ n.waits
