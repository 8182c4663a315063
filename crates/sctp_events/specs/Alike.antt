-- The configurations of the two endpoints of a pair.
use Rattle.std.specs.Prelude.{◌≡◌}
use Rattle.sctp_model.specs.end.EndView.{Configuration}

-- the other endpoint's configuration, if both are alike: the two ports exchanged
abbrev pub turned_round : Configuration → Configuration
turned_round c = record c { own_port = c.peer_port; peer_port = c.own_port }

-- the port of each is the port of the other's peer
pub record AreAcross (a b : Configuration) : Type 0 where
  pub to_b : b.own_port ≡ a.peer_port
  pub to_a : b.peer_port ≡ a.own_port
