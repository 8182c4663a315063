-- What a `pair` line sets up.
use Rattle.std.specs.Prelude.{◌≡◌, ℕ, None}
use Rattle.sctp_model.specs.end.EndView.{Configuration}
use Rattle.sctp_model.specs.end.Configured.{plain_configuration, configuration_fault}

-- the port of A, which calls
abbrev pub PORT_A : ℕ
PORT_A = 5_000

-- the port of B, which listens
abbrev pub PORT_B : ℕ
PORT_B = 5_001

-- A with these sizes and streams, both ways, asking for nothing; B is alike but for the ports
abbrev pub sizes : (limit fragment buffer streams : ℕ) → Configuration
sizes limit fragment buffer streams = plain_configuration PORT_A PORT_B limit fragment buffer streams streams

-- what a `pair` line says is right: its ports are the pair's, and nothing is wrong with the rest
pub record IsOfPair (c : Configuration) : Type 0 where
  pub own_port : c.own_port ≡ PORT_A
  pub peer_port : c.peer_port ≡ PORT_B
  pub faultless : configuration_fault c ≡ None

-- the same of B's configuration, whose ports are the other way round
pub record IsOfListener (c : Configuration) : Type 0 where
  pub own_port : c.own_port ≡ PORT_B
  pub peer_port : c.peer_port ≡ PORT_A
  pub faultless : configuration_fault c ≡ None

-- and of both
pub record AreOfPair (a b : Configuration) : Type 0 where
  pub of_a : IsOfPair a
  pub of_b : IsOfListener b
