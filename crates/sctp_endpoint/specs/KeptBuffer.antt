-- The buffer that an endpoint keeps for its next packet.
use Rattle.std.specs.Prelude.{ℕ}
use Rattle.sctp_association.specs.KeptRoom as machine
use Rattle.sctp_endpoint.specs.declared.endpoint.Endpoint.{Endpoint}

-- its capacity in bytes: 0 if none is kept
unfoldable pub kept_capacity : Endpoint → ℕ
kept_capacity e = machine.kept_capacity e.machine
