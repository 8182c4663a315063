-- The numbers of a RE-CONFIG, as Rust has them, are those of the definitions.
use Rattle.std.specs.Prelude.{◌≡◌}
use Rattle.sctp_model.specs.wire.Reconfig as reconfig
use Rattle.sctp_reconfig.specs.declared.codes.TheConstants.{RECONFIG, OUTGOING_RESET, INCOMING_RESET, TSN_RESET, RECONFIG_RESPONSE, ADD_OUTGOING, ADD_INCOMING}

-- name by name (RFC 6525, 3.1 and 4)
pub record AreTheCodes : Type 0 where
  pub chunk : RECONFIG ≡ reconfig.RECONFIG
  pub outgoing : OUTGOING_RESET ≡ reconfig.OUTGOING_RESET
  pub incoming : INCOMING_RESET ≡ reconfig.INCOMING_RESET
  pub tsn : TSN_RESET ≡ reconfig.TSN_RESET
  pub response : RECONFIG_RESPONSE ≡ reconfig.RECONFIG_RESPONSE
  pub add_outgoing : ADD_OUTGOING ≡ reconfig.ADD_OUTGOING
  pub add_incoming : ADD_INCOMING ≡ reconfig.ADD_INCOMING
