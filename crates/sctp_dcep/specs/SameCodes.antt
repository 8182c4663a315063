-- The public constants are those of the definitions.
use Rattle.std.specs.Prelude.{◌≡◌, [], ◌∷◌}
use Rattle.sctp_dcep.specs.Content as model
use Rattle.sctp_dcep.specs.Dcep.{acknowledgement}
use Rattle.sctp_dcep.specs.declared.content.TheConstants.{DCEP}
use Rattle.sctp_dcep.specs.declared.write.TheConstants.{ACKNOWLEDGEMENT}

-- the payload protocol identifier of DCEP (RFC 8831, 8), and the only byte of an ACK (RFC 8832, 5.2)
pub record AreTheCodes : Type 0 where
  pub dcep : DCEP ≡ model.DCEP
  pub acknowledgement : ACKNOWLEDGEMENT ∷ [] ≡ acknowledgement
