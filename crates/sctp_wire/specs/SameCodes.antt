-- The numbers of causes and parameters, as Rust has them, are those of the definitions.
use Rattle.std.specs.Prelude.{◌≡◌, ℕ, ◌==◌, ◌||◌}
use Rattle.sctp_model.specs.end.Reports as causes
use Rattle.sctp_model.specs.end.Options as parameters
use Rattle.sctp_model.specs.wire.Unknown.{is_known_parameter, is_passed_over}
use Rattle.sctp_wire.specs.declared.codes.TheConstants.{INVALID_STREAM, MISSING_PARAMETER, STALE_COOKIE, OUT_OF_RESOURCE, UNRECOGNIZED_CHUNK, INVALID_PARAMETER, UNRECOGNIZED_PARAMETERS, NO_USER_DATA, USER_ABORT, PROTOCOL_VIOLATION, IPV4_ADDRESS, IPV6_ADDRESS, STATE_COOKIE, UNRECOGNIZED_PARAMETER, COOKIE_PRESERVATIVE, HOST_NAME, ADDRESS_TYPES, ZERO_CHECKSUM, SUPPORTED_EXTENSIONS, FORWARD_TSN_SUPPORTED}

-- name by name (RFC 9260, 3.3.10)
pub record AreTheCauses : Type 0 where
  pub stream : INVALID_STREAM ≡ causes.INVALID_STREAM
  pub missing : MISSING_PARAMETER ≡ causes.MISSING_PARAMETER
  pub stale : STALE_COOKIE ≡ causes.STALE_COOKIE
  pub resource : OUT_OF_RESOURCE ≡ causes.OUT_OF_RESOURCE
  pub chunk : UNRECOGNIZED_CHUNK ≡ causes.UNRECOGNIZED_CHUNK
  pub invalid : INVALID_PARAMETER ≡ causes.INVALID_PARAMETER
  pub unknown : UNRECOGNIZED_PARAMETERS ≡ causes.UNRECOGNIZED_PARAMETERS
  pub no_data : NO_USER_DATA ≡ causes.NO_USER_DATA
  pub user : USER_ABORT ≡ causes.USER_ABORT
  pub violation : PROTOCOL_VIOLATION ≡ causes.PROTOCOL_VIOLATION

-- name by name, and all that is known or passed over (RFC 9260, 3.2.1, 3.3.2 and 3.3.3)
pub record AreTheParameters : Type 0 where
  pub cookie : STATE_COOKIE ≡ parameters.STATE_COOKIE
  pub unrecognized : UNRECOGNIZED_PARAMETER ≡ parameters.UNRECOGNIZED
  pub checksum : ZERO_CHECKSUM ≡ parameters.ZERO_CHECKSUM
  pub extensions : SUPPORTED_EXTENSIONS ≡ parameters.SUPPORTED_EXTENSIONS
  pub forward : FORWARD_TSN_SUPPORTED ≡ parameters.FORWARD_TSN_SUPPORTED
  pub known : (kind : ℕ) → is_known_parameter kind
      ≡ ((kind == STATE_COOKIE) || (kind == UNRECOGNIZED_PARAMETER) || (kind == ZERO_CHECKSUM) || (kind == SUPPORTED_EXTENSIONS) || (kind == FORWARD_TSN_SUPPORTED))
  pub passed_over : (kind : ℕ) → is_passed_over kind
      ≡ ((kind == IPV4_ADDRESS) || (kind == IPV6_ADDRESS) || (kind == COOKIE_PRESERVATIVE) || (kind == HOST_NAME) || (kind == ADDRESS_TYPES))
