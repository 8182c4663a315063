-- Which cause the ABORT has that refuses an INIT ACK (RFC 9260, 3.3.10).
use Rattle.std.specs.Prelude.{[]}
use Rattle.sctp_model.specs.wire.Typed.{Typed}
use Rattle.sctp_model.specs.end.Reports.{item, INVALID_PARAMETER, OUT_OF_RESOURCE}
use Rattle.sctp_model.specs.end.Opening.{missing_cookie}
use Rattle.sctp_opening.specs.declared.calling.AckFault.{AckFault}
use Rattle.sctp_opening.specs.declared.calling.AckFault.TheVariants.{NoStream, NoCookie, LargeCookie}

-- the cause of a fault
abbrev pub cause_of : AckFault → Typed
cause_of NoStream = item INVALID_PARAMETER []
cause_of NoCookie = missing_cookie
cause_of LargeCookie = item OUT_OF_RESOURCE []
