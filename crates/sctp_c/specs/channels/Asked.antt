-- What C passes in for a channel, in the words of the definitions.
use Rattle.std.specs.Prelude.{ℕ, ◌==◌, if◌then◌else◌, Bool, true, false, List, Option, Some, None}
use Rattle.sctp_dcep.specs.Content.{Content}
use Rattle.sctp_dcep.specs.Dcep.{Reliability, Parameters, reliability_of}
use Rattle.sctp_channels.specs.declared.table.DtlsRole.{DtlsRole}
use Rattle.sctp_channels.specs.declared.table.DtlsRole.TheVariants.{Client, Server}
use Rattle.sctp_c.specs.Asked.{is_zeroed}
use Rattle.sctp_c.specs.declared.channels.crossing.SctpChannelParameters.{SctpChannelParameters}

-- the role in the DTLS handshake
abbrev pub role_of : (is_client : Bool) → DtlsRole
role_of true = Client
role_of false = Server

-- The reliability that is asked for; none if its number has no meaning, or a reserved number isn't 0.
abbrev pub asked_reliability : SctpChannelParameters → Option Reliability
asked_reliability p = if is_zeroed p.reserved then reliability_of p.reliability p.limit else None

-- the parameters of a channel with this reliability, this label and this protocol
abbrev pub asked_parameters : SctpChannelParameters → Reliability → (label protocol : List ℕ) → Parameters
asked_parameters p r label protocol = record { label = label; protocol = protocol; ordered = p.ordered; reliability = r; priority = p.priority }

-- the stream that is asked for: 65,535 is any
abbrev pub stream_asked : ℕ → Option ℕ
stream_asked n = if n == 65_535 then None else Some n

-- what is to be sent
abbrev pub content_asked : (text : Bool) → (bytes : List ℕ) → Content
content_asked text bytes = record { text = text; bytes = bytes }
