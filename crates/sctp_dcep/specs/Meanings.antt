-- What the types of this crate say, in the words of the definitions.
use Rattle.std.specs.Prelude.{true, false, Result, Ok, Err}
use Rattle.sctp_dcep.specs.Content as model
use Rattle.sctp_dcep.specs.Dcep as dcep
use Rattle.sctp_dcep.specs.Dcep.{Parameters, Opens, Acknowledges, Faulty}
use Rattle.sctp_dcep.specs.declared.content.Content.{Content}
use Rattle.sctp_dcep.specs.declared.content.Content.TheVariants.{Text, Binary}
use Rattle.sctp_dcep.specs.declared.control.Reliability.{Reliability}
use Rattle.sctp_dcep.specs.declared.control.Reliability.TheVariants.{Reliable, MaxRetransmits, MaxPacketLifetime}
use Rattle.sctp_dcep.specs.declared.control.Opening.{Opening}
use Rattle.sctp_dcep.specs.declared.control.Control.{Control}
use Rattle.sctp_dcep.specs.declared.control.Control.TheVariants.{Open, Acknowledgement}
use Rattle.sctp_dcep.specs.declared.control.ControlFault.{ControlFault}
use Rattle.sctp_dcep.specs.declared.control.ControlFault.TheVariants.{UnknownMessage, OpenCutShort, AckWithMore, UnknownType}

-- a content (RFC 8831, 6.6)
abbrev pub content_meaning : Content → model.Content
content_meaning (Text bytes) = record { text = true; bytes = bytes.now }
content_meaning (Binary bytes) = record { text = false; bytes = bytes.now }

-- how long messages are retransmitted (RFC 8832, 5.1)
abbrev pub reliability_meaning : Reliability → dcep.Reliability
reliability_meaning Reliable = dcep.Reliable
reliability_meaning (MaxRetransmits times) = dcep.MaxRetransmits times
reliability_meaning (MaxPacketLifetime milliseconds) = dcep.MaxPacketLifetime milliseconds

-- the parameters of a channel (RFC 8832, 5.1)
abbrev pub opening_meaning : Opening → Parameters
opening_meaning o = record {
  label = o.label.now;
  protocol = o.protocol.now;
  ordered = o.ordered;
  reliability = reliability_meaning o.reliability;
  priority = o.priority;
}

-- what is wrong with a message of DCEP
abbrev pub fault_meaning : ControlFault → dcep.Fault
fault_meaning UnknownMessage = dcep.UnknownMessage
fault_meaning OpenCutShort = dcep.OpenCutShort
fault_meaning AckWithMore = dcep.AckWithMore
fault_meaning UnknownType = dcep.UnknownType

-- a message of DCEP (RFC 8832, 5)
abbrev pub control_meaning : Result Control ControlFault → dcep.Control
control_meaning (Ok (Open o)) = Opens (opening_meaning o)
control_meaning (Ok Acknowledgement) = Acknowledges
control_meaning (Err fault) = Faulty (fault_meaning fault)
