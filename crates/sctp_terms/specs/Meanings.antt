-- What the shared terms say, in the words of the definitions.
use Rattle.std.specs.Prelude.{ℕ}
use Rattle.sctp_model.specs.end.Configured as configured
use Rattle.sctp_model.specs.end.EndView as view
use Rattle.sctp_model.specs.end.PeerFaults as reasons
use Rattle.sctp_terms.specs.declared.config_fault.ConfigFault.{ConfigFault}
use Rattle.sctp_terms.specs.declared.config_fault.ConfigFault.TheVariants as fault
use Rattle.sctp_terms.specs.declared.life.End.{End}
use Rattle.sctp_terms.specs.declared.life.End.TheVariants as end
use Rattle.sctp_terms.specs.declared.life.State.{State}
use Rattle.sctp_terms.specs.declared.life.State.TheVariants as state
use Rattle.sctp_terms.specs.declared.reason.Reason.{Reason}
use Rattle.sctp_terms.specs.declared.reason.Reason.TheVariants as reason

-- what is wrong with a configuration
abbrev pub config_fault_meaning : ConfigFault → configured.ConfigurationFault
config_fault_meaning fault.Port = configured.WrongPort
config_fault_meaning fault.PacketLimit = configured.WrongLimit
config_fault_meaning fault.Fragment = configured.WrongFragment
config_fault_meaning fault.Buffer = configured.WrongBuffer
config_fault_meaning fault.Streams = configured.WrongStreams

-- its code: faults are tested in the order of their codes
abbrev pub config_code : configured.ConfigurationFault → ℕ
config_code configured.WrongPort = 1
config_code configured.WrongLimit = 2
config_code configured.WrongFragment = 3
config_code configured.WrongBuffer = 4
config_code configured.WrongStreams = 5
config_code configured.WrongWait = 6
config_code configured.WrongReserve = 7
config_code configured.WrongMessage = 8
config_code configured.WrongQueue = 9
config_code configured.WrongGrowth = 10

-- where an end stands (RFC 9260, 4)
abbrev pub state_meaning : State → view.State
state_meaning state.Closed = view.Closed
state_meaning state.Listen = view.Listen
state_meaning state.CookieWait = view.CookieWait
state_meaning state.CookieEchoed = view.CookieEchoed
state_meaning state.Established = view.InStage view.Established
state_meaning state.ShutdownPending = view.InStage view.ShutdownPending
state_meaning state.ShutdownSent = view.InStage view.ShutdownSent
state_meaning state.ShutdownReceived = view.InStage view.ShutdownReceived
state_meaning state.ShutdownAckSent = view.InStage view.ShutdownAckSent

-- how an association ended (RFC 9260, 5.2.6, 8.1 and 9)
abbrev pub end_meaning : End → view.Ended
end_meaning end.Completed = view.Completed
end_meaning end.Aborted = view.Aborted
end_meaning end.AbortedHere = view.AbortedHere
end_meaning end.TimedOut = view.TimedOut
end_meaning end.StaleCookie = view.StaleCookie

-- the code of a reason for which a packet is dropped
abbrev pub reason_code : Reason → ℕ
reason_code reason.Fault = reasons.FAULT
reason_code reason.Ports = reasons.PORTS
reason_code reason.Tag = reasons.TAG
reason_code reason.State = reasons.STATE
reason_code reason.Cookie = reasons.COOKIE
