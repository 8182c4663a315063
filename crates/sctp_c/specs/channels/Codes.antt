-- The numbers that C gets of channels: results of calls, and reasons.
use Rattle.std.specs.Prelude.{ℕ, Result, Ok, Err}
use Rattle.sctp_dcep.specs.Dcep as dcep
use Rattle.sctp_channels.specs.Told as model
use Rattle.sctp_channels.specs.declared.fault.CloseFault.{CloseFault}
use Rattle.sctp_channels.specs.declared.fault.CloseFault.TheVariants as close
use Rattle.sctp_channels.specs.declared.fault.OpenFault.{OpenFault}
use Rattle.sctp_channels.specs.declared.fault.OpenFault.TheVariants as opening
use Rattle.sctp_channels.specs.declared.fault.SendFault.{SendFault}
use Rattle.sctp_channels.specs.declared.fault.SendFault.TheVariants as send
use Rattle.sctp_c.specs.Codes.{refused_code, reset_code}
use Rattle.sctp_c.specs.declared.codes.TheConstants.{OK, TOO_LONG, NO_CHANNEL, NO_STREAM, WRONG_HALF, USED, OUT_OF_RANGE}

-- ---- results

-- why no channel is opened
abbrev pub open_code : OpenFault → ℕ
open_code opening.TooLong = TOO_LONG
open_code opening.OutOfRange = OUT_OF_RANGE
open_code opening.NoStream = NO_STREAM
open_code opening.WrongHalf = WRONG_HALF
open_code opening.Used = USED
open_code (opening.Refused why) = refused_code why

-- the result of opening a channel that both applications agreed on
abbrev pub negotiate_code : Result (Unit {0}) OpenFault → ℕ
negotiate_code (Ok done) = OK
negotiate_code (Err why) = open_code why

-- why a message isn't sent
abbrev pub message_code : SendFault → ℕ
message_code send.NoChannel = NO_CHANNEL
message_code (send.Refused why) = refused_code why

-- why a channel isn't closed
abbrev pub close_code : CloseFault → ℕ
close_code close.NoChannel = NO_CHANNEL
close_code (close.Refused why) = reset_code (Err why)

-- the result of closing one
abbrev pub closing_code : Result (Unit {0}) CloseFault → ℕ
closing_code (Ok done) = OK
closing_code (Err why) = close_code why

-- ---- numbers that name something

-- what is wrong with a message of DCEP
abbrev pub fault_number : dcep.Fault → ℕ
fault_number dcep.UnknownMessage = 1
fault_number dcep.OpenCutShort = 2
fault_number dcep.AckWithMore = 3
fault_number dcep.UnknownType = 4

-- why the peer is refused
abbrev pub refusal_number : model.Refusal → ℕ
refusal_number (model.BadOpening fault) = fault_number fault
refusal_number model.WrongHalf = 5
refusal_number model.NoWayBack = 6

-- why a message of the peer is ignored
abbrev pub ignored_number : model.Reason → ℕ
ignored_number (model.BadControl fault) = fault_number fault
ignored_number model.NoChannel = 7
ignored_number model.OpenAgain = 8
ignored_number model.StrayAck = 9
ignored_number model.LateAck = 10
ignored_number model.OtherPayload = 11
ignored_number model.OnClosing = 12
ignored_number model.OnRefused = 13
