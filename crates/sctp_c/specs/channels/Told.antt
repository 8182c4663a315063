-- What C gets of the calls of channels, and what they leave.
use Rattle.std.specs.Prelude.{◌≡◌, ℕ, Bool, List, Option, Result, Ok, Err}
use Rattle.std.specs.declared.vec.Vec.{Vec}
use Rattle.std.specs.declared.alloc.Global.{Global}
use Rattle.sctp_model.specs.wire.Packet.{Packet}
use Rattle.sctp_model.specs.end.EndView.{Draw, EndView}
use Rattle.sctp_values.specs.declared.no_memory.NoMemory.{NoMemory}
use Rattle.sctp_values.specs.declared.ticket.Ticket.{Ticket}
use Rattle.sctp_terms.specs.declared.calls.AbortFault.{AbortFault}
use Rattle.sctp_association.specs.AbortAnswers.{AbortAnswers, aborted_view}
use Rattle.sctp_dcep.specs.Content.{Content}
use Rattle.sctp_dcep.specs.Dcep.{Parameters, Reliability}
use Rattle.sctp_endpoint.specs.declared.after.Verdict.{Verdict}
use Rattle.sctp_endpoint.specs.declared.transmit.Sent.{Sent}
use Rattle.sctp_channels.specs.declared.channels.Channels.{Channels}
use Rattle.sctp_channels.specs.declared.fault.CloseFault.{CloseFault}
use Rattle.sctp_channels.specs.declared.fault.OpenFault.{OpenFault}
use Rattle.sctp_channels.specs.declared.fault.SendFault.{SendFault}
use Rattle.sctp_channels.specs.Packets.{Transmit}
use Rattle.sctp_channels.specs.Streams.{Table}
use Rattle.sctp_c.specs.Told.{PollTold, HeardTold, AbortTold}
use Rattle.sctp_c.specs.channels.Codes.{open_code, negotiate_code, message_code, closing_code}
use Rattle.sctp_c.specs.channels.Holds.{HoldsChannels, OpensIn, NegotiatesIn, SendsIn, ClosesIn, HearsIn, StandsAs}
use Rattle.sctp_c.specs.declared.channels.held.Held.{Held}
use Rattle.sctp_c.specs.declared.codes.TheConstants.{OK}
use Rattle.sctp_c.specs.declared.crossing.SctpSent.{SctpSent}
use Rattle.sctp_c.specs.declared.crossing.SctpVerdict.{SctpVerdict}

-- ---- channels are opened and closed

-- what C gets of a channel that is opened: its stream
abbrev pub OpenTold : Result ℕ OpenFault → (code opened : ℕ) → Type 0
OpenTold (Ok s) n k = (n ≡ OK) × (k ≡ s)
OpenTold (Err why) n k = n ≡ open_code why

-- The channels answered this to open, C gets it, and they are left so.
pub record OpensFor (v : EndView) (x : Table) (p : Parameters) (o : Option ℕ) (h : Option Held) (code opened : ℕ) : Type 0 where
  pub answer : Result ℕ OpenFault
  pub opens : OpensIn v x p o answer h
  pub told : OpenTold answer code opened

-- The channels answered this to open_negotiated, C gets it, and they are left so.
pub record NegotiatesFor (v : EndView) (x : Table) (ordered : Bool) (r : Reliability) (stream : ℕ) (h : Option Held) (code : ℕ) : Type 0 where
  pub answer : Result (Unit {0}) OpenFault
  pub opens : NegotiatesIn v x ordered r stream answer h
  pub told : code ≡ negotiate_code answer

-- The channels answered this to close, C gets it, and they are left so.
pub record ClosesFor (v : EndView) (x : Table) (stream : ℕ) (h : Option Held) (code : ℕ) : Type 0 where
  pub answer : Result (Unit {0}) CloseFault
  pub closes : ClosesIn v x stream answer h
  pub told : code ≡ closing_code answer

-- ---- a message that C sends

-- what C gets of it: its ticket
abbrev pub SendTold : Result Ticket SendFault → (code ticket : ℕ) → Type 0
SendTold (Ok given) n t = (n ≡ OK) × (t ≡ given.0)
SendTold (Err why) n t = n ≡ message_code why

-- The channels answered this to send, C gets it, and they are left so.
pub record SendsFor (v : EndView) (x : Table) (now stream : ℕ) (k : Content) (h : Option Held) (code ticket : ℕ) : Type 0 where
  pub answer : Result Ticket SendFault
  pub sends : SendsIn v x now stream k answer h
  pub told : SendTold answer code ticket

-- ---- packets

-- The channels returned this as the next packet, and were left so; C gets it, and they stand for the same once its buffers were handed back.
pub record PolledFor (v : EndView) (x : Table) (now : ℕ) (h : Option Held) (code : ℕ) (s : SctpSent) (buffer_old buffer tickets_old tickets : List ℕ) : Type 0 where
  pub answer : Result (Option Sent) NoMemory
  pub after : Channels
  pub sends : Transmit v x now answer after
  pub stands : StandsAs after h
  pub told : PollTold answer code s buffer_old buffer tickets_old tickets

-- The channels returned this for a received packet, C gets it, and they are left so.
pub record HeardFor (v : EndView) (x : Table) (now : ℕ) (d : Draw) (o : Option Packet) (h : Option Held) (code : ℕ) (w : SctpVerdict) (old new : List ℕ) : Type 0 where
  pub answer : Result Verdict NoMemory
  pub hears : HearsIn v x now d o answer h
  pub told : HeardTold answer code w old new

-- The channels returned this to abort, C gets it, and they are left so.
pub record AbortedFor (v : EndView) (x : Table) (reason : List ℕ) (h : Option Held) (code count : ℕ) (old new : List ℕ) : Type 0 where
  pub answer : Result (Vec ℕ Global) AbortFault
  pub answers : AbortAnswers v reason answer
  pub step : HoldsChannels h (aborted_view v reason answer) x
  pub told : AbortTold answer code count old new
