-- What a user is told of a stream (RFC 8831, 6.4 to 6.7; RFC 8832, 6).
use Rattle.std.specs.Prelude.{ℕ}
use Rattle.sctp_dcep.specs.Content.{Content}
use Rattle.sctp_dcep.specs.Dcep.{Parameters, Fault}

-- why a message of the peer opens no channel
pub data Refusal : Type 0 where
  -- it is no OPEN
  BadOpening : Fault → Refusal
  -- the stream is one on which this side opens channels; there is no outgoing stream of its number
  WrongHalf NoWayBack : Refusal

-- why a message of the peer is ignored
pub data Reason : Type 0 where
  -- anything but an OPEN on a stream without a channel; an OPEN on one that has a channel
  NoChannel OpenAgain : Reason
  -- an ACK for which no channel waits; one that another message overtook
  StrayAck LateAck : Reason
  -- a message of DCEP with a fault; a payload protocol identifier that isn't a channel's
  BadControl : Fault → Reason
  OtherPayload : Reason
  -- the channel is being closed; its opening was refused
  OnClosing OnRefused : Reason

-- what a user is told
pub data Told : Type 0 where
  Incoming : Parameters → Told
  Opened : Told
  Message : Content → Told
  Closed : Told
  BufferedAmountLow : Told
  Refuses : Refusal → Told
  Ignores : Reason → Told

-- and of which stream
pub record Report : Type 0 where
  pub stream : ℕ
  pub told : Told
