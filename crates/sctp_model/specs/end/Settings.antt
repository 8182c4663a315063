-- What an endpoint is set up with: ports, sizes, streams and options. `Configured` has their bounds.
use Rattle.std.specs.Prelude.{ℕ, ◌-◌, Bool, Option}
use Rattle.sctp_model.specs.sender.SenderView.{SendLimits}
use Rattle.sctp_model.specs.end.Trips.{RtoBounds}

-- What an endpoint is set up with. Sizes are in bytes, `outbound` and `inbound` count streams.
pub record Configuration : Type 0 where
  pub own_port : ℕ
  pub peer_port : ℕ
  pub limit : ℕ
  pub fragment : ℕ
  pub buffer : ℕ
  pub outbound : ℕ
  pub inbound : ℕ
  pub interleave : Bool
  pub partial : Bool
  -- its SACKs may wait for another packet (RFC 9260, 6.2)
  pub delay : Bool
  -- data and what acknowledges it keep a closing association going, as in RFC 9260, 9.2
  pub standard_closing : Bool
  -- Fast Retransmit is on, and the RTO is computed from round trips, with this minimum in milliseconds (RFC 9260, 6.3.1 and 7.2.4)
  pub fast_retransmit : Bool
  pub least_wait : ℕ
  -- with Fast Retransmit: a congestion window limits what is in flight (RFC 9260, 7.2)
  pub congestion_control : Bool
  -- it may reset its streams, and its peer may (RFC 6525)
  pub reset : Bool
  -- RTO.Initial and RTO.Max in milliseconds; Association.Max.Retrans and Max.Init.Retransmits (RFC 9260, 16)
  pub first_wait : ℕ
  pub longest_wait : ℕ
  pub repeats : ℕ
  pub opening_repeats : ℕ
  -- HB.interval in milliseconds, if it sends HEARTBEATs (RFC 9260, 8.3)
  pub heartbeat : Option ℕ
  -- a SACK clears the count of retransmissions only if it acknowledges something, or says that the peer has no space (RFC 9260, 8.1 and 6.1, A)
  pub progress : Bool
  -- the time from the first SHUTDOWN on is bounded (T5-shutdown-guard of RFC 9260, 9.2)
  pub guard : Bool
  -- its peer learns that its window has opened by a quarter of the buffer, also if nothing arrives (RFC 9260, 6.2)
  pub updates : Bool
  -- bytes of the buffer that chunks after a gap leave to those that the gap is of
  pub reserve : ℕ
  -- a SACK has as many gap blocks as a packet of its own holds (RFC 9260, 3.3.4)
  pub all_blocks : Bool
  -- packets by which one acknowledgement opens the congestion window in slow start at most (L of RFC 9260, 7.2.1)
  pub growth : ℕ
  -- with congestion control: the window grows as CUBIC says (RFC 9438)
  pub cubic : Bool
  -- bytes of a message at most, and of the messages that wait for TSNs, if these are limited
  pub longest_message : ℕ
  pub queue_bytes : Option ℕ
  -- a peer that numbers fragments against the rules ends the association (RFC 8260, 2.1), and an INIT ACK says what was agreed on, and no more
  pub strict : Bool
  -- it accepts packets with the checksum 0, since DTLS below it lets no corrupted packet through (RFC 9653)
  pub zero_checksum : Bool

-- the limits of its sender
abbrev pub send_limits : Configuration → SendLimits
send_limits c = record { message = c.longest_message; queue = c.queue_bytes }

-- the window that it advertises first (3.3.2): as each later one, what the reserve leaves of its buffer
abbrev pub first_offer : Configuration → ℕ
first_offer c = c.buffer - c.reserve

-- the bounds of its RTO
abbrev pub waits_of : Configuration → RtoBounds
waits_of c = record { first = c.first_wait; least = c.least_wait; longest = c.longest_wait }
