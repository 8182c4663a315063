-- What an endpoint may be set up with: the limits of a configuration, and the faults of one beyond them.
use Rattle.std.specs.Prelude.{◌≡◌, ℕ, ◌+◌, ◌^◌, ◌<◌, ◌≤◌, ◌==◌, nat_le, nat_lt, Bool, false, not, ◌&&◌, ◌||◌, [], ◌∷◌, Option, ◌*◌, None, Some}
use Rattle.sctp_model.specs.wire.Chunk.{padded}
use Rattle.sctp_model.specs.numbers.Limits.{STREAM_LIMIT, LEAST_PACKET, GREATEST_PACKET, LEAST_FRAGMENT, GREATEST_FRAGMENT, FRAGMENT_OVERHEAD, LEAST_BUFFER}
use Rattle.sctp_model.specs.numbers.Limits.{GREATEST_BUFFER, LEAST_WAIT, LONGEST_MESSAGE, WINDOW, FIRST_WAIT, LONGEST_WAIT, REPEATS, OPENING_REPEATS}
use Rattle.sctp_model.specs.numbers.Limits.{GREATEST_GROWTH}
use Rattle.sctp_model.specs.sender.Words.{when, first_there, some_passes}
use Rattle.sctp_model.specs.end.EndView.{Configuration}

-- Ports that aren't 0, and sizes and streams within their limits; a full fragment fits a packet of its own.
pub record IsConfiguration (c : Configuration) : Type 0 where
  pub own_port : (0 < c.own_port) × (c.own_port < 2 ^ 16)
  pub peer_port : (0 < c.peer_port) × (c.peer_port < 2 ^ 16)
  pub limit : (LEAST_PACKET ≤ c.limit) × (c.limit ≤ GREATEST_PACKET)
  pub fragment : (LEAST_FRAGMENT ≤ c.fragment) × (c.fragment ≤ GREATEST_FRAGMENT) × (FRAGMENT_OVERHEAD + padded c.fragment ≤ c.limit)
  pub buffer : (LEAST_BUFFER ≤ c.buffer) × (c.buffer ≤ GREATEST_BUFFER)
  pub outbound : (1 ≤ c.outbound) × (c.outbound ≤ STREAM_LIMIT)
  pub inbound : (1 ≤ c.inbound) × (c.inbound ≤ STREAM_LIMIT)

-- The bounds of its options, which no theorem rests on: RTO.Initial from 1 to RTO.Max (RFC 9260, 16); a reserve of at most half the buffer, so that the
-- window that is left can open by a quarter (6.2); a message of no more fragments than may be outstanding (6.9), and with space to wait; the growth of the
-- window (7.2.1).
pub record HasBoundedOptions (c : Configuration) : Type 0 where
  pub waits : (1 ≤ c.first_wait) × (c.first_wait ≤ c.longest_wait) × (c.longest_wait ≤ LONGEST_WAIT)
  pub reserve : 2 * c.reserve ≤ c.buffer
  pub longest_message : (1 ≤ c.longest_message) × (c.longest_message ≤ WINDOW * c.fragment)
  pub queue : (most : ℕ) → c.queue_bytes ≡ Some most → c.longest_message ≤ most
  pub growth : (1 ≤ c.growth) × (c.growth ≤ GREATEST_GROWTH)

-- the configuration of these ports, sizes and streams that asks for no option
abbrev pub plain_configuration : (own_port peer_port limit fragment buffer outbound inbound : ℕ) → Configuration
plain_configuration own_port peer_port limit fragment buffer outbound inbound = record {
  own_port = own_port;
  peer_port = peer_port;
  limit = limit;
  fragment = fragment;
  buffer = buffer;
  outbound = outbound;
  inbound = inbound;
  interleave = false;
  partial = false;
  delay = false;
  standard_closing = false;
  fast_retransmit = false;
  least_wait = LEAST_WAIT;
  congestion_control = false;
  reset = false;
  first_wait = FIRST_WAIT;
  longest_wait = LONGEST_WAIT;
  repeats = REPEATS;
  opening_repeats = OPENING_REPEATS;
  heartbeat = None;
  progress = false;
  guard = false;
  updates = false;
  reserve = 0;
  all_blocks = false;
  growth = 1;
  cubic = false;
  longest_message = LONGEST_MESSAGE;
  queue_bytes = None;
  strict = false;
  zero_checksum = false;
}

-- ---- faults

-- what is wrong with a configuration
pub data ConfigurationFault : Type 0 where
  -- a port is 0
  WrongPort : ConfigurationFault
  -- a size is out of its range; a fragment also if it fits no packet of its own
  WrongLimit WrongFragment WrongBuffer : ConfigurationFault
  -- the streams of one way are
  WrongStreams : ConfigurationFault
  -- RTO.Initial or RTO.Max is
  WrongWait : ConfigurationFault
  -- it is more than half the buffer
  WrongReserve : ConfigurationFault
  -- it is none, or has more fragments than may be outstanding
  WrongMessage : ConfigurationFault
  -- it is less than the longest message, which then could never wait
  WrongQueue : ConfigurationFault
  -- the window would never open by it, or at once
  WrongGrowth : ConfigurationFault

-- a number from the first of these to the second
abbrev pub is_between : (least greatest n : ℕ) → Bool
is_between least greatest n = nat_le least n && nat_le n greatest

-- a fragment's size is in range, and it fits a packet of its own
abbrev pub is_fragment : (limit n : ℕ) → Bool
is_fragment limit n = is_between LEAST_FRAGMENT GREATEST_FRAGMENT n && nat_le (FRAGMENT_OVERHEAD + padded n) limit

-- The first of these faults that holds.
abbrev pub configuration_fault : Configuration → Option ConfigurationFault
configuration_fault c = first_there (
    when ((c.own_port == 0) || (c.peer_port == 0)) WrongPort
    ∷ when (not (is_between LEAST_PACKET GREATEST_PACKET c.limit)) WrongLimit
    ∷ when (not (is_fragment c.limit c.fragment)) WrongFragment
    ∷ when (not (is_between LEAST_BUFFER GREATEST_BUFFER c.buffer)) WrongBuffer
    ∷ when (not (is_between 1 STREAM_LIMIT c.outbound && is_between 1 STREAM_LIMIT c.inbound)) WrongStreams
    ∷ when (not (is_between 1 c.longest_wait c.first_wait && nat_le c.longest_wait LONGEST_WAIT)) WrongWait
    ∷ when (not (nat_le (2 * c.reserve) c.buffer)) WrongReserve
    ∷ when (not (is_between 1 (WINDOW * c.fragment) c.longest_message)) WrongMessage
    ∷ when (some_passes (λ most. nat_lt most c.longest_message) c.queue_bytes) WrongQueue
    ∷ when (not (is_between 1 GREATEST_GROWTH c.growth)) WrongGrowth
    ∷ [])
