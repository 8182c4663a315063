-- What a WebRTC endpoint is set up with (RFC 8831, 6.6 and 6.7).
use Rattle.std.specs.Prelude.{ℕ, true}
use Rattle.sctp_model.specs.end.EndView.{Configuration}
use Rattle.sctp_model.specs.end.Configured.{plain_configuration}

-- the most bytes of a packet
abbrev pub CHANNEL_PACKET : ℕ
CHANNEL_PACKET = 1_188

-- the data bytes of a fragment, which fills such a packet
abbrev pub CHANNEL_FRAGMENT : ℕ
CHANNEL_FRAGMENT = 1_156

-- the bytes of the receive buffer
abbrev pub CHANNEL_BUFFER : ℕ
CHANNEL_BUFFER = 1_048_576

-- the streams each way: a data channel has one each way with its number (RFC 8831, 6.4)
abbrev pub CHANNEL_STREAMS : ℕ
CHANNEL_STREAMS = 1_024

-- The configuration for data channels between these ports: partial reliability over DATA, congestion control with fast retransmission, and the
-- reset of streams, by which a data channel is closed.
abbrev pub data_channel_configuration : (own_port peer_port : ℕ) → Configuration
data_channel_configuration own_port peer_port = record (plain_configuration own_port peer_port CHANNEL_PACKET CHANNEL_FRAGMENT CHANNEL_BUFFER CHANNEL_STREAMS CHANNEL_STREAMS) {
  partial = true;
  fast_retransmit = true;
  congestion_control = true;
  reset = true;
}
