-- The terms on which an endpoint joins an association, by its peer's INIT ACK, by its own cookie, or by its own configuration (RFC 9260, 5.1).
use Rattle.std.specs.Prelude.{ℕ, ◌-◌, min, [], Option}
use Rattle.sctp_model.specs.messages.Framing.{header_of}
use Rattle.sctp_model.specs.wire.Chunk.{InitMeaning}
use Rattle.sctp_model.specs.wire.Packet.{size_of_packet}
use Rattle.sctp_model.specs.sender.Words.{when}
use Rattle.sctp_model.specs.sender.SenderView.{fresh_sender}
use Rattle.sctp_model.specs.receiver.ReceiverView.{fresh_receiver}
use Rattle.sctp_model.specs.end.Sealing.{Body}
use Rattle.sctp_model.specs.end.Pacing.{Pace, fresh_pace}
use Rattle.sctp_model.specs.end.EndView.{Terms, Configuration, send_limits, Draw, Tags, EndView, format_for}
use Rattle.sctp_model.specs.end.Options.{agreed_interleave, agreed_partial, agreed_reset, agreed_zero_checksum}

-- the tags by an endpoint's own random values and its peer's (RFC 9260, 5.3.1)
abbrev pub tags_between : Draw → Draw → Tags
tags_between own peer = record { own = own.tag; peer = peer.tag }

-- its pace, if it is set up for one: fragments have this header
abbrev pub pace_for : Configuration → (header window : ℕ) → Option Pace
pace_for c header window = when c.fast_retransmit (fresh_pace c.congestion_control c.growth c.cubic header (c.limit - size_of_packet []) window)

-- The endpoint joins an association on these terms: nothing is sent or heard in it yet. `window` is the peer's, in bytes.
abbrev pub joined : Terms → (window : ℕ) → EndView → EndView
joined x window e = record e {
  pace = pace_for e.configuration (header_of (format_for x.interleave)) window;
  terms = x;
  sender = fresh_sender x.own_tsn x.outbound e.configuration.fragment window x.partial (send_limits e.configuration);
  receiver = fresh_receiver x.peer_tsn x.inbound e.configuration.buffer e.configuration.reserve;
}

-- The terms of a caller with these random values, to which this INIT ACK is an answer. Each way has the lesser of the streams that its sender asks for and
-- of those that its receiver allows (RFC 9260, 5.1.1).
abbrev pub terms_of_ack : Configuration → Draw → InitMeaning → Terms
terms_of_ack c d m = record {
  own_tsn = d.tsn;
  peer_tsn = m.tsn;
  outbound = min c.outbound m.inbound;
  inbound = min m.outbound c.inbound;
  interleave = agreed_interleave c m.parameters;
  partial = agreed_partial c m.parameters;
  reset = agreed_reset c m.parameters;
  zero_checksum = agreed_zero_checksum c m.parameters;
}

-- The terms of a listener, by what its cookie says (5.1.3).
abbrev pub terms_of_body : Body → Terms
terms_of_body b = record {
  own_tsn = b.listener.tsn;
  peer_tsn = b.caller.tsn;
  outbound = b.to_caller;
  inbound = b.from_caller;
  interleave = b.interleave;
  partial = b.partial;
  reset = b.reset;
  zero_checksum = b.zero_checksum;
}

-- What an endpoint takes to be agreed on with a peer that is set up like itself, with these random values.
abbrev pub terms_alike : Configuration → Draw → Draw → Terms
terms_alike c own peer = record {
  own_tsn = own.tsn;
  peer_tsn = peer.tsn;
  outbound = min c.outbound c.inbound;
  inbound = min c.outbound c.inbound;
  interleave = c.interleave;
  partial = c.partial;
  reset = c.reset;
  zero_checksum = c.zero_checksum;
}
