-- What an endpoint counts from its start on: packets, bytes, chunks of user data, SACKs, and packets that are dropped (RFC 9260, 3, 3.3.1, 3.3.4 and 8.4).
-- Each number is counted modulo 2^64.
use Rattle.std.specs.Prelude.{◌≡◌, ℕ, ◌+◌, ◌%◌, ◌^◌, Bool, true, false, not, ◌&&◌, List, length, count_by, Option, Some, None, Result, Ok, Err}
use Rattle.std.specs.declared.vec.Vec.{Vec}
use Rattle.std.specs.declared.alloc.Global.{Global}
use Rattle.sctp_model.specs.wire.Chunk.{ChunkMeaning, Data, IData, Init, InitAck, Sack, Heartbeat, HeartbeatAck, Abort, Shutdown, ShutdownAck, Error, CookieEcho, CookieAck, ShutdownComplete, ForwardTsn, IForwardTsn, Unknown}
use Rattle.sctp_model.specs.wire.Packet.{Packet}
use Rattle.sctp_model.specs.end.EndView.{EndView}
use Rattle.sctp_model.specs.end.Building.{Builds, packet_of}
use Rattle.sctp_values.specs.declared.no_memory.NoMemory.{NoMemory}
use Rattle.sctp_packet.specs.PacketBytes.{WritesPacket}
use Rattle.sctp_association.specs.declared.build.sendings.Sendings.{Sendings}
use Rattle.sctp_association.specs.Sends.{Sends}
use Rattle.sctp_terms.specs.declared.reason.Reason.{Reason}
use Rattle.sctp_terms.specs.declared.reason.Reason.TheVariants.{Fault, Ports, Tag, State, Cookie}
use Rattle.sctp_terms.specs.declared.calls.AbortFault.{AbortFault}
use Rattle.sctp_endpoint.specs.EndpointStands.{EndpointStands}
use Rattle.sctp_endpoint.specs.declared.after.Verdict.{Verdict}
use Rattle.sctp_endpoint.specs.declared.after.Verdict.TheVariants.{Taken, Dropped, Answer}
use Rattle.sctp_endpoint.specs.declared.counts.Counts.{Counts}
use Rattle.sctp_endpoint.specs.declared.counts.Dropped as declared
use Rattle.sctp_endpoint.specs.declared.counts.Tally.{Tally}
use Rattle.sctp_endpoint.specs.declared.endpoint.Endpoint.{Endpoint}
use Rattle.sctp_endpoint.specs.declared.transmit.Sent.{Sent}

-- packets that were dropped, by the reason
pub record DroppedCounted : Type 0 where
  pub fault : ℕ
  pub ports : ℕ
  pub tag : ℕ
  pub state : ℕ
  pub cookie : ℕ

-- packets sent and received, and their bytes; DATA and I-DATA chunks sent for the first time, retransmitted because the data timer expired, and fast
-- retransmitted; SACK chunks sent and received; packets dropped
pub record Counted : Type 0 where
  pub packets_out : ℕ
  pub bytes_out : ℕ
  pub packets_in : ℕ
  pub bytes_in : ℕ
  pub first_sent : ℕ
  pub timer_retransmitted : ℕ
  pub fast_retransmitted : ℕ
  pub sacks_out : ℕ
  pub sacks_in : ℕ
  pub dropped : DroppedCounted

-- nothing was dropped yet
abbrev pub none_dropped : DroppedCounted
none_dropped = record { fault = 0; ports = 0; tag = 0; state = 0; cookie = 0 }

-- Nothing was counted yet.
abbrev pub none_counted : Counted
none_counted = record {
  packets_out = 0;
  bytes_out = 0;
  packets_in = 0;
  bytes_in = 0;
  first_sent = 0;
  timer_retransmitted = 0;
  fast_retransmitted = 0;
  sacks_out = 0;
  sacks_in = 0;
  dropped = none_dropped;
}

-- ---- what the code keeps

-- the packets dropped, by their names in the definitions
abbrev pub dropped_meaning : declared.Dropped → DroppedCounted
dropped_meaning d = record { fault = d.fault; ports = d.ports; tag = d.tag; state = d.state; cookie = d.cookie }

-- the numbers that an endpoint keeps
abbrev pub tally_meaning : Tally → Counted
tally_meaning t = record {
  packets_out = t.packets_out;
  bytes_out = t.bytes_out;
  packets_in = t.packets_in;
  bytes_in = t.bytes_in;
  first_sent = t.first_sent;
  timer_retransmitted = t.timer_retransmitted;
  fast_retransmitted = t.fast_retransmitted;
  sacks_out = t.sacks_out;
  sacks_in = t.sacks_in;
  dropped = dropped_meaning t.dropped;
}

-- the numbers that are returned
abbrev pub counts_meaning : Counts → Counted
counts_meaning c = record {
  packets_out = c.packets_out;
  bytes_out = c.bytes_out;
  packets_in = c.packets_in;
  bytes_in = c.bytes_in;
  first_sent = c.first_sent;
  timer_retransmitted = c.timer_retransmitted;
  fast_retransmitted = c.fast_retransmitted;
  sacks_out = c.sacks_out;
  sacks_in = c.sacks_in;
  dropped = dropped_meaning c.dropped;
}

-- What an endpoint has counted. Hidden from the crates above, which know it by the clauses alone.
unfoldable pub counted : Endpoint → Counted
counted e = tally_meaning e.tally

-- ---- a packet sent

-- so many more, modulo 2^64
abbrev pub more : ℕ → ℕ → ℕ
more n k = (n + k) % 2 ^ 64

-- one packet more of so many bytes
abbrev pub with_packet : (bytes : ℕ) → Counted → Counted
with_packet bytes c = record c { packets_out = more c.packets_out 1; bytes_out = more c.bytes_out bytes }

-- one SACK more, if one was sent
abbrev pub with_sack : Bool → Counted → Counted
with_sack true c = record c { sacks_out = more c.sacks_out 1 }
with_sack false c = c

-- A SACK went out between these two states: it was due before, and isn't after (RFC 9260, 6.2).
abbrev pub sack_went : EndView → EndView → Bool
sack_went v t = v.due.sack && not t.due.sack

-- the chunks of user data in a packet, by how many are sent for the first time and how many again
abbrev pub with_sendings : Sendings → Counted → Counted
with_sendings s c = record c {
  first_sent = more c.first_sent s.first;
  timer_retransmitted = more c.timer_retransmitted s.timed;
  fast_retransmitted = more c.fast_retransmitted s.missed;
}

-- What `poll_transmit` counts with a packet, in terms of the states before and after it: itself and its bytes, the SACK if it has one, and its chunks of
-- user data.
pub record CountsSent (v : EndView) (s : Sent) (e : Endpoint) (before : Counted) : Type 0 where
  pub chunks : List ChunkMeaning
  pub after : EndView
  pub builds : Builds v chunks after
  pub packet : WritesPacket s.packet.items (packet_of v chunks)
  pub stands : EndpointStands e after
  pub sendings : Sendings
  pub sends : Sends v chunks sendings
  pub counts : counted e ≡ with_sendings sendings (with_sack (sack_went v after) (with_packet (length s.packet.items) before))

-- By what it returns: without a packet, and after an allocation failure, it counts nothing.
abbrev pub CountsAfter : EndView → Result (Option Sent) NoMemory → Endpoint → Counted → Type 0
CountsAfter v (Ok (Some s)) e before = CountsSent v s e before
CountsAfter v (Ok None) e before = counted e ≡ before
CountsAfter v (Err why) e before = counted e ≡ before

-- What `abort` counts: its packet, if it returns one.
abbrev pub aborted_counts : Result (Vec ℕ Global) AbortFault → Counted → Counted
aborted_counts (Ok packet) c = with_packet (length packet.items) c
aborted_counts (Err why) c = c

-- ---- a packet received

-- a SACK (RFC 9260, 3.3.4)
abbrev pub is_sack : ChunkMeaning → Bool
is_sack (Sack s) = true
is_sack (Data p) = false
is_sack (IData p) = false
is_sack (Init m) = false
is_sack (InitAck m) = false
is_sack (Heartbeat info) = false
is_sack (HeartbeatAck info) = false
is_sack (Abort t causes) = false
is_sack (Shutdown tsn) = false
is_sack ShutdownAck = false
is_sack (Error causes) = false
is_sack (CookieEcho cookie) = false
is_sack CookieAck = false
is_sack (ShutdownComplete t) = false
is_sack (ForwardTsn m) = false
is_sack (IForwardTsn m) = false
is_sack (Unknown kind flags value) = false

-- the number of SACK chunks among these
abbrev pub sacks_among : List ChunkMeaning → ℕ
sacks_among ms = count_by is_sack ms

-- the number of SACK chunks in what bytes are read as
abbrev pub sacks_read : Option Packet → ℕ
sacks_read None = 0
sacks_read (Some p) = sacks_among p.chunks

-- one packet more is dropped, for this reason
abbrev pub with_reason : Reason → DroppedCounted → DroppedCounted
with_reason Fault d = record d { fault = more d.fault 1 }
with_reason Ports d = record d { ports = more d.ports 1 }
with_reason Tag d = record d { tag = more d.tag 1 }
with_reason State d = record d { state = more d.state 1 }
with_reason Cookie d = record d { cookie = more d.cookie 1 }

-- What a verdict adds: the SACKs of a packet that was handled, the reason of one that was dropped, an answer as a packet sent.
abbrev pub told_counts : (sacks : ℕ) → Verdict → Counted → Counted
told_counts sacks Taken c = record c { sacks_in = more c.sacks_in sacks }
told_counts sacks (Dropped reason) c = record c { dropped = with_reason reason c.dropped }
told_counts sacks (Answer packet) c = with_packet (length packet.items) c

-- one packet more of so many bytes arrived
abbrev pub with_arrival : (bytes : ℕ) → Counted → Counted
with_arrival bytes c = record c { packets_in = more c.packets_in 1; bytes_in = more c.bytes_in bytes }

-- What `handle_packet` counts of so many bytes with so many SACKs: the packet, its bytes and its verdict; after an allocation failure nothing.
abbrev pub heard_counts : (bytes sacks : ℕ) → Result Verdict NoMemory → Counted → Counted
heard_counts bytes sacks (Ok told) c = told_counts sacks told (with_arrival bytes c)
heard_counts bytes sacks (Err why) c = c
