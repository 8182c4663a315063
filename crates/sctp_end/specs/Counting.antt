-- What the calls that handle or make packets add to what an endpoint counted, by their answers. Other calls add nothing.
use Rattle.std.specs.Prelude.{ℕ, length}
use Rattle.sctp_model.specs.end.EndView.{EndView}
use Rattle.sctp_association.specs.declared.build.sendings.Sendings.{Sendings}
use Rattle.sctp_endpoint.specs.Counted.{Counted, with_packet, with_sack, sack_went, with_sendings, with_arrival, told_counts}
use Rattle.sctp_endpoint.specs.declared.after.Verdict.TheVariants as verdict
use Rattle.sctp_end.specs.declared.reply.Reply.{Reply}
use Rattle.sctp_end.specs.declared.reply.Reply.TheVariants as reply

-- a received packet of so many bytes with so many SACKs: it, its bytes, and its SACKs, the reason for which it was dropped, or the answer as a packet sent;
-- nothing if an allocation failed
abbrev pub packet_counts : (bytes sacks : ℕ) → Reply → Counted → Counted
packet_counts n k reply.Taken c = told_counts k verdict.Taken (with_arrival n c)
packet_counts n k (reply.Dropped reason) c = told_counts k (verdict.Dropped reason) (with_arrival n c)
packet_counts n k (reply.Answer bytes) c = with_packet (length bytes) (with_arrival n c)
packet_counts n k _ c = c

-- a packet of so many bytes that is built between these two states: it, its bytes, its SACK if it has one, and its chunks of user data, by how many are sent
-- for the first time and how many again
abbrev pub build_counts : (bytes : ℕ) → (before after : EndView) → Sendings → Counted → Counted
build_counts n v t x c = with_sendings x (with_sack (sack_went v t) (with_packet n c))

-- an abort: its packet, if there is one
abbrev pub abort_counts : Reply → Counted → Counted
abort_counts (reply.Answer bytes) c = with_packet (length bytes) c
abort_counts _ c = c
