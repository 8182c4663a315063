use Rattle.std.proofs.Common.{◌≡◌, ℕ, List, [], ◌++◌, ◌∙◌, ap, length, take, drop, refl, arith}
use Rattle.std.proofs.lemmas.Grind.{common_steps}
use Rattle.sctp_model.specs.wire.Packet.{Packet, HEADER_ROOM}
use Rattle.sctp_wire.specs.Reading.{chunks_of}
use Rattle.sctp_packet.specs.Checksum.{crc32c}
use Rattle.sctp_packet.specs.PacketBytes.{header_bytes, without_sum}
use Rattle.sctp_packet.specs.Draft.{packet_of}
use Rattle.sctp_packet.proofs.DraftLemmas.{draft_without_sum, finished, IsFinished, kept_all, length-finished, draft_packet, draft_none}
use Rattle.sctp_packet.proofs.writer.PacketWriter.finish_or_room.Goals as goal

pub returns-then-len-le-HEADER-clause-packet : goal.returns-then-len-le-HEADER-clause-packet
returns-then-len-le-HEADER-clause-packet c =
    let s = c.self.inside in
    rw (← c.self.view_is) (draft_none s.limit (header_bytes s.source s.destination s.tag 0) s.bytes.items c.self.invariant.draft (omega arith))

is_finished : (c : goal.After-bytes-4-1) → IsFinished c.self.inside.limit c.self.inside.bytes.items (packet_of c.args.self)
is_finished c =
    let s = c.self.inside in
    let p : Packet = record { source = s.source; destination = s.destination; tag = s.tag; chunks = chunks_of (drop HEADER_ROOM s.bytes.items) } in
    rw (← c.self.view_is) (draft_packet s.limit s.bytes.items p (record { source = c.self.invariant.header.source; destination = c.self.invariant.header.destination; tag = c.self.invariant.header.tag }) c.self.invariant.draft (omega arith) refl)

written : (c : goal.After-bytes-4-1) → take c.self.inside.bytes.len (c.put_sum.new.packet ++ drop (length c.put_sum.new.packet) c.self.inside.bytes.items) ≡ finished c.self.inside.bytes.items
written c =
    let s = c.self.inside in
    let p : Packet = record { source = s.source; destination = s.destination; tag = s.tag; chunks = [] } in
    let none : without_sum s.bytes.items ≡ s.bytes.items = draft_without_sum s.limit s.bytes.items p c.self.invariant.draft (omega arith) in
    let sum : c.packet_sum-sum.result ≡ crc32c s.bytes.items =
    c.packet_sum-sum.ensures ∙ (ap (λ (xs : List ℕ). crc32c (without_sum xs)) c.deref.ensures.value ∙ ap crc32c none) in
    let new : c.put_sum.new.packet ≡ finished s.bytes.items = rw (c.put_sum.ensures, c.deref_mut.ensures.value, sum) refl in
    let long : s.bytes.len ≡ length s.bytes.items = omega (arith, c.deref.ensures.len, ap length c.deref.ensures.value) in
    kept_all s.bytes.len s.bytes.items c.put_sum.new.packet long (ap length new ∙ length-finished s.bytes.items (omega arith)) ∙ new

pub returns-clause-packet : goal.returns-clause-packet
returns-clause-packet c = rw (written c) (is_finished c).packet

pub returns-clause-size : goal.returns-clause-size
returns-clause-size c = rw (written c) (is_finished c).size

pub returns-clause-within : goal.returns-clause-within
returns-clause-within c = grind (arith, common_steps)
