use Rattle.std.proofs.Common.{◌≡◌, ◌+◌, ◌<◌, drop, refl, arith}
use Rattle.std.specs.Prelude.{min}
use Rattle.std.proofs.lemmas.Grind.{common_steps}
use Rattle.sctp_model.specs.wire.Packet.{HEADER_ROOM, size_of_packet}
use Rattle.sctp_wire.specs.Reading.{chunks_of}
use Rattle.sctp_packet.specs.PacketBytes.{header_bytes}
use Rattle.sctp_packet.proofs.DraftLemmas.{draft_longer}
use Rattle.sctp_packet.proofs.writer.PacketWriter.narrow.Goals as goal

-- header and chunks that are there
used : (c : goal.After-self-1) → c.max.result ≡ size_of_packet (chunks_of (drop HEADER_ROOM c.self.inside.bytes.items))
used c =
    let s = c.self.inside in
    let size = draft_longer (header_bytes s.source s.destination s.tag 0) refl s.limit s.bytes.items c.self.invariant.draft in
    grind (arith, common_steps)

-- they and the space fit
lower : (c : goal.After-self-1) → c.max.result + c.args.room < c.self.inside.limit
lower c =
    let there = used c in
    let room = rw (← c.self.view_is) at c.room.ensures.room in
    omega (arith, there, room, c.from.ensures, c.if-from-room.true)

pub overflow_add-self : goal.overflow_add-self
overflow_add-self c =
    let s = c.self.inside in
    let size = draft_longer (header_bytes s.source s.destination s.tag 0) refl s.limit s.bytes.items c.self.invariant.draft in
    let there : c.max.result ≡ size_of_packet (chunks_of (drop HEADER_ROOM s.bytes.items)) = grind (arith, common_steps) in
    let room = rw (← c.self.view_is) at c.room.ensures.room in
    omega (arith, there, room, c.from.ensures, c.if-from-room.true, c.room.ensures.small)

pub invariant_of-self : goal.invariant_of-self
invariant_of-self c =
    let less = lower c in
    let old = c.self.invariant in
    let there = used c in
    record {
      header = old.header;
      draft = record { front = old.draft.front; writes = old.draft.writes; within = λ some. grind (arith, common_steps) };
      room = λ two. let whole = old.room two in omega (arith, less, whole);
      begun = old.begun;
      whole = λ reserved. let whole = old.whole reserved in omega (arith, less, whole);
    }

pub returns-then-from-room-clause-narrowed : goal.returns-then-from-room-clause-narrowed
returns-then-from-room-clause-narrowed c =
    let less = lower c in
    let there = used c in
    let is : c.max.result + c.args.room ≡ min c.self.inside.limit (size_of_packet (chunks_of (drop HEADER_ROOM c.self.inside.bytes.items)) + c.args.room) = omega (arith, less, there) in
    rw (← c.self.view_is, is) refl

pub returns-then-from-room-clause-room : goal.returns-then-from-room-clause-room
returns-then-from-room-clause-room c =
    let less = lower c in
    let there = used c in
    rw (← c.self.view_is) (omega (arith, less, there))
