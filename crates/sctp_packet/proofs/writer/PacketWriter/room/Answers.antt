use Rattle.std.proofs.Common.{refl, arith}
use Rattle.std.proofs.lemmas.Grind.{common_steps}
use Rattle.sctp_packet.specs.PacketBytes.{header_bytes}
use Rattle.sctp_packet.proofs.DraftLemmas.{draft_longer}
use Rattle.sctp_packet.proofs.writer.PacketWriter.room.Goals as goal

pub returns-clause-room : goal.returns-clause-room
returns-clause-room c =
    let s = c.self.inside in
    let size = draft_longer (header_bytes s.source s.destination s.tag 0) refl s.limit s.bytes.items c.self.invariant.draft in
    rw (← c.self.view_is) (grind (arith, common_steps))
