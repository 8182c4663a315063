use Rattle.std.proofs.Common.{◌≡◌, false, true, [], ap, drop, length, refl, arith}
use Rattle.sctp_model.specs.wire.Packet.{HEADER_ROOM}
use Rattle.sctp_wire.specs.Reading.{chunks_of}
use Rattle.sctp_packet.specs.PacketBytes.{header_bytes}
use Rattle.sctp_packet.proofs.DraftLemmas.{draft_empty, draft_none}
use Rattle.sctp_packet.proofs.writer.PacketWriter.in_room.Goals as goal

none : (c : goal.After-clear) → chunks_of (drop HEADER_ROOM []) ≡ []
none c =
    let header = header_bytes c.args.source c.args.destination c.args.tag 0 in
    draft_none c.args.limit header [] (draft_empty c.args.limit header) (omega arith)

pub invariant_of-result : goal.invariant_of-result
invariant_of-result c = record {
  header = record { source = omega arith; destination = omega arith; tag = omega arith };
  draft = rw c.clear.ensures.items (draft_empty c.args.limit (header_bytes c.args.source c.args.destination c.args.tag 0));
  room = rw c.clear.ensures.items (λ two. absurd (omega (arith, two, ap length (none c))));
  begun = λ reserved. absurd (let clash : false ≡ true = reserved in cc);
  whole = λ reserved. absurd (let clash : false ≡ true = reserved in cc);
}

pub returns : goal.returns
returns c =
    rw (c.clear.ensures.items, none c) refl
