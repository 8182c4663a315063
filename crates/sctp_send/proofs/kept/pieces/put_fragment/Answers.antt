use Rattle.std.proofs.Common.{◌≡◌, ◌∙◌, ◌<◌, ◌^◌, length, ap, arith}
use Rattle.sctp_model.specs.numbers.Serial.{tsn}
use Rattle.sctp_model.specs.sender.Queueing.{cut}
use Rattle.sctp_packet.specs.Draft.{piece_chunk}
use Rattle.sctp_send.specs.OutstandingFields.{lane_meaning, no_base}
use Rattle.sctp_send.specs.inner.Stocking.{fragment_chunk}
use Rattle.sctp_send.proofs.fill.ChunkLemmas.{piece_fits}
use Rattle.sctp_send.proofs.fill.EnterLemmas.{chosen_chunk, same_chunk}
use Rattle.sctp_send.proofs.kept.pieces.put_fragment.Goals as goal

pub put_piece-requires-clause-fits : goal.put_piece-requires-clause-fits
put_piece-requires-clause-fits g c =
    let f = g.F.Framing.format in
    let m = c.args.message.now in
    let own : c.args.tsn ≡ tsn c.args.tsn 1 = omega arith in
    let count = c.fragments_of.ensures ∙ ap (λ b. length (cut c.args.size b)) c.deref.ensures.value in
    let is : piece_chunk c.takes_turns.result _ ≡ fragment_chunk f no_base c.args.size c.args.tsn 1 m c.args.number c.args.content =
    chosen_chunk f c.takes_turns.result _ c.takes_turns.ensures ∙ same_chunk f c.args.size c.args.tsn 1 c.args.number c.args.tsn c.fragment_of-fragment.result c.fragments_of.result c.wire_number.result c.wire_word.result c.stream_of-stream.result c.payload_of-payload_id.result c.flag.result m c.args.content c.bytes_of-bytes.result.now
    own c.fragment_of-fragment.ensures count c.wire_number.ensures c.wire_word.ensures c.stream_of-stream.ensures c.payload_of-payload_id.ensures c.flag.ensures c.bytes_of-bytes.ensures in
    let few = c.fragment_of-fragment.ensures (lane_meaning m) c.args.number in
    let stream : m.stream < 2 ^ 16 = omega (arith, c.stream_of-stream.ensures, c.stream_of-stream.type_inv) in
    let payload : m.payload_id < 2 ^ 32 = omega (arith, c.payload_of-payload_id.ensures, c.payload_of-payload_id.type_inv) in
    rw is (piece_fits f c.args.tsn 1 c.args.number c.args.size m c.args.content c.requires.short stream payload (omega (arith, few)))

pub put_piece-requires-clause-room : goal.put_piece-requires-clause-room
put_piece-requires-clause-room g c =
    let f = g.F.Framing.format in
    let m = c.args.message.now in
    let own : c.args.tsn ≡ tsn c.args.tsn 1 = omega arith in
    let count = c.fragments_of.ensures ∙ ap (λ b. length (cut c.args.size b)) c.deref.ensures.value in
    let is : piece_chunk c.takes_turns.result _ ≡ fragment_chunk f no_base c.args.size c.args.tsn 1 m c.args.number c.args.content =
    chosen_chunk f c.takes_turns.result _ c.takes_turns.ensures ∙ same_chunk f c.args.size c.args.tsn 1 c.args.number c.args.tsn c.fragment_of-fragment.result c.fragments_of.result c.wire_number.result c.wire_word.result c.stream_of-stream.result c.payload_of-payload_id.result c.flag.result m c.args.content c.bytes_of-bytes.result.now
    own c.fragment_of-fragment.ensures count c.wire_number.ensures c.wire_word.ensures c.stream_of-stream.ensures c.payload_of-payload_id.ensures c.flag.ensures c.bytes_of-bytes.ensures in
    rw is (c.requires.fits no_base c.args.tsn 1 c.args.number)

pub returns-clause-after : goal.returns-clause-after
returns-clause-after g c = λ initial i first.
    let f = g.F.Framing.format in
    let m = c.args.message.now in
    let count = c.fragments_of.ensures ∙ ap (λ b. length (cut c.args.size b)) c.deref.ensures.value in
    let is : piece_chunk c.takes_turns.result _ ≡ fragment_chunk f no_base c.args.size initial i m c.args.number c.args.content =
    chosen_chunk f c.takes_turns.result _ c.takes_turns.ensures ∙ same_chunk f c.args.size initial i c.args.number c.args.tsn c.fragment_of-fragment.result c.fragments_of.result c.wire_number.result c.wire_word.result c.stream_of-stream.result c.payload_of-payload_id.result c.flag.result m c.args.content c.bytes_of-bytes.result.now
    first c.fragment_of-fragment.ensures count c.wire_number.ensures c.wire_word.ensures c.stream_of-stream.ensures c.payload_of-payload_id.ensures c.flag.ensures c.bytes_of-bytes.ensures in
    rw is at c.put_piece.ensures
