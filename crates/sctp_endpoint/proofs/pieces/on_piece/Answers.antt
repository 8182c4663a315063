use Rattle.std.proofs.Common.{◌≡◌, ◌∙◌, ◌<◌, true, false, length, refl, sym, arith}
use Rattle.std.proofs.lemmas.Grind.{common_steps}
use Rattle.sctp_model.specs.end.EndView.{AbortedHere, EndView, format_for, format_of}
use Rattle.sctp_model.specs.end.Clock.{closed}
use Rattle.sctp_model.specs.end.Closing.{takes_data}
use Rattle.sctp_model.specs.end.PeerFaults.{packet_to, abort_for, no_user_data, violation}
use Rattle.sctp_model.specs.end.Reports.{with_causes}
use Rattle.sctp_model.specs.end.Acting.{PieceNotHeard, PieceEmpty, WrongFormat, PieceComes, same_format, piece_causes}
use Rattle.sctp_wire.specs.ChunkTree.{piece_meaning}
use Rattle.sctp_recv.specs.AnswerOf.{answer_of}
use Rattle.sctp_association.specs.StageMeans.{tags_meaning, stage_meaning}
use Rattle.sctp_endpoint.proofs.RowLemmas.{hears_by, formats_same, formats_differ}
use Rattle.sctp_endpoint.proofs.pieces.on_piece.Goals as goal

pub returns-in_default-clause-step : goal.returns-in_default-clause-step
returns-in_default-clause-step c = λ v stands. (PieceNotHeard (c.in_default.ensures v stands takes_data), stands)

pub returns-then-not-takes_data-clause-step : goal.returns-then-not-takes_data-clause-step
returns-then-not-takes_data-clause-step c = λ v stands.
    (PieceNotHeard (hears_by takes_data v.phase _ _ false c.takes_data.result (c.in-Some.ensures v stands) c.takes_data.ensures c.if-not-takes_data.true), stands)

pub returns-then-is_empty-clause-step : goal.returns-then-is_empty-clause-step
returns-then-is_empty-clause-step c = λ v stands.
    let phase = c.in-Some.ensures v stands in
    let t = tags_meaning c.in-Some.opened.tags in
    let g = stage_meaning c.in-Some.opened.stage in
    let takes : takes_data g ≡ true = sym c.takes_data.ensures ∙ c.if-not-takes_data.false in
    let empty : length c.args.piece.now.bytes.now ≡ 0 = grind (arith, common_steps) in
    let made = rw c.tsn_value-tsn.ensures at c.in_ok-abort_with.ensures.step v stands in
    (closed AbortedHere v, packet_to v.configuration t.peer (abort_for (no_user_data c.args.piece.now.tsn)), PieceEmpty t g phase takes empty, made.0, c.in_ok-abort_with.ensures.within v stands, made.1)

pub returns-then-is_interleaved-interleaved-clause-step : goal.returns-then-is_interleaved-interleaved-clause-step
returns-then-is_interleaved-interleaved-clause-step c = λ v stands.
    let phase = c.in-Some.ensures v stands in
    let t = tags_meaning c.in-Some.opened.tags in
    let g = stage_meaning c.in-Some.opened.stage in
    let takes : takes_data g ≡ true = sym c.takes_data.ensures ∙ c.if-not-takes_data.false in
    let some : 0 < length c.args.piece.now.bytes.now = grind (arith, common_steps) in
    let other : same_format (format_for c.args.interleaved) (format_of v) ≡ false
    = rw (← c.is_interleaved.ensures v stands) (formats_differ c.is_interleaved.result c.args.interleaved (λ e. grind (arith, common_steps))) in
    let made = c.in_ok-abort_with-2.ensures.step v stands in
    (closed AbortedHere v, packet_to v.configuration t.peer (abort_for violation), WrongFormat t g phase takes some other, made.0, c.in_ok-abort_with-2.ensures.within v stands, made.1)

pub returns-clause-step : goal.returns-clause-step
returns-clause-step c = λ v stands.
    let phase = c.in-Some.ensures v stands in
    let t = tags_meaning c.in-Some.opened.tags in
    let g = stage_meaning c.in-Some.opened.stage in
    let p = piece_meaning c.args.piece.now in
    let takes : takes_data g ≡ true = sym c.takes_data.ensures ∙ c.if-not-takes_data.false in
    let some : 0 < length c.args.piece.now.bytes.now = grind (arith, common_steps) in
    let same : same_format (format_for c.args.interleaved) (format_of v) ≡ true
    = rw (← c.is_interleaved.ensures v stands) (formats_same c.is_interleaved.result c.args.interleaved (grind (arith, common_steps))) in
    let took = c.in_ok-answer.ensures.step v t g stands phase in
    let a = answer_of c.in_ok-answer.answer in
    let came : EndView = record v { receiver = took.0 } in
    (with_causes (piece_causes v p a) came, rw (c.asks_at_once.ensures p refl) (PieceComes t g a took.0 phase takes some same took.1 (c.in_ok-answer.ensures.lenient v took.1.c stands)), took.2)
