use Rattle.std.proofs.Common.{true, refl, subst}
use Rattle.std.proofs.lemmas.Result.{err_from_is_err_and}
use Rattle.sctp_model.specs.messages.Framing.{data_chunk}
use Rattle.sctp_model.specs.end.EndView.{EndView, Established, format_for}
use Rattle.sctp_model.specs.end.PeerFaults.{ToAcknowledge}
use Rattle.sctp_model.specs.end.Arriving.{noted}
use Rattle.sctp_model.specs.end.Reports.{with_causes}
use Rattle.sctp_model.specs.end.Acting.{PieceComes, asks_at_once, piece_causes}
use Rattle.sctp_wire.specs.ChunkTree.{piece_meaning}
use Rattle.sctp_recv.specs.AnswerOf.{answer_of}
use Rattle.sctp_endpoint.specs.inner.Acted.{notes_meaning, GoesOnBehind}
use Rattle.sctp_endpoint.proofs.ChunksInTurn.{piece_goes_on, piece_tagged}
use Rattle.sctp_endpoint.proofs.RowLemmas.{rests}
use Rattle.sctp_endpoint.proofs.noting.act_piece.Goals as goal

pub returns : goal.returns
returns c = λ tag v stands.
    let h = c.is_expected.ensures v stands c.if-not-is_expected.false in
    let p = piece_meaning c.args.piece.now in
    let took = c.in_ok-answer.ensures.step v h.tags Established stands h.phase in
    let a = answer_of c.in_ok-answer.answer in
    let k = notes_meaning c.args.notes.now in
    let note = ToAcknowledge true (asks_at_once p a) in
    let w : EndView = with_causes (piece_causes v p a) (record v { receiver = took.0 }) in (
      w,
      took.2,
      rw (c.acknowledge.ensures, c.asks_at_once.ensures p refl)
          (subst (λ (x : EndView). GoesOnBehind tag v k (data_chunk (format_for c.args.interleaved) p) x (noted note k)) (rests w h.tags h.phase)
          (piece_goes_on c.args.interleaved tag v w k note p (PieceComes h.tags Established a took.0 h.phase refl h.some h.same took.1 (c.in_ok-answer.ensures.lenient v took.1.c stands)))),
    )

pub returns-in_err-answer : goal.returns-in_err-answer
returns-in_err-answer c = λ tag v stands.
    let p = err_from_is_err_and c.from_residual.result c.from_residual.ensures.1 in
    rw p.1 (c.in_err-answer.ensures.refused v stands, refl, piece_tagged c.args.interleaved (piece_meaning c.args.piece.now))
