use Rattle.std.proofs.Common.{refl}
use Rattle.std.proofs.lemmas.Result.{err_from_is_err_and}
use Rattle.sctp_model.specs.messages.Framing.{data_chunk}
use Rattle.sctp_model.specs.end.EndView.{format_for}
use Rattle.sctp_wire.specs.ChunkTree.{piece_meaning}
use Rattle.sctp_endpoint.proofs.ChunksInTurn.{piece_left, piece_tagged}
use Rattle.sctp_endpoint.proofs.noting.act_unexpected.Goals as goal

pub returns : goal.returns
returns c = λ tag v stands.
    let p = piece_meaning c.args.piece.now in
    c.note.ensures tag v (data_chunk (format_for c.args.interleaved) p) (piece_left c.args.interleaved _ v tag p _ (c.in_ok-after.ensures.step v stands))

pub returns-in_err-after : goal.returns-in_err-after
returns-in_err-after c = λ tag v stands.
    let p = err_from_is_err_and c.from_residual.result c.from_residual.ensures.1 in
    rw p.1 (c.in_err-after.ensures.refused v stands, refl, piece_tagged c.args.interleaved (piece_meaning c.args.piece.now))
