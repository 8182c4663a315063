use Rattle.std.proofs.Common.{refl}
use Rattle.std.proofs.lemmas.Result.{err_from_is_err_and}
use Rattle.sctp_model.specs.wire.Chunk.{Sack}
use Rattle.sctp_wire.specs.ChunkTree.{sack_meaning}
use Rattle.sctp_endpoint.proofs.noting.act_uncounted.Goals as goal

pub returns : goal.returns
returns c = λ tag v stands. c.note.ensures tag v (Sack (sack_meaning c.args.sack.now)) (c.in_ok-after.ensures.step v stands)

pub returns-in_err-after : goal.returns-in_err-after
returns-in_err-after c = λ tag v stands.
    let p = err_from_is_err_and c.from_residual.result c.from_residual.ensures.1 in
    rw p.1 (c.in_err-after.ensures.refused v stands, refl, tt)
