use Rattle.std.proofs.Common.{refl}
use Rattle.std.proofs.lemmas.Result.{err_from_is_err_and}
use Rattle.sctp_wire.specs.ChunkTree.{chunk_meaning}
use Rattle.sctp_endpoint.proofs.acting.act_noted.Goals as goal

pub returns : goal.returns
returns c = λ v stands. c.note.ensures c.args.tag v (chunk_meaning c.args.chunk.now) (c.in_ok-after.ensures.step v stands)

pub returns-in_err-after : goal.returns-in_err-after
returns-in_err-after c = λ v stands.
    let p = err_from_is_err_and c.from_residual.result c.from_residual.ensures.1 in
    rw p.1 (c.in_err-after.ensures.refused v stands, refl, c.in_err-after.ensures.tagged)
