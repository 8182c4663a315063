use Rattle.sctp_send.specs.inner.Stocking.{bare}
use Rattle.sctp_send.proofs.fill.PutLemmas.{nothing_pending}
use Rattle.sctp_send.proofs.told.Told.next_going.Goals as goal

pub returns-then-is_all_out-clause-goes : goal.returns-then-is_all_out-clause-goes
returns-then-is_all_out-clause-goes g c = λ v p k room.
    let out = c.if-is_all_out.true in
    let stands = nothing_pending g.F.Framing.format (bare c.args.self.now) v c.args.stock.now k c.requires.window (c.is_all_out.ensures.marked out, c.is_all_out.ensures.unsent out) in
    c.next_new.ensures.goes v p k room stands
