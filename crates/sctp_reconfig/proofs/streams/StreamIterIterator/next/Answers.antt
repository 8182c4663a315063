use Rattle.std.proofs.Common.{◌∙◌, sym, arith}
use Rattle.std.proofs.lemmas.Grind.{common_steps}
use Rattle.sctp_reconfig.proofs.ReadingLemmas.{u16s_in-some}
use Rattle.sctp_reconfig.proofs.streams.StreamIterIterator.next.Goals as goal

pub returns-clause-steps : goal.returns-clause-steps
returns-clause-steps c =
    let some = sym c.self.view_is ∙ u16s_in-some c.self.inside.rest.now c.if-self-lt-STREAM.false in
    grind (arith, common_steps)
