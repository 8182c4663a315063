use Rattle.std.proofs.Common.{◌∙◌, sym}
use Rattle.sctp_wire.specs.ChunkTree.{sack_meaning}
use Rattle.sctp_association.specs.MachineStands.{MachineStands}
use Rattle.sctp_association.proofs.CumLemmas.{no_pace}
use Rattle.sctp_association.proofs.PaceLemmas.{none_there}
use Rattle.sctp_association.proofs.HearingLemmas.{heard_unpaced}
use Rattle.sctp_association.proofs.machine.Machine.hear_sack.Goals as goal

pub returns-clause-step : goal.returns-clause-step
unfolding MachineStands
returns-clause-step c = λ v t g stands phase.
    let free = no_pace _ _ _ v.pace (none_there _ (sym c.is_some.ensures ∙ c.if-is_some.false)) stands.pace in
    heard_unpaced c.count_sack.result _ v (sack_meaning c.args.sack.now) stands.options free (c.count_sack.ensures.answer v t g stands phase) (c.count_sack.ensures.step v t g stands phase)
