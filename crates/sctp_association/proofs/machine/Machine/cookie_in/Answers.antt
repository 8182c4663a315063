use Rattle.std.proofs.Common.{refl, sym, arith}
use Rattle.sctp_model.specs.end.EndView.{EndView, fresh_end}
use Rattle.sctp_model.specs.end.EndView as model
use Rattle.sctp_wire.specs.ChunkTree.{init_meaning}
use Rattle.sctp_association.specs.MachineStands.{MachineStands}
use Rattle.sctp_association.proofs.OpeningLemmas.{small_echo, on_value}
use Rattle.sctp_association.proofs.machine.Machine.cookie_in.Goals as goal

pub returns-clause-answer : goal.returns-clause-answer
unfolding MachineStands
returns-clause-answer c = λ v stands. c.cookie_of.ensures v (sym stands.configuration)

pub returns-clause-small : goal.returns-clause-small
returns-clause-small c =
    let e : EndView = fresh_end c.args.self.now.config model.Caller model.Idle in
    on_value _ _ _ c.cookie_of.result (λ cookie is. small_echo e (init_meaning c.args.offer.now) cookie.now (omega arith) is.1) (c.cookie_of.ensures e refl)
