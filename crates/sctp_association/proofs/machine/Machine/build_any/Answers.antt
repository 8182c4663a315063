use Rattle.std.proofs.Common.{Ok}
use Rattle.std.specs.Prelude.{is_some}
use Rattle.sctp_model.specs.end.Reconfiguring.{asking_now}
use Rattle.sctp_values.specs.declared.no_memory.NoMemory.{NoMemory}
use Rattle.sctp_association.specs.MachineStands.{MachineStands}
use Rattle.sctp_association.proofs.AskLemmas.{asks_once, built_asked}
use Rattle.sctp_association.proofs.ReportLemmas.{on_err}
use Rattle.sctp_association.proofs.machine.Machine.build_any.Goals as goal

pub returns-in_err-asked-clause-memory : goal.returns-in_err-asked-clause-memory
returns-in_err-asked-clause-memory c = λ v stands. on_err _ _ (c.in_err-asked.ensures.memory v stands)

pub returns-in-Ok-clause-built : goal.returns-in-Ok-clause-built
returns-in-Ok-clause-built c = λ v stands.
    let made = c.in_ok-asked.ensures.asked v stands in
    let a = is_some c.in_ok-asked.asked in
    built_asked {E = NoMemory} (Ok c.in-Ok.built) v c.args.moment a c.build_asked.new.self made.0 (c.in-Ok.ensures.built (asking_now a v) made.1 (asks_once v a made.0))

pub returns-in-Err-clause-memory : goal.returns-in-Err-clause-memory
unfolding MachineStands
returns-in-Err-clause-memory c = λ v stands.
    let made = c.in_ok-asked.ensures.asked v stands in
    c.take_back.ensures v (c.in-Err.ensures.memory (asking_now (is_some c.in_ok-asked.asked) v) made.1) made.0 (c.in_ok-asked.ensures.before v stands)
