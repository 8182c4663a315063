use Rattle.std.proofs.Common.{refl}
use Rattle.sctp_association.specs.MachineStands.{MachineStands}
use Rattle.sctp_association.proofs.KeptLemmas.{none_kept}
use Rattle.sctp_association.proofs.OptionLemmas.{unused_are}
use Rattle.sctp_association.proofs.machine.Machine.fresh.Goals as goal

pub returns : goal.returns
unfolding MachineStands
returns c = λ r stands. record {
  configuration = refl;
  role = stands;
  clock = refl;
  due = c.nothing.ensures;
  timers = unused_are c.args.config c.limit-limit.ensures.plain _ c.unused.ensures;
  delayed = refl;
  phase = refl;
  life = record { terms = refl; sender = refl; receiver = refl };
  room = none_kept c.new.result _ c.new.ensures.capacity;
  pace = tt;
  unpaced = λ off. refl;
  options = c.limit-limit.ensures.plain;
  beats = refl;
}
