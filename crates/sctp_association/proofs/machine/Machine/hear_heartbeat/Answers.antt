use Rattle.std.proofs.Common.{false, true, arith}
use Rattle.std.proofs.lemmas.Bool.{le-leb, lt-leb}
use Rattle.sctp_association.specs.MachineStands.{MachineStands}
use Rattle.sctp_association.proofs.MachineLemmas.{at_view, with_due}
use Rattle.sctp_association.proofs.ReportLemmas.{configured_room}
use Rattle.sctp_association.proofs.HearingLemmas.{heartbeat_by}
use Rattle.sctp_association.proofs.machine.Machine.hear_heartbeat.Goals as goal

pub returns-then-info-room_behind-clause-step : goal.returns-then-info-room_behind-clause-step
unfolding MachineStands
returns-then-info-room_behind-clause-step c = λ v stands.
    at_view _ _ _ (heartbeat_by v c.args.info.now _ false (configured_room _ v _ stands c.room_behind.ensures.exact) (lt-leb _ _ (omega arith))) stands

pub returns-clause-step : goal.returns-clause-step
unfolding MachineStands
returns-clause-step c = λ v stands.
    at_view _ _ _ (heartbeat_by v c.args.info.now _ true (configured_room _ v _ stands c.room_behind.ensures.exact) (le-leb _ _ (omega arith)))
    (with_due _ v _ _ stands (c.bring_back.ensures v.due _ stands.due c.in_ok-copied.ensures))
