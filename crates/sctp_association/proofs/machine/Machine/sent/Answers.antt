use Rattle.std.proofs.Common.{◌∙◌, Bool, ap, sym}
use Rattle.sctp_association.specs.MachineStands.{MachineStands}
use Rattle.sctp_association.specs.Drafted.{due_left, delayed_left, offered_left, receiver_left, answers_left}
use Rattle.sctp_association.specs.StartsMean.{starts_at, started_from}
use Rattle.sctp_association.proofs.MachineLemmas.{at_view, with_both}
use Rattle.sctp_association.proofs.BuildLemmas.{with_moment}
use Rattle.sctp_association.proofs.machine.Machine.sent.Goals as goal

pub returns-clause-stands : goal.returns-clause-stands
unfolding MachineStands
returns-clause-stands c = λ v stands.
    let told = c.when_answers_sent.ensures _ (c.when_sack_sent.ensures _ (with_moment _ v c.args.moment stands)) in
    let m = c.args.packing.marks in
    c.finished.ensures.stands _ (at_view _ _ _ (ap (λ (b : Bool). record v { moment = c.args.moment; due = due_left m v.due; timers = started_from (starts_at m.starts) c.args.moment v.timers; delayed = delayed_left b m.sack v.delayed; offered = offered_left b m.sack v.receiver v.offered; receiver = answers_left m.answers (receiver_left b m.sack v.receiver) }) (sym stands.due.sack))
    (with_both _ _ _ (due_left m v.due) _ (started_from (starts_at m.starts) c.args.moment v.timers) told (c.leave.ensures v.due told.due)
    (c.start_all.ensures ∙ ap (started_from (starts_at m.starts) c.args.moment) told.timers)))
