use Rattle.std.proofs.Common.{◌≡◌, ◌∙◌, Bool, true, Option, ap, sym, subst}
use Rattle.std.specs.Prelude.{is_some, IfSome}
use Rattle.sctp_model.specs.sender.Resetting.{asked}
use Rattle.sctp_model.specs.end.Reconfiguring.{asking_now}
use Rattle.sctp_association.specs.Asks.{asks, WasBefore}
use Rattle.sctp_association.specs.TimersMean.{timer_meaning}
use Rattle.sctp_association.specs.MachineStands.{MachineStands}
use Rattle.sctp_association.specs.declared.build.asking.Asked.{Asked}
use Rattle.sctp_association.proofs.MachineLemmas.{at_view, with_due, with_timers}
use Rattle.sctp_association.proofs.AskLemmas.{may_then, put_again}
use Rattle.sctp_association.proofs.machine.Machine.take_back.Goals as goal

pub returns-in-None : goal.returns-in-None
returns-in-None c = λ v stands is was. subst (λ (o : Option Asked). MachineStands c.args.self.now (asking_now (is_some o) v)) c.in-None.is stands

pub returns-in-Some : goal.returns-in-Some
unfolding MachineStands
returns-in-Some c = λ v stands is was.
    let made = subst (λ (o : Option Asked). MachineStands c.args.self.now (asking_now (is_some o) v)) c.in-Some.is stands in
    let on : true ≡ asks v = sym (ap (λ (o : Option Asked). is_some o) c.in-Some.is) ∙ is in
    let before = subst (λ (o : Option Asked). IfSome o (λ x. WasBefore x v)) c.in-Some.is was in
    let due = with_due _ (asking_now true v) _ (record v.due { request = c.in-Some.asked.was_due }) made (c.owe_request.ensures (record v.due { request = true }) made.due) in
    c.take_back_request.ensures v
    (at_view _ _ _ (ap (λ (b : Bool). record v { sender = asked v.sender; due = record v.due { request = b } }) (sym before.due))
    (with_timers _ _ _ v.timers due (put_again _ _ v.timers (timer_meaning c.in-Some.asked.timer) _ c.put.ensures made.timers before.timer)))
    (may_then v on) (before.request (may_then v on))
