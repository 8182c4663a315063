use Rattle.std.proofs.Common.{◌≡◌, ◌∙◌, Bool, true, ap, sym}
use Rattle.sctp_model.specs.end.EndView.{Configuration}
use Rattle.sctp_model.specs.end.EndView as model
use Rattle.sctp_model.specs.end.Clock.{with_timer}
use Rattle.sctp_model.specs.end.Acting.{shut_timer}
use Rattle.sctp_association.specs.MachineStands.{MachineStands}
use Rattle.sctp_association.proofs.MachineLemmas.{at_view}
use Rattle.sctp_association.proofs.machine.Machine.renew_shut.Goals as goal

pub returns-then-moved : goal.returns-then-moved
unfolding MachineStands
returns-then-moved c = λ v stands.
    let standard : v.configuration.standard_closing ≡ true =
    sym (ap (λ (k : Configuration). k.standard_closing) stands.configuration) ∙ (sym c.standard_closing.ensures ∙ c.if-standard_closing.true) in
    let timer = v.timers model.DataAlarm in
    at_view _ _ _ (ap (λ (b : Bool). with_timer model.DataAlarm (shut_timer b c.args.moved v.configuration.first_wait v.moment timer) v) standard ∙ ap (λ (b : Bool). with_timer model.DataAlarm (shut_timer true b v.configuration.first_wait v.moment timer) v) c.if-moved.true)
    (c.renew.ensures v stands)
