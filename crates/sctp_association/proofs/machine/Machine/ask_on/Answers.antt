use Rattle.std.proofs.Common.{◌∙◌, ℕ, ap, sym}
use Rattle.sctp_model.specs.numbers.Limits.{FIRST_WAIT}
use Rattle.sctp_model.specs.end.EndView.{ResetAlarm, Timer, unused_timer}
use Rattle.sctp_model.specs.end.Clock.{replaced}
use Rattle.sctp_association.specs.TimersMean.{timers_meaning}
use Rattle.sctp_association.specs.MachineStands.{MachineStands}
use Rattle.sctp_association.proofs.MachineLemmas.{at_view, with_both}
use Rattle.sctp_association.proofs.ReconfigLemmas.{asked_on}
use Rattle.sctp_association.proofs.machine.Machine.ask_on.Goals as goal

pub returns-then-has_asked : goal.returns-then-has_asked
unfolding MachineStands
returns-then-has_asked c = λ v stands. at_view _ _ _ (asked_on v _ (sym (c.has_asked.ensures v stands) ∙ c.if-has_asked.true)) stands

pub returns : goal.returns
unfolding MachineStands
returns c = λ v stands.
    at_view _ _ _ (asked_on v _ (sym (c.has_asked.ensures v stands) ∙ c.if-has_asked.false)) (with_both _ v _ _ _ _ stands (c.owe_request.ensures v.due stands.due)
    (c.put.ensures ∙ ap (λ (t : Timer). replaced ResetAlarm t (timers_meaning c.args.self.now.timers)) c.unused.ensures ∙ ap (replaced ResetAlarm (unused_timer FIRST_WAIT)) stands.timers
    ∙ ap (λ (n : ℕ). replaced ResetAlarm (unused_timer n) v.timers) (sym stands.options.first_wait)))
