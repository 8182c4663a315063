use Rattle.std.proofs.Common.{◌≡◌, ◌∙◌, ℕ, max, true, false, Option, ap, sym, arith}
use Rattle.std.specs.Prelude.{option_map}
use Rattle.std.proofs.lemmas.Grind.{common_steps}
use Rattle.sctp_model.specs.end.EndView.{Alarm, DataAlarm, Timer}
use Rattle.sctp_model.specs.end.Clock.{at_moment}
use Rattle.sctp_model.specs.end.Moments.{earlier}
use Rattle.sctp_send.specs.SenderAnswers.{next_late}
use Rattle.sctp_association.specs.MachineStands.{MachineStands}
use Rattle.sctp_association.proofs.ListedLemmas.{due_is, listed_late, listed_both}
use Rattle.sctp_association.proofs.machine.Machine.next_to_give_up.Goals as goal

pub returns-then-not-is_over : goal.returns-then-not-is_over
unfolding MachineStands
returns-then-not-is_over c = λ v stands.
    let here = c.get.ensures ∙ ap (λ (f : Alarm → Timer). f DataAlarm) stands.timers in
    let moment : max v.moment c.args.now ≡ c.max-moment.result = (let clock = stands.clock in grind (arith, common_steps)) in
    let idle = due_is v c.args.now _ _ false moment here (sym c.is_over.ensures ∙ c.if-not-is_over.true) in
    c.next_late-late.ensures v stands ∙ ap (λ (n : ℕ). next_late v.sender c.args.last.0 n) (sym moment) ∙ listed_late (at_moment v c.args.now) c.args.last.0 idle

pub returns : goal.returns
unfolding MachineStands
returns c = λ v stands.
    let here = c.get.ensures ∙ ap (λ (f : Alarm → Timer). f DataAlarm) stands.timers in
    let moment : max v.moment c.args.now ≡ c.max-moment.result = (let clock = stands.clock in grind (arith, common_steps)) in
    let due = due_is v c.args.now _ _ true moment here (sym c.is_over.ensures ∙ c.if-not-is_over.false) in
    let late = c.next_late-late.ensures v stands ∙ ap (λ (n : ℕ). next_late v.sender c.args.last.0 n) (sym moment) in
    c.lower.ensures
    ∙ ap (λ (o : Option ℕ). earlier o (option_map (λ t. t.0) c.next_at_limit.result)) late
    ∙ ap (λ (o : Option ℕ). earlier (next_late v.sender c.args.last.0 (max v.moment c.args.now)) o) (c.next_at_limit.ensures v stands)
    ∙ listed_both (at_moment v c.args.now) c.args.last.0 due
