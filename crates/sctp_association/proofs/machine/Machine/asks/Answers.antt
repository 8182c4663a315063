use Rattle.std.proofs.Common.{◌∙◌, ap, sym}
use Rattle.sctp_model.specs.end.EndView as model
use Rattle.sctp_model.specs.end.EndView.{ResetAlarm}
use Rattle.sctp_model.specs.end.Clock.{is_home}
use Rattle.sctp_association.specs.MachineStands.{MachineStands}
use Rattle.sctp_association.proofs.MachineLemmas.{joined, unjoined, phase_joined}
use Rattle.sctp_association.proofs.AskLemmas.{asks_unagreed, asks_away, asks_home}
use Rattle.sctp_association.proofs.machine.Machine.asks.Goals as goal

pub returns-in-Unjoined : goal.returns-in-Unjoined
unfolding MachineStands
returns-in-Unjoined c = λ v stands. asks_unagreed v (ap (λ (t : model.Terms). t.reset) (unjoined _ _ v c.in-Unjoined.is stands).terms)

pub returns-then-not-association : goal.returns-then-not-association
unfolding MachineStands
returns-then-not-association c = λ v stands. asks_unagreed v (sym (ap (λ (t : model.Terms). t.reset) (joined _ _ v c.in-Joined.is stands).terms) ∙ c.if-not-association.true)

pub returns-then-not-is_established : goal.returns-then-not-is_established
unfolding MachineStands
returns-then-not-is_established c = λ v stands.
    asks_away v (sym (ap (is_home ResetAlarm) (phase_joined _ _ v c.in-Joined.is stands)) ∙ (sym c.is_established.ensures ∙ c.if-not-is_established.true))

pub returns-else-not-is_established : goal.returns-else-not-is_established
unfolding MachineStands
returns-else-not-is_established c = λ v stands.
    asks_home v _ (sym (ap (λ (t : model.Terms). t.reset) (joined _ _ v c.in-Joined.is stands).terms) ∙ c.if-not-association.false)
    (sym (ap (is_home ResetAlarm) (phase_joined _ _ v c.in-Joined.is stands)) ∙ (sym c.is_established.ensures ∙ c.if-not-is_established.false))
    (c.may_ask.ensures _ v.sender v.receiver (joined _ _ v c.in-Joined.is stands).traffic)
