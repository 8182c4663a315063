use Rattle.std.proofs.Common.{◌∙◌, ap, refl, sym}
use Rattle.std.proofs.lemmas.Bool.{false≢true}
use Rattle.std.specs.Prelude.{if◌then◌else◌}
use Rattle.sctp_model.specs.sender.SenderView.{SenderView}
use Rattle.sctp_model.specs.sender.Resetting.{may_ask, asked}
use Rattle.sctp_association.specs.MachineStands.{MachineStands}
use Rattle.sctp_association.proofs.MachineLemmas.{at_view, joined, unjoined, with_traffic}
use Rattle.sctp_association.proofs.AskLemmas.{never_asks, never_may, went_on, stayed}
use Rattle.sctp_association.proofs.CumLemmas.{no_lower, asked_stays}
use Rattle.sctp_association.proofs.machine.Machine.ask_sender.Goals as goal

pub returns-in-Unjoined-clause-step : goal.returns-in-Unjoined-clause-step
unfolding MachineStands
returns-in-Unjoined-clause-step c = λ v stands. at_view _ _ _ (ap (λ (s : SenderView). record v { sender = s }) (never_asks v.sender _ _ (unjoined _ _ v c.in-Unjoined.is stands).sender)) stands

pub returns-in-Unjoined-clause-before : goal.returns-in-Unjoined-clause-before
unfolding MachineStands
returns-in-Unjoined-clause-before c = λ v stands may. absurd (false≢true (sym (never_may v.sender _ _ (unjoined _ _ v c.in-Unjoined.is stands).sender) ∙ may))

pub returns-in-Joined-clause-before : goal.returns-in-Joined-clause-before
unfolding MachineStands
returns-in-Joined-clause-before c = λ v stands may. c.ask.ensures.before _ v.sender v.receiver (joined _ _ v c.in-Joined.is stands).traffic may

pub returns-in-Joined-clause-step : goal.returns-in-Joined-clause-step
unfolding MachineStands
returns-in-Joined-clause-step c = λ v stands.
    went_on c.ask.result (λ went. with_traffic _ _ _ v (if may_ask v.sender then asked v.sender else v.sender) v.receiver c.in-Joined.is stands went (asked_stays v.sender (may_ask v.sender)) refl refl) (c.ask.ensures.step _ v.sender v.receiver (joined _ _ v c.in-Joined.is stands).traffic)

pub returns-in-Joined-clause-memory : goal.returns-in-Joined-clause-memory
unfolding MachineStands
returns-in-Joined-clause-memory c = λ v stands.
    stayed c.ask.result (λ still. with_traffic _ _ _ v v.sender v.receiver c.in-Joined.is stands still (no_lower v.sender.cum) refl refl) (c.ask.ensures.refused _ v.sender v.receiver (joined _ _ v c.in-Joined.is stands).traffic)
