use Rattle.std.proofs.Common.{◌≡◌, ◌∙◌, length, ap, sym, arith}
use Rattle.std.proofs.lemmas.Bool.{false≢true}
use Rattle.std.proofs.lemmas.Grind.{common_steps}
use Rattle.sctp_model.specs.end.EndView as model
use Rattle.sctp_association.specs.MachineStands.{MachineStands}
use Rattle.sctp_association.proofs.MachineLemmas.{joined}
use Rattle.sctp_association.proofs.AskLemmas.{unasked_without, calm_unagreed, none_of, not_true}
use Rattle.sctp_association.proofs.machine.Machine.is_calm.Goals as goal

pub returns-in-Unjoined : goal.returns-in-Unjoined
returns-in-Unjoined c = λ v stands is. absurd (false≢true is)

pub returns-then-not-association : goal.returns-then-not-association
unfolding MachineStands
returns-then-not-association c = λ v stands is.
    calm_unagreed v (sym (ap (λ (t : model.Terms). t.reset) (joined _ _ v c.in-Joined.is stands).terms) ∙ c.if-not-association.true) (joined _ _ v c.in-Joined.is stands).answers

pub returns-then-not-is_empty : goal.returns-then-not-is_empty
returns-then-not-is_empty c = λ v stands is. absurd (false≢true is)

pub returns-then-resetting_streams-eq0 : goal.returns-then-resetting_streams-eq0
unfolding MachineStands
returns-then-resetting_streams-eq0 c = λ v stands is.
    let none : length c.answers.result.now ≡ 0 = grind (arith, common_steps) in
    record {
      answers = sym (c.answers.ensures _ v.sender v.receiver (joined _ _ v c.in-Joined.is stands).traffic) ∙ none_of c.answers.result.now none;
      unasked = unasked_without v (sym (c.resetting_streams.ensures _ v.sender v.receiver (joined _ _ v c.in-Joined.is stands).traffic) ∙ grind (arith, common_steps));
    }

pub returns-else-resetting_streams-eq0 : goal.returns-else-resetting_streams-eq0
unfolding MachineStands
returns-else-resetting_streams-eq0 c = λ v stands is.
    let none : length c.answers.result.now ≡ 0 = grind (arith, common_steps) in
    record {
      answers = sym (c.answers.ensures _ v.sender v.receiver (joined _ _ v c.in-Joined.is stands).traffic) ∙ none_of c.answers.result.now none;
      unasked = sym (c.asks.ensures v stands) ∙ not_true c.asks.result is;
    }
