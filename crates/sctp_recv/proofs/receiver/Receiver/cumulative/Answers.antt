use Rattle.std.proofs.Common.{ℕ, sym, ◌∙◌, ap}
use Rattle.sctp_model.specs.numbers.Serial.{tsn}
use Rattle.sctp_recv.specs.StandsFor.{StandsFor}
use Rattle.sctp_recv.proofs.ReceiverSteps.{cumulative_is}
use Rattle.sctp_recv.proofs.receiver.Receiver.cumulative.Goals as goal

pub returns : goal.returns
unfolding StandsFor
returns g c = λ v w.
    let s = c.args.self.now.seen.kept in
    (s.cumulative, cumulative_is s v w.0.seen, c.tsn_of.ensures ∙ ap (λ (i : ℕ). tsn c.args.self.now.initial i) c.cumulative.ensures.value ∙ ap (λ (i : ℕ). tsn i s.cumulative) (sym w.0.initial))
