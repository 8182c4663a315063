use Rattle.std.proofs.Common.{ℕ, sym, subst}
use Rattle.std.specs.Prelude.{OnOk}
use Rattle.sctp_model.specs.receiver.ReceiverView.{ReceiverView, IsCumulative}
use Rattle.sctp_recv.specs.StandsFor.{StandsFor}
use Rattle.sctp_recv.proofs.ReceiverSteps.{cumulative_is}
use Rattle.sctp_recv.proofs.receiver.Receiver.on_requests.Goals as goal

pub returns-in-Some-clause-step : goal.returns-in-Some-clause-step
returns-in-Some-clause-step g c = λ v w.
    subst (λ (t : ℕ → ReceiverView). OnOk c.on_all.result ((k : ℕ) × IsCumulative v k × StandsFor g.F.Framing.format c.on_all.new.self (t k)))
    (λ i k. sym (c.in-Some.ensures.acts c.args.limit k v) i) (c.on_all.ensures.step v w (c.in-Some.ensures.lists c.most_streams-most.result c.most_streams-most.ensures))

pub returns-in-None-clause-step : goal.returns-in-None-clause-step
unfolding StandsFor
returns-in-None-clause-step g c = λ v w.
    let r = c.args.self.now in
    let s = r.seen.kept in
    (s.cumulative, cumulative_is s v w.0.seen, subst (λ (t : ReceiverView). StandsFor g.F.Framing.format r t) (sym (c.in-None.ensures.acts c.args.limit s.cumulative v)) w)
