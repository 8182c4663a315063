use Rattle.std.proofs.Common.{ℕ, List, OnOk, sym, subst}
use Rattle.sctp_model.specs.receiver.ReceiverView.{ReceiverView, IsCumulative}
use Rattle.sctp_reconfig.specs.Reading.{ParameterMeaning}
use Rattle.sctp_recv.specs.Requests.{all_requested}
use Rattle.sctp_association.specs.Reconfigured.{parameters_in}
use Rattle.sctp_association.specs.TrafficStands.{TrafficStands}
use Rattle.sctp_association.proofs.ReconfigLemmas.{unrequested}
use Rattle.sctp_association.proofs.peer.reconfiguring.take_requests.Goals as goal

pub returns-in-Some-clause-step : goal.returns-in-Some-clause-step
returns-in-Some-clause-step c = λ f s r stands.
    subst (λ (ps : List ParameterMeaning). OnOk c.on_requests.result ((n : ℕ) × IsCumulative r n × TrafficStands c.on_requests.new.self f s (all_requested c.args.limit n r ps)))
    (sym c.in-Some.ensures) (c.on_requests.ensures.step f s r stands)

pub returns-in-None-clause-step : goal.returns-in-None-clause-step
returns-in-None-clause-step c = λ f s r stands.
    let x = c.cumulative-cumulative.ensures f s r stands in
    (x.0, x.1, subst (λ (t : ReceiverView). TrafficStands c.args.traffic.now f s t) (sym (unrequested c.args.limit x.0 r (parameters_in c.args.value.now) c.in-None.ensures)) stands)
