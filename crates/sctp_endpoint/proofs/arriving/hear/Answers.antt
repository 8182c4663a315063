use Rattle.sctp_endpoint.proofs.ArrivingLemmas.{hears}
use Rattle.sctp_endpoint.proofs.arriving.hear.Goals as goal

pub returns-clause-step : goal.returns-clause-step
returns-clause-step c = λ v stands. hears _ _ _ v _ _ _ _ _ (c.act_all-answer.ensures.step v stands) c.end_packet.ensures
