use Rattle.sctp_endpoint.specs.EndpointStands.{EndpointStands}
use Rattle.sctp_endpoint.proofs.LogLemmas.{send_logs}
use Rattle.sctp_endpoint.proofs.endpoint.Endpoint.send_with_max_retransmits.Goals as goal

pub returns-clause-answer : goal.returns-clause-answer
unfolding EndpointStands
returns-clause-answer c = c.send_with_max_retransmits.ensures.answer

pub returns-clause-step : goal.returns-clause-step
unfolding EndpointStands
returns-clause-step c = c.send_with_max_retransmits.ensures.step

pub returns-clause-logs : goal.returns-clause-logs
unfolding EndpointStands
returns-clause-logs c = λ v stands. send_logs c.send_with_max_retransmits.result v _ _ (c.sound.ensures v stands) (c.send_with_max_retransmits.ensures.answer v stands) (c.send_with_max_retransmits.ensures.step v stands)
