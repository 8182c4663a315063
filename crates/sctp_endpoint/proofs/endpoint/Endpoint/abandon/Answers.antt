use Rattle.sctp_outcomes.proofs.logs.Called.{abandon_keeps_logs}
use Rattle.sctp_endpoint.specs.EndpointStands.{EndpointStands}
use Rattle.sctp_endpoint.proofs.endpoint.Endpoint.abandon.Goals as goal

pub returns-clause-answer : goal.returns-clause-answer
unfolding EndpointStands
returns-clause-answer c = c.abandon.ensures.answer

pub returns-clause-step : goal.returns-clause-step
unfolding EndpointStands
returns-clause-step c = c.abandon.ensures.step

pub returns-clause-logs : goal.returns-clause-logs
unfolding EndpointStands
returns-clause-logs c = λ v stands. (_, abandon_keeps_logs v c.args.ticket.0 (c.sound.ensures v stands), c.abandon.ensures.step v stands)
