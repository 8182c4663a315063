use Rattle.sctp_channels.proofs.MadeCalls.{nothing_is_made, opens_are_made, negotiated_are_made, sends_are_made, closes_are_made, thresholds_are_made}
use Rattle.sctp_channels.proofs.making.user_calls_are_made.Goals as goal

pub returns-clause-nothing : goal.returns-clause-nothing
returns-clause-nothing c = nothing_is_made

pub returns-clause-opens : goal.returns-clause-opens
returns-clause-opens c = opens_are_made

pub returns-clause-negotiated : goal.returns-clause-negotiated
returns-clause-negotiated c = negotiated_are_made

pub returns-clause-sends : goal.returns-clause-sends
returns-clause-sends c = sends_are_made

pub returns-clause-closes : goal.returns-clause-closes
returns-clause-closes c = closes_are_made

pub returns-clause-thresholds : goal.returns-clause-thresholds
returns-clause-thresholds c = thresholds_are_made
