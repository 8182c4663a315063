use Rattle.std.proofs.Common.{subst, sym, ◌≤◌, ℕ}
use Rattle.sctp_model.specs.numbers.Limits.{STREAM_LIMIT}
use Rattle.sctp_endpoint.specs.EndpointStands.{EndpointStands}
use Rattle.sctp_endpoint.proofs.ResetLemmas.{few_resetting}
use Rattle.sctp_endpoint.proofs.endpoint.Endpoint.resetting_streams.Goals as goal

pub returns-clause-count : goal.returns-clause-count
unfolding EndpointStands
returns-clause-count c = c.resetting_streams.ensures

pub returns-clause-bound : goal.returns-clause-bound
unfolding EndpointStands
returns-clause-bound c = λ v stands. subst (λ (n : ℕ). n ≤ STREAM_LIMIT) (sym (c.resetting_streams.ensures v stands)) (few_resetting v.sender)
