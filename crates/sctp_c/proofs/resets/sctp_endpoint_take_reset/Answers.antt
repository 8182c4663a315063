use Rattle.sctp_endpoint.specs.EndpointStands.{EndpointStands}
use Rattle.sctp_c.proofs.resets.sctp_endpoint_take_reset.Goals as goal

pub returns-clause-did : goal.returns-clause-did
returns-clause-did c = λ v holds.
    let stands : EndpointStands c.lend-end.result.now v = rw c.lend-end.ensures.value at holds in
    let said = c.take_reset-found.ensures in
    record { answer = c.take_reset-found.result; answers = said.answer v stands; step = said.step v stands; told = c.tell_reset.ensures.told }
