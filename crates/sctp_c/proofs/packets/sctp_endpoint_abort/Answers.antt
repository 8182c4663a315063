use Rattle.sctp_endpoint.specs.EndpointStands.{EndpointStands}
use Rattle.sctp_c.proofs.BufferLemmas.{abort_fits}
use Rattle.sctp_c.proofs.packets.sctp_endpoint_abort.Goals as goal

pub returns-clause-did : goal.returns-clause-did
returns-clause-did c = λ v holds large.
    let stands : EndpointStands c.lend-end.result.now v = rw c.lend-end.ensures.value at holds in
    let said = c.abort-answer.ensures in
    record {
      answer = c.abort-answer.result;
      answers = said.answer v stands;
      step = said.step v stands;
      counts = rw c.lend-end.ensures.value said.counts;
      told = c.tell_abort.ensures.told (abort_fits v.configuration.limit c.abort-answer.result _ (said.within v stands) large);
    }
