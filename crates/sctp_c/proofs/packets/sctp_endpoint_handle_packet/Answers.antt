use Rattle.sctp_endpoint.specs.EndpointStands.{EndpointStands}
use Rattle.sctp_c.proofs.BufferLemmas.{answer_fits}
use Rattle.sctp_c.proofs.packets.sctp_endpoint_handle_packet.Goals as goal

pub returns-clause-did : goal.returns-clause-did
returns-clause-did c = λ v o holds some large read.
    let stands : EndpointStands c.lend-end.result.now v = rw c.lend-end.ensures.value at holds in
    let said = c.handle_packet-answer.ensures in
    record {
      answer = c.handle_packet-answer.result;
      step = rw c.in-Some.ensures.0 at (said.step v o stands read);
      counts = rw c.lend-end.ensures.value (said.counts v o stands read);
      told = c.tell_heard.ensures.told (answer_fits v.configuration.limit c.handle_packet-answer.result _ (said.within v stands) large);
    }
