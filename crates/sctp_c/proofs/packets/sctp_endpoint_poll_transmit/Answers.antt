use Rattle.sctp_endpoint.specs.EndpointStands.{EndpointStands}
use Rattle.sctp_c.proofs.BufferLemmas.{next_fits}
use Rattle.sctp_c.proofs.HandingBack.{StandsOn, transmits_on, refused_on, sends_on, counts_on}
use Rattle.sctp_c.proofs.packets.sctp_endpoint_poll_transmit.Goals as goal

pub returns-clause-did : goal.returns-clause-did
returns-clause-did c = λ v holds large.
    let stands : EndpointStands c.lend-end.result.now v = rw c.lend-end.ensures.value at holds in
    let said = c.poll_transmit-answer.ensures in
    let told = c.tell_poll-told.ensures in
    let on : StandsOn c.poll_transmit-answer.new.self c.tell_poll-told.new.end = λ w after. told.keeps w after in
    record {
      answer = c.poll_transmit-answer.result;
      step = transmits_on _ _ _ _ on (said.step v stands);
      refused = refused_on _ _ _ _ on (said.refused v stands);
      notes = sends_on _ _ _ _ on (said.logs v stands);
      anew = said.anew v stands;
      counts = rw c.lend-end.ensures.value (counts_on _ _ _ _ _ on told.counts (said.counts v stands));
      told = told.told (next_fits v c.args.now c.poll_transmit-answer.result _ _ (said.step v stands) large);
    }
