use Rattle.sctp_channels.specs.ChannelsStand.{ChannelsStand}
use Rattle.sctp_c.proofs.ChannelLemmas.{transmit_fits}
use Rattle.sctp_c.proofs.channels.packets.sctp_channels_poll_transmit.Goals as goal

pub returns-clause-did : goal.returns-clause-did
returns-clause-did c = λ v x holds large.
    let stands : ChannelsStand c.lend-held.result.now.channels v x = rw c.lend-held.ensures.value at holds in
    let said = c.poll_transmit-answer.ensures in
    let told = c.tell_poll-told.ensures in
    record {
      answer = c.poll_transmit-answer.result;
      after = c.poll_transmit-answer.new.self;
      sends = said.step v x stands;
      stands = λ w y after. told.keeps w y after;
      told = told.told (transmit_fits v x c.args.now c.poll_transmit-answer.result _ _ (said.step v x stands) large);
    }
