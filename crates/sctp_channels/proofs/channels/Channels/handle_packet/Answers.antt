use Rattle.std.proofs.Common.{◌∙◌}
use Rattle.sctp_channels.specs.ChannelsStand.{ChannelsStand, endpoint_of, table_of}
use Rattle.sctp_channels.proofs.PacketLemmas.{hears_as}
use Rattle.sctp_channels.proofs.channels.Channels.handle_packet.Goals as goal

pub returns-clause-step : goal.returns-clause-step
unfolding ChannelsStand endpoint_of table_of
returns-clause-step c = λ v x o stands reads.
    let heard = hears_as v x c.args.now c.args.draw o c.handle_packet-heard.result c.handle_packet-heard.new.self c.noted.new.self (c.handle_packet-heard.ensures.step v o stands.0 reads)
    (λ t there. c.noted.ensures.noted t x (there, stands.1, (λ on. absurd (cc on)))) in
    rw (← c.noted.ensures.same) at heard

pub returns-clause-counts : goal.returns-clause-counts
unfolding ChannelsStand endpoint_of table_of
returns-clause-counts c = λ v x o stands reads. rw c.noted.ensures.same (c.noted.ensures.counts ∙ c.handle_packet-heard.ensures.counts v o stands.0 reads)
