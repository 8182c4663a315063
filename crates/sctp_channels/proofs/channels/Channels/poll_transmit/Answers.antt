use Rattle.std.proofs.Common.{subst}
use Rattle.sctp_model.specs.end.Clock.{at_moment}
use Rattle.sctp_endpoint.specs.Counted.{Counted, CountsAfter}
use Rattle.sctp_channels.specs.Settling.{settled_all}
use Rattle.sctp_channels.specs.ChannelsStand.{ChannelsStand, endpoint_of, table_of}
use Rattle.sctp_channels.proofs.PacketLemmas.{transmits_as}
use Rattle.sctp_channels.proofs.channels.Channels.poll_transmit.Goals as goal

pub returns-in-Ok-clause-step : goal.returns-in-Ok-clause-step
unfolding ChannelsStand endpoint_of table_of
returns-in-Ok-clause-step c = λ v x stands.
    let all = c.in-Ok.ensures.step v x stands in
    transmits_as v x _ c.poll_transmit.result _ (c.poll_transmit.ensures.step _ all.0) (c.poll_transmit.ensures.refused _ all.0) (λ t there. (there, all.1, (λ on. absurd (cc on))))

pub returns-in-Ok-clause-few : goal.returns-in-Ok-clause-few
unfolding ChannelsStand endpoint_of table_of
returns-in-Ok-clause-few c = λ v x stands. c.poll_transmit.ensures.few _ (c.in-Ok.ensures.step v x stands).0

pub returns-in-Err-clause-step : goal.returns-in-Err-clause-step
returns-in-Err-clause-step c = λ v x stands.
    let some = c.in-Err.ensures.step v x stands in
    (some.0, some.2)

pub returns-in-Ok-clause-counts : goal.returns-in-Ok-clause-counts
unfolding ChannelsStand endpoint_of table_of
returns-in-Ok-clause-counts c = λ v x stands.
    let all = c.in-Ok.ensures.step v x stands in
    subst (λ (n : Counted). CountsAfter (at_moment (settled_all v x).view c.args.now) c.poll_transmit.result c.poll_transmit.new.self n) c.in-Ok.ensures.counts (c.poll_transmit.ensures.counts _ all.0)

pub returns-in-Err-clause-counts : goal.returns-in-Err-clause-counts
returns-in-Err-clause-counts c = λ v x stands. c.in-Err.ensures.counts
