use Rattle.std.proofs.Common.{refl, sym, ap, ◌∙◌}
use Rattle.sctp_channels.specs.declared.stream.Stream.{Stream}
use Rattle.sctp_channels.specs.Streams.{is_reset}
use Rattle.sctp_channels.specs.ChannelsStand.{ChannelsStand, endpoint_of, table_of}
use Rattle.sctp_channels.proofs.TableLemmas.{at_as}
use Rattle.sctp_channels.proofs.channels.Channels.upcoming_on.Goals as goal

pub returns-then-is_reset : goal.returns-then-is_reset
unfolding ChannelsStand endpoint_of table_of
returns-then-is_reset c = λ v x stands.
    let there = at_as _ x c.args.stream _ c.at-kept.ensures stands.1 in
    (refl, ap (λ (y : Stream). y.state) there, sym c.if-is_reset.true ∙ (c.is_reset.ensures ∙ ap (λ (y : Stream). is_reset y.resets) there))

pub returns-else-is_reset : goal.returns-else-is_reset
unfolding ChannelsStand endpoint_of table_of
returns-else-is_reset c = λ v x stands.
    let there = at_as _ x c.args.stream _ c.at-kept.ensures stands.1 in
    (refl, ap (λ (y : Stream). y.state) there, sym c.if-is_reset.false ∙ (c.is_reset.ensures ∙ ap (λ (y : Stream). is_reset y.resets) there))
