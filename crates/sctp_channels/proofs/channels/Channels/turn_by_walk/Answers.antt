use Rattle.std.proofs.Common.{◌<◌, sym, ap, ◌∙◌, arith}
use Rattle.sctp_channels.specs.Streams.{Table}
use Rattle.sctp_channels.specs.Events.{is_readable, readable_from}
use Rattle.sctp_channels.specs.ChannelsStand.{ChannelsStand, table_of}
use Rattle.sctp_channels.proofs.FirstLemmas.{turn_is, turn_else}
use Rattle.sctp_channels.proofs.TurnLemmas.{turn_none, turn_low}
use Rattle.sctp_channels.proofs.channels.Channels.turn_by_walk.Goals as goal

pub returns-in_default : goal.returns-in_default
unfolding ChannelsStand table_of
returns-in_default c = λ v x stands. turn_none (is_readable v x) x.next 65_536 (c.in_default.ensures v x stands)

pub returns-then-next-lowest : goal.returns-then-next-lowest
unfolding ChannelsStand table_of
returns-then-next-lowest c = λ v x stands.
    let next = ap (λ (t : Table). t.next) stands.1 in
    let less : c.in-Some.lowest < 65_536 = search in
    turn_low (is_readable v x) x.next c.in-Some.lowest 65_536 (omega (arith, next, c.if-next-lowest.true)) less (c.in-Some.ensures v x stands)

pub returns-in-Some-readable_from : goal.returns-in-Some-readable_from
unfolding ChannelsStand table_of
returns-in-Some-readable_from c = λ v x stands.
    let next = ap (λ (t : Table). readable_from v x t.next) stands.1 in
    turn_is (readable_from v x x.next) (readable_from v x 0) c.in-Some-readable_from.stream (sym next ∙ sym (c.in-Some-readable_from.ensures v x stands))

pub returns-in-None : goal.returns-in-None
unfolding ChannelsStand table_of
returns-in-None c = λ v x stands.
    let next = ap (λ (t : Table). readable_from v x t.next) stands.1 in
    turn_else (readable_from v x x.next) (readable_from v x 0) _ (sym next ∙ sym (c.in-None.ensures v x stands)) (c.in-Some.ensures v x stands)
