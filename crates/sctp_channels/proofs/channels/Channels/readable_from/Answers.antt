use Rattle.std.proofs.Common.{◌≡◌, ◌<◌, true, false, sym, ◌∙◌, arith}
use Rattle.sctp_channels.specs.Streams.{is_drained, stream_at}
use Rattle.sctp_channels.specs.Events.{is_readable}
use Rattle.sctp_channels.specs.ChannelsStand.{ChannelsStand, endpoint_of, table_of}
use Rattle.sctp_channels.proofs.FirstLemmas.{first_found, first_more, none_from, first_from_to, unread, drained, reads}
use Rattle.sctp_channels.proofs.channels.Channels.readable_from.Goals as goal

pub returns-then-not-is_drained : goal.returns-then-not-is_drained
unfolding ChannelsStand endpoint_of table_of
returns-then-not-is_drained c = λ v x stands.
    let s = c.in-Some.stream in
    let w = c.in-Some.ensures v stands.0 in
    let no : is_drained (stream_at x s) ≡ false = cc in
    let less : s < 65_536 = search in
    let skip = first_from_to (is_readable v x) c.loop-turn.from s 65_536 w.above (omega (arith, less)) (λ q low high. unread v x q (w.first q low high)) in
    sym ((c.loop-turn.invariant v x stands).0 ∙ (skip ∙ first_found (is_readable v x) s 65_536 less (reads v x s w.some no)))

pub returns-in_default : goal.returns-in_default
unfolding ChannelsStand endpoint_of table_of
returns-in_default c = λ v x stands.
    let none = c.in_default.ensures v stands.0 in
    sym ((c.loop-turn.invariant v x stands).0 ∙ none_from (is_readable v x) c.loop-turn.from 65_536 (λ q low. unread v x q (none q low)))

pub loop-turn-preserved : goal.loop-turn-preserved
unfolding ChannelsStand endpoint_of table_of
loop-turn-preserved c = λ v x stands.
    let s = c.in-Some.stream in
    let w = c.in-Some.ensures v stands.0 in
    let holds : is_drained (stream_at x s) ≡ true = cc in
    let less : s < 65_536 = search in
    let before = c.loop-turn.invariant v x stands in
    let skip = first_from_to (is_readable v x) c.loop-turn.from s 65_536 w.above (omega (arith, less)) (λ q low high. unread v x q (w.first q low high)) in
    (before.0 ∙ (skip ∙ first_more (is_readable v x) s 65_536 less (drained v x s holds)), omega (arith, before.1, w.above))
