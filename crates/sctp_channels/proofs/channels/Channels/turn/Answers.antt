use Rattle.std.proofs.Common.{◌≡◌, ℕ, ◌<◌, false, Some, sym, ap, ◌∙◌, subst}
use Rattle.sctp_recv.specs.Readable.{NextReadableAnswer}
use Rattle.sctp_channels.specs.Streams.{Table, is_drained, stream_at}
use Rattle.sctp_channels.specs.ChannelsStand.{ChannelsStand, endpoint_of, table_of}
use Rattle.sctp_channels.proofs.TableLemmas.{at_as}
use Rattle.sctp_channels.proofs.TurnLemmas.{turn_nowhere, turn_next}
use Rattle.sctp_channels.proofs.channels.Channels.turn.Goals as goal

pub returns-in_default : goal.returns-in_default
unfolding ChannelsStand endpoint_of table_of
returns-in_default c = λ v x stands. turn_nowhere v x (c.in_default.ensures v stands.0)

pub returns : goal.returns
unfolding ChannelsStand endpoint_of table_of
returns c = λ v x stands.
    let s = c.in-Some.stream in
    let next = ap (λ (t : Table). t.next) stands.1 in
    let less : s < 65_536 = search in
    let there = at_as _ x s _ c.at.ensures stands.1 in
    let fails : is_drained (stream_at x s) ≡ false = ap is_drained (sym there) ∙ (sym c.is_drained.ensures ∙ c.if-is_drained.false) in
    turn_next v x s less fails (subst (λ (from : ℕ). NextReadableAnswer v.receiver.waiting from (Some s)) next (c.in-Some.ensures v stands.0))
