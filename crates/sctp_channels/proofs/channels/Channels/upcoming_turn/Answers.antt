use Rattle.std.proofs.Common.{◌≡◌, ℕ, ◌<◌, Bool, false, Option, Some, refl, sym, ap, ◌∙◌, subst}
use Rattle.std.specs.Prelude.{◌&&◌, ◌==◌}
use Rattle.sctp_recv.specs.Readable.{NextReadableAnswer}
use Rattle.sctp_channels.specs.declared.reading.Upcoming.TheVariants as upcoming
use Rattle.sctp_channels.specs.declared.stream.Stream.{Stream}
use Rattle.sctp_channels.specs.Streams.{is_reset, is_drained, Table, stream_at}
use Rattle.sctp_channels.specs.Events.{reports_turn}
use Rattle.sctp_channels.specs.ChannelsStand.{ChannelsStand, endpoint_of, table_of}
use Rattle.sctp_channels.specs.inner.Upcoming.{Comes}
use Rattle.sctp_channels.proofs.TableLemmas.{at_as}
use Rattle.sctp_channels.proofs.TurnLemmas.{turn_nowhere, turn_next}
use Rattle.sctp_channels.proofs.channels.Channels.upcoming_turn.Goals as goal

pub returns-in_default : goal.returns-in_default
unfolding ChannelsStand endpoint_of table_of
returns-in_default c = λ v x stands.
    subst (λ (o : Option ℕ). Comes (reports_turn o v x) v x c.upcoming_end.result) (turn_nowhere v x (c.in_default.ensures v stands.0)) (c.upcoming_end.ensures v x stands)

pub returns : goal.returns
unfolding ChannelsStand endpoint_of table_of
returns c = λ v x stands.
    let s = c.in-Some.stream in
    let next = ap (λ (t : Table). t.next) stands.1 in
    let less : s < 65_536 = search in
    let there = at_as _ x s _ c.at-kept.ensures stands.1 in
    let off : is_reset (stream_at x s).resets ≡ false = ap (λ (y : Stream). is_reset y.resets) (sym there) ∙ (sym c.is_reset.ensures ∙ c.if-is_reset.false) in
    let fails : is_drained (stream_at x s) ≡ false = ap (λ (b : Bool). b && ((stream_at x s).left == 0)) off in
    let turns = turn_next v x s less fails (subst (λ (from : ℕ). NextReadableAnswer v.receiver.waiting from (Some s)) next (c.in-Some.ensures v stands.0)) in
    subst (λ (o : Option ℕ). Comes (reports_turn o v x) v x (upcoming.First s c.at-kept.result.state)) turns (refl, ap (λ (y : Stream). y.state) there, sym off)
