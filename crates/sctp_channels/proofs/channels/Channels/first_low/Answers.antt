use Rattle.std.proofs.Common.{◌<◌, ◌≤◌, length, sym, ◌∙◌, arith}
use Rattle.sctp_channels.specs.Buffered.{is_low}
use Rattle.sctp_channels.specs.ChannelsStand.{ChannelsStand, endpoint_of, table_of}
use Rattle.sctp_channels.proofs.BusyLemmas.{low_fails, search_begins, search_ends}
use Rattle.sctp_channels.proofs.FirstLemmas.{first_found, first_more}
use Rattle.sctp_channels.proofs.TableLemmas.{busy_of}
use Rattle.sctp_channels.proofs.channels.Channels.first_low.Goals as goal

pub loop-stream-init : goal.loop-stream-init
unfolding ChannelsStand endpoint_of table_of
loop-stream-init c = λ v x stands.
    let r = c.args.self.now.table.busy in
    let holds = busy_of c.args.self.now.table x stands.1 in
    search_begins (is_low v x) x r holds (λ q out. low_fails v x r q holds out)

pub returns-then-is_low : goal.returns-then-is_low
unfolding ChannelsStand endpoint_of table_of
returns-then-is_low c = λ v x stands.
    let holds = busy_of c.args.self.now.table x stands.1 in
    let there : c.loop-stream.stream < length x.streams = let b = holds.1 in omega (arith, c.loop-stream-test.true, b) in
    sym (c.loop-stream.invariant v x stands ∙ first_found (is_low v x) c.loop-stream.stream (length x.streams) there (sym (c.is_low.ensures v x stands) ∙ c.if-is_low.true))

pub loop-stream-preserved : goal.loop-stream-preserved
unfolding ChannelsStand endpoint_of table_of
loop-stream-preserved c = λ v x stands.
    let holds = busy_of c.args.self.now.table x stands.1 in
    let there : c.loop-stream.stream < length x.streams = let b = holds.1 in omega (arith, c.loop-stream-test.true, b) in
    c.loop-stream.invariant v x stands ∙ first_more (is_low v x) c.loop-stream.stream (length x.streams) there (sym (c.is_low.ensures v x stands) ∙ c.if-is_low.false)

pub returns : goal.returns
unfolding ChannelsStand endpoint_of table_of
returns c = λ v x stands.
    let r = c.args.self.now.table.busy in
    let holds = busy_of c.args.self.now.table x stands.1 in
    let past : r.high ≤ c.loop-stream.stream = omega (arith, c.loop-stream-test.false) in
    sym (c.loop-stream.invariant v x stands ∙ search_ends (is_low v x) x r c.loop-stream.stream past (λ q out. low_fails v x r q holds out))
