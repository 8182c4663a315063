use Rattle.std.proofs.Common.{ℕ, sym, ◌∙◌}
use Rattle.std.specs.Prelude.{◌&&◌}
use Rattle.sctp_channels.specs.Streams.{stream_at, is_own, is_free}
use Rattle.sctp_channels.specs.Calling.{both_ways}
use Rattle.sctp_channels.proofs.FirstLemmas.{first_found, first_more}
use Rattle.sctp_channels.proofs.channels.Channels.lowest_free.Goals as goal

pub returns-then-is_own_free : goal.returns-then-is_own_free
returns-then-is_own_free c = λ v x stands.
    let less = rw (c.both_ways-at-end.ensures.count v x stands) at c.loop-at-test.true in
    sym (c.loop-at.invariant v x stands ∙ first_found (λ (s : ℕ). is_own x.role s && is_free (stream_at x s)) c.loop-at.at (both_ways v x) less (sym (c.is_own_free.ensures v x stands) ∙ c.if-is_own_free.true))

pub loop-at-preserved : goal.loop-at-preserved
loop-at-preserved c = λ v x stands.
    let less = rw (c.both_ways-at-end.ensures.count v x stands) at c.loop-at-test.true in
    c.loop-at.invariant v x stands ∙ first_more (λ (s : ℕ). is_own x.role s && is_free (stream_at x s)) c.loop-at.at (both_ways v x) less (sym (c.is_own_free.ensures v x stands) ∙ c.if-is_own_free.false)
