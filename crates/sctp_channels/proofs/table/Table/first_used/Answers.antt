use Rattle.std.proofs.Common.{◌≡◌, ◌≤◌, ◌<◌, length, true, false, Some, None, refl, sym, ap, subst, ◌∙◌, arith}
use Rattle.sctp_channels.specs.declared.stream.Stream.{Stream}
use Rattle.sctp_channels.specs.Streams.{has_channel, Table, stream_at, first_from}
use Rattle.sctp_channels.specs.Events.{is_used}
use Rattle.sctp_channels.specs.Meanings.{table_meaning}
use Rattle.sctp_channels.proofs.UsedLemmas.{used_above, first_used_is, none_used_is}
use Rattle.sctp_channels.proofs.table.Table.first_used.Goals as goal

pub loop-stream-init : goal.loop-stream-init
loop-stream-init c = (refl, refl, λ s used. (c.args.self.now.are_used s used).0)

pub invariant_of-self : goal.invariant_of-self
invariant_of-self c =
    let t = c.loop-stream.self in
    let most : c.loop-stream.stream ≤ t.used.high = omega (arith, c.loop-stream-test.true, c.loop-stream.invariant.1) in
    record {
      few = t.few;
      no_more = t.no_more;
      busy_fits = t.busy_fits;
      used_fits = (most, t.used_fits.1);
      are_busy = t.are_busy;
      are_used = λ s used. (c.loop-stream.invariant.2 s used, (t.are_used s used).1);
    }

pub returns-then-has_channel-clause-same : goal.returns-then-has_channel-clause-same
returns-then-has_channel-clause-same c = c.loop-stream.invariant.0

pub returns-then-has_channel-clause-first : goal.returns-then-has_channel-clause-first
returns-then-has_channel-clause-first c =
    let t = c.loop-stream.self in
    let x = table_meaning t in
    let there : c.loop-stream.stream < length x.streams = omega (arith, c.loop-stream-test.true, c.loop-stream.invariant.1, t.used_fits.1) in
    let used : has_channel (stream_at x c.loop-stream.stream).state ≡ true = ap (λ (y : Stream). has_channel y.state) (sym c.at.ensures) ∙ (sym c.has_channel.ensures ∙ c.if-has_channel.true) in
    subst (λ (y : Table). Some c.loop-stream.stream ≡ first_from (is_used y) 0 (length y.streams)) c.loop-stream.invariant.0
    (first_used_is x c.loop-stream.stream there c.loop-stream.invariant.2 used)

pub loop-stream-preserved : goal.loop-stream-preserved
loop-stream-preserved c =
    let x = table_meaning c.loop-stream.self in
    let free : has_channel (stream_at x c.loop-stream.stream).state ≡ false = ap (λ (y : Stream). has_channel y.state) (sym c.at.ensures) ∙ (sym c.has_channel.ensures ∙ c.if-has_channel.false) in
    (c.loop-stream.invariant.0, c.loop-stream.invariant.1, used_above x c.loop-stream.stream c.loop-stream.invariant.2 free)

pub invariant_of-self-2 : goal.invariant_of-self-2
invariant_of-self-2 c =
    let t = c.loop-stream.self in
    let past : t.used.high ≤ c.loop-stream.stream = omega (arith, c.loop-stream-test.false, c.loop-stream.invariant.1) in
    record {
      few = t.few;
      no_more = t.no_more;
      busy_fits = t.busy_fits;
      used_fits = (omega arith, t.used_fits.1);
      are_busy = t.are_busy;
      are_used = λ s used. absurd (let low = c.loop-stream.invariant.2 s used in let high = (t.are_used s used).1 in omega (arith, past, low, high));
    }

pub returns-clause-same : goal.returns-clause-same
returns-clause-same c = c.loop-stream.invariant.0

pub returns-clause-first : goal.returns-clause-first
returns-clause-first c =
    let t = c.loop-stream.self in
    let x = table_meaning t in
    let past : t.used.high ≤ c.loop-stream.stream = omega (arith, c.loop-stream-test.false, c.loop-stream.invariant.1) in
    subst (λ (y : Table). ◌≡◌ {A = _} None (first_from (is_used y) 0 (length y.streams))) c.loop-stream.invariant.0
    (none_used_is x c.loop-stream.stream c.loop-stream.invariant.2 (λ s used. let high = (t.are_used s used).1 in omega (arith, past, high)))
