use Rattle.std.proofs.Common.{◌≡◌, length, ap, ◌∙◌, arith}
use Rattle.std.specs.Prelude.{replicate}
use Rattle.std.proofs.lemmas.List.{length-replicate}
use Rattle.sctp_channels.specs.Streams.{unused}
use Rattle.sctp_channels.proofs.SpanLemmas.{none_busy, none_used}
use Rattle.sctp_channels.proofs.table.Table.new.Goals as goal

pub invariant_of-result : goal.invariant_of-result
invariant_of-result c =
    let xs = c.loop.streams.items in
    let all : xs ≡ replicate c.loop.counter unused = c.loop.invariant in
    let size : length xs ≡ c.loop.counter = ap length all ∙ length-replicate c.loop.counter unused in
    record {
      few = omega (arith, size, c.loop.auto.counter-end, c.ranges.count.fits);
      no_more = omega (arith, ap length c.new.ensures.items);
      busy_fits = c.empty.ensures (length xs);
      used_fits = c.empty-2.ensures (length xs);
      are_busy = rw (all, c.new.ensures.items) (none_busy c.empty.result c.loop.counter);
      are_used = rw all (none_used c.empty-2.result c.loop.counter);
    }
