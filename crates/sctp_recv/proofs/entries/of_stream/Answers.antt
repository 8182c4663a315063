use Rattle.std.proofs.Common.{List, ◌-◌, nat_lt, nat_le, length, map, take, drop, sym, subst, rules, of_calls}
use Rattle.std.proofs.lemmas.Fn.{always_returns_same}
use Rattle.sctp_wire.specs.declared.skips.Skip.{Skip}
use Rattle.sctp_wire.specs.ChunkTree.{skip_meaning}
use Rattle.sctp_recv.specs.inner.Forwarding.{AreByStream, AreEntriesOf}
use Rattle.sctp_recv.proofs.EntryLemmas.{below_parted, upto_parted, dropped_rise, rest_all, IsBack, between_points}
use Rattle.sctp_recv.proofs.entries.of_stream.Goals as goal

pub returns : goal.returns
returns c = λ rise.
    let es = c.args.entries.now in
    let s = c.args.stream in
    let from = c.partition_point-from.result in
    let front = c.partition_point-from.ensures.partitioned (λ (e : Skip). nat_lt e.stream s) (always_returns_same _ _ _ (λ a r f k. search (rules, of_calls))) (below_parted es s rise) in
    let back = c.partition_point-count.ensures.partitioned (λ (e : Skip). nat_le e.stream s) (always_returns_same _ _ _ (λ a r f k. search (rules, of_calls)))
    (upto_parted (take (length es - from) (drop from es)) s (subst AreByStream (sym (rest_all es from)) (dropped_rise es from rise))) in
    subst (λ (rest : List Skip). AreEntriesOf s (map skip_meaning es) (map skip_meaning (take c.partition_point-count.result rest))) (sym (rest_all es from))
    (between_points s es from c.partition_point-count.result front (subst (λ (rest : List Skip). IsBack s rest c.partition_point-count.result) (rest_all es from) back))
