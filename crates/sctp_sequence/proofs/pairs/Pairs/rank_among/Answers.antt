use Rattle.std.proofs.Common.{subst, rules, of_calls, arith}
use Rattle.std.specs.Prelude.{nat_lt}
use Rattle.std.proofs.lemmas.Fn.{always_returns_same}
use Rattle.std.proofs.lemmas.List.Sorted.{IsPartitionedBy-ltb}
use Rattle.sctp_sequence.specs.Pairs.{PairsKept, IsRank, key}
use Rattle.sctp_sequence.specs.declared.pairs.Pair.{Pair}
use Rattle.sctp_sequence.proofs.PairLemmas.{rank_found}
use Rattle.sctp_sequence.proofs.pairs.Pairs.rank_among.Goals as goal

pub returns : goal.returns
returns c =
    let ps = c.self.inside.pairs.items in
    let sought = c.args.sought in
    let test = λ (p : Pair). nat_lt (key p) sought in
    let point = c.partition_point.ensures.partitioned test (always_returns_same _ _ _ (λ a r f k. search (rules, of_calls))) (IsPartitionedBy-ltb key ps sought c.self.invariant.order) in
    subst (λ (k : PairsKept). IsRank sought k.items c.partition_point.result) c.self.view_is (rank_found sought c.partition_point.result ps (omega (arith, c.partition_point.ensures.bound, c.self.inside.pairs.ok)) point)
