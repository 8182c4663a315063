use Rattle.std.proofs.Common.{ℕ, rules, of_calls}
use Rattle.std.specs.Prelude.{nat_lt}
use Rattle.std.proofs.lemmas.Fn.{always_returns_same}
use Rattle.sctp_send.proofs.resetting.RankLemmas.{can_search, searched}
use Rattle.sctp_send.proofs.resetting.table.rank_of.Goals as goal

pub returns-clause-rank : goal.returns-clause-rank
returns-clause-rank c = λ order.
    let xs = c.args.resetting.now in
    let stream = c.args.stream in
    let point = c.partition_point.ensures.partitioned (λ (s : ℕ). nat_lt s stream) (always_returns_same _ _ _ (λ a r f k. search (rules, of_calls))) (can_search (λ (s : ℕ). s) stream 0 xs order) in
    searched (λ (s : ℕ). s) stream c.partition_point.result xs c.partition_point.ensures.bound point
