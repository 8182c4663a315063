use Rattle.std.proofs.Common.{rules, of_calls, arith}
use Rattle.std.proofs.lemmas.Fn.{always_returns_same}
use Rattle.sctp_recv.specs.Runs.{begins_by}
use Rattle.sctp_recv.proofs.RunLemmas.{by_parted, placed}
use Rattle.sctp_recv.proofs.runs.upto.Goals as goal

pub returns-clause-place : goal.returns-clause-place
returns-clause-place c = λ spaced.
    let runs = c.args.runs.now.items in
    let point = c.partition_point.ensures.partitioned (begins_by c.args.index) (always_returns_same _ _ _ (λ a r f k. search (rules, of_calls))) (by_parted c.args.index runs spaced) in
    placed (begins_by c.args.index) runs c.partition_point.result (omega (arith, c.partition_point.ensures.bound)) point
