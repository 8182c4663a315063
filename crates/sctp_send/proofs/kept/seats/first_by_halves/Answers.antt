use Rattle.std.proofs.Common.{rules, of_calls, arith}
use Rattle.std.specs.Prelude.{nat_lt}
use Rattle.std.proofs.lemmas.Fn.{always_returns_same}
use Rattle.sctp_send.specs.inner.Seating.{ticket_in}
use Rattle.sctp_send.specs.declared.kept.waiting.Waiting.{Waiting}
use Rattle.sctp_send.proofs.kept.RiseLemmas.{can_search, searched}
use Rattle.sctp_send.proofs.kept.seats.first_by_halves.Goals as goal

pub returns : goal.returns
returns c =
    let ws = c.args.messages.now.items in
    let test = λ (w : Waiting). nat_lt (ticket_in w.message) c.args.ticket in
    let point = c.partition_point.ensures.partitioned test (always_returns_same _ _ _ (λ a r f k. search (rules, of_calls))) (can_search c.args.ticket ws c.requires) in
    searched c.args.ticket c.partition_point.result ws (omega (arith, c.partition_point.ensures.bound, c.args.messages.now.ok)) point
