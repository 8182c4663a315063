use Rattle.std.proofs.Common.{◌≡◌, ◌+◌, map, false, subst, arith}
use Rattle.std.proofs.lemmas.Bool.Decides.{nat_tests}
use Rattle.sctp_send.specs.OutstandingFields.{item_meaning}
use Rattle.sctp_send.specs.PartsKept.{OutstandingKept}
use Rattle.sctp_send.specs.inner.Walks.{any_item}
use Rattle.sctp_send.proofs.kept.PastLemmas.{past_item}
use Rattle.sctp_send.proofs.kept.outstanding.Outstanding.is_past.Goals as goal

pub returns : goal.returns
returns c = λ size t on le.
    let s = c.self.inside in
    let d = c.heads_above-heads.result in
    let none : d.front + d.rank ≡ 0 = grind (arith, nat_tests) in
    subst (λ (k : OutstandingKept). any_item t (map (item_meaning size) k.items) ≡ false) c.self.view_is
    (past_item s.entries.items s.by_ticket.first s.by_ticket.pairs.items d c.args.last t size none c.heads_above-heads.ensures.above le)
