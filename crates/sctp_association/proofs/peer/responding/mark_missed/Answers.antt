use Rattle.std.proofs.Common.{◌≤◌, arith, sym, subst}
use Rattle.sctp_model.specs.sender.SenderView.{SenderView}
use Rattle.sctp_model.specs.end.Misses.{is_missed}
use Rattle.sctp_congestion.specs.PaceStands.{missed_at}
use Rattle.sctp_association.specs.TrafficStands.{TrafficStands}
use Rattle.sctp_association.proofs.PassedLemmas.{none_above, none_missed, none_marked}
use Rattle.sctp_association.proofs.peer.responding.mark_missed.Goals as goal

pub returns-then-below-cum-clause-lost : goal.returns-then-below-cum-clause-lost
returns-then-below-cum-clause-lost c = λ f s r p stands cum paces.
    let low : c.missed_end-below.result ≤ c.args.cum = omega arith in
    let is = c.missed_end-below.ensures f s.cum c.args.cum p paces (omega (arith, cum)) in
    let none = none_above s.cum c.args.cum c.missed_end-below.result (is_missed p.misses) (missed_at c.args.pace.now) (omega (arith, low, cum)) is in
    sym (none_missed f s (is_missed p.misses) (c.reached.ensures f s r stands) none)

pub returns-then-below-cum-clause-marked : goal.returns-then-below-cum-clause-marked
returns-then-below-cum-clause-marked c = λ f s r p stands cum paces.
    let low : c.missed_end-below.result ≤ c.args.cum = omega arith in
    let is = c.missed_end-below.ensures f s.cum c.args.cum p paces (omega (arith, cum)) in
    let none = none_above s.cum c.args.cum c.missed_end-below.result (is_missed p.misses) (missed_at c.args.pace.now) (omega (arith, low, cum)) is in
    subst (λ (x : SenderView). TrafficStands c.args.traffic.now f x r) (sym (none_marked f s (is_missed p.misses) (c.reached.ensures f s r stands) none)) stands

pub returns-clause-lost : goal.returns-clause-lost
returns-clause-lost c = λ f s r p stands cum paces. c.mark_below.ensures.lost f s r p stands (c.missed_end-below.ensures f s.cum c.args.cum p paces (omega (arith, cum)))

pub returns-clause-marked : goal.returns-clause-marked
returns-clause-marked c = λ f s r p stands cum paces. c.mark_below.ensures.marked f s r p stands (c.missed_end-below.ensures f s.cum c.args.cum p paces (omega (arith, cum)))
