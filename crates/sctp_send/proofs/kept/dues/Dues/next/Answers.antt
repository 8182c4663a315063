use Rattle.std.proofs.Common.{◌^◌, ◌<◌, subst, arith}
use Rattle.sctp_send.specs.PartsKept.{DuesKept}
use Rattle.sctp_send.specs.inner.Dues.{due_at}
use Rattle.sctp_send.proofs.kept.MomentLemmas.{due_above}
use Rattle.sctp_send.proofs.kept.dues.Dues.next.Goals as goal

pub returns-in-Some-clause-before : goal.returns-in-Some-clause-before
returns-in-Some-clause-before c = λ t lo hi.
    let s = c.self.inside in
    subst (λ (w : DuesKept). c.args.now < due_at w.passed w.moments t) c.self.view_is
    (due_above s.passed s.moments.items c.args.now t (omega (arith, c.ranges.now.fits)) (λ k same within. c.in-Some.ensures.before k (2 ^ 64) (omega (arith, same, lo, c.saturating_sub-from.ensures)) (omega (arith, same, hi))))

pub returns-in-None-clause-none : goal.returns-in-None-clause-none
returns-in-None-clause-none c = λ t lo.
    let s = c.self.inside in
    subst (λ (w : DuesKept). c.args.now < due_at w.passed w.moments t) c.self.view_is
    (due_above s.passed s.moments.items c.args.now t (omega (arith, c.ranges.now.fits)) (λ k same within. c.in-None.ensures.none k (2 ^ 64) (omega (arith, same, lo, c.saturating_sub-from.ensures)) within))
