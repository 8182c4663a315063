use Rattle.std.proofs.Common.{◌≡◌, ◌∙◌, ◌+◌, ℕ, ◌<◌, ◌≤◌, length, ap, sym, subst, arith}
use Rattle.sctp_send.specs.PartsKept.{DuesKept}
use Rattle.sctp_send.specs.OutstandingFields.{message_meaning}
use Rattle.sctp_send.specs.inner.Counting.{moment_from}
use Rattle.std.specs.Prelude.{Some}
use Rattle.sctp_send.specs.inner.Dues.{due_at, AreWoken}
use Rattle.sctp_send.specs.declared.kept.message.Message.{Message as MessageFields}
use Rattle.sctp_send.proofs.sack.WakeLemmas.{woken_more}
use Rattle.sctp_send.proofs.sack.waking.wake.Goals as goal

pub loop-at-preserved : goal.loop-at-preserved
loop-at-preserved c =
    let before = c.loop-at.invariant in
    let old = c.loop-at.dues.moments in
    let new = c.lower.new.self.moments in
    let each = subst (λ (p : ℕ). (t now : ℕ) → now < due_at p new t → now < due_at p old t) before.passed c.lower.ensures.each in
    let ticket = ap (λ (m : MessageFields). m.ticket) c.deref.ensures in
    let moment = c.moment_of.ensures 1 ∙ ap (λ (m : MessageFields). moment_from (Some (message_meaning 1 m))) c.deref-in-loop-at.ensures in
    let here = subst (λ (p : ℕ). c.deref.result.now.ticket ≤ p + length old → p < c.deref.result.now.ticket → due_at p new c.deref.result.now.ticket ≤ c.moment_of.result) before.passed c.lower.ensures.here in
    record {
      passed = c.lower.ensures.passed ∙ before.passed;
      long = c.lower.ensures.long ∙ before.long;
      each = λ t now lt. before.each t now (each t now lt);
      here = woken_more c.args.dues.now.passed old new c.args.outstanding.now.items c.loop-at.at c.get-entry.result.now c.deref.result.now.ticket c.moment_of.result before.here c.lower.ensures.long each here c.get-entry.ensures ticket moment;
    }

pub returns-clause-each : goal.returns-clause-each
returns-clause-each c = λ t now lt. c.loop-at.invariant.each t now (subst (λ (w : DuesKept). now < due_at c.args.dues.now.passed w.moments t) c.awake.ensures lt)

pub returns-clause-here : goal.returns-clause-here
returns-clause-here c =
    let end : c.loop-at.at ≡ length c.args.outstanding.now.items = omega (arith, c.loop-at-test.false, c.len-at-end.ensures, c.loop-at.auto.at-end) in
    subst (λ (w : DuesKept). AreWoken c.args.dues.now.passed w.moments c.args.outstanding.now.items (length c.args.outstanding.now.items)) (sym c.awake.ensures)
    (subst (λ (n : ℕ). AreWoken c.args.dues.now.passed c.loop-at.dues.moments c.args.outstanding.now.items n) end c.loop-at.invariant.here)
