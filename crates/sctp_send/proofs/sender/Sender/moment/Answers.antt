use Rattle.std.proofs.Common.{◌∙◌, List, subst, sym, ap, arith, inl, inr}
use Rattle.std.specs.Prelude.{option_and_then}
use Rattle.sctp_model.specs.sender.SenderView.{Queued as QueuedMessage}
use Rattle.sctp_send.specs.SenderKept.{Kept}
use Rattle.sctp_send.specs.SenderStands.{StandsFor, Keeps}
use Rattle.sctp_send.specs.inner.Walks.{is_numbered_fate}
use Rattle.sctp_send.specs.inner.Dues.{has_come}
use Rattle.sctp_send.proofs.abandon.AnswerLemmas.{fate_read}
use Rattle.sctp_send.proofs.abandon.UntilLemmas.{with_ticket}
use Rattle.sctp_send.proofs.abandon.MomentKept.{unknown_late, LateBy, late_by, waiting_moment}
use Rattle.sctp_send.proofs.sender.Sender.moment.Goals as goal

pub returns-then-at-eq0 : goal.returns-then-at-eq0
unfolding StandsFor
returns-then-at-eq0 g c = λ v stands now. unknown_late g.F.Framing.format _ v now c.args.ticket stands (inl c.if-at-eq0.true)

pub returns-then-at-len : goal.returns-then-at-len
unfolding StandsFor
returns-then-at-len g c = λ v stands now.
    let s = c.self.inside in
    let keeps = subst (λ (k : Kept). Keeps g.F.Framing.format k v) (sym c.self.view_is) stands in
    unknown_late g.F.Framing.format _ v now c.args.ticket keeps (inr (omega arith))

pub returns-in-Withdrawn : goal.returns-in-Withdrawn
unfolding StandsFor
returns-in-Withdrawn g c = λ v stands now.
    let s = c.self.inside in
    let fate = fate_read v c.args.ticket c.self.view_is stands (omega arith) (omega arith) c.get.ensures c.in-Withdrawn.is in
    subst (LateBy v c.args.ticket) fate (late_by v c.args.ticket) now

pub returns-in-Abandoned : goal.returns-in-Abandoned
unfolding StandsFor
returns-in-Abandoned g c = λ v stands now.
    let s = c.self.inside in
    let fate = fate_read v c.args.ticket c.self.view_is stands (omega arith) (omega arith) c.get.ensures c.in-Abandoned.is in
    subst (LateBy v c.args.ticket) fate (late_by v c.args.ticket) now

pub returns-in-Queued : goal.returns-in-Queued
unfolding StandsFor
returns-in-Queued g c = λ v stands now.
    let s = c.self.inside in
    let keeps = subst (λ (k : Kept). Keeps g.F.Framing.format k v) (sym c.self.view_is) stands in
    let fate = fate_read v c.args.ticket c.self.view_is stands (omega arith) (omega arith) c.get.ensures c.in-Queued.is in
    let by = subst (LateBy v c.args.ticket) fate (late_by v c.args.ticket) in
    let found = c.until_waiting.ensures s.told.fragment ∙ ap (λ (qs : List QueuedMessage). option_and_then (λ q. q.message.until) (with_ticket c.args.ticket qs)) keeps.holds.queue in
    waiting_moment g.F.Framing.format v now c.args.ticket keeps.reached by ∙ ap (has_come now) (sym found)

pub returns-in-Numbered : goal.returns-in-Numbered
unfolding StandsFor
returns-in-Numbered g c = λ v stands now.
    let s = c.self.inside in
    let fate = fate_read v c.args.ticket c.self.view_is stands (omega arith) (omega arith) c.get.ensures c.in-Numbered.is in
    c.moment_numbered.ensures v stands (ap is_numbered_fate fate) now
