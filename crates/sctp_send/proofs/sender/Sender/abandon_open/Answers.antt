use Rattle.std.proofs.Common.{subst, sym, ap, arith, inl, inr}
use Rattle.sctp_send.specs.SenderKept.{Kept}
use Rattle.sctp_send.specs.SenderStands.{StandsFor, Keeps}
use Rattle.sctp_send.specs.inner.Walks.{is_numbered_fate}
use Rattle.sctp_send.proofs.abandon.AnswerLemmas.{fate_read, answered_unknown, answered_read}
use Rattle.sctp_send.proofs.sender.Sender.abandon_open.Goals as goal

pub returns-then-at-eq0 : goal.returns-then-at-eq0
unfolding StandsFor
returns-then-at-eq0 g c = λ v stands may.
    rw (answered_unknown g.F.Framing.format _ v c.args.ticket stands (inl c.if-at-eq0.true)).after stands

pub returns-then-at-len : goal.returns-then-at-len
unfolding StandsFor
returns-then-at-len g c = λ v stands may.
    let s = c.self.inside in
    let keeps = subst (λ (k : Kept). Keeps g.F.Framing.format k v) (sym c.self.view_is) stands in
    rw (answered_unknown g.F.Framing.format _ v c.args.ticket keeps (inr (omega arith))).after stands

pub returns-in-Withdrawn : goal.returns-in-Withdrawn
unfolding StandsFor
returns-in-Withdrawn g c = λ v stands may.
    let s = c.self.inside in
    let by = answered_read v c.args.ticket c.self.view_is stands (omega arith) (omega arith) c.get.ensures c.in-Withdrawn.is in
    rw by.after stands

pub returns-in-Abandoned : goal.returns-in-Abandoned
unfolding StandsFor
returns-in-Abandoned g c = λ v stands may.
    let s = c.self.inside in
    let by = answered_read v c.args.ticket c.self.view_is stands (omega arith) (omega arith) c.get.ensures c.in-Abandoned.is in
    rw by.after stands

pub returns-in-Queued : goal.returns-in-Queued
unfolding StandsFor
returns-in-Queued g c = λ v stands may.
    let s = c.self.inside in
    let by = answered_read v c.args.ticket c.self.view_is stands (omega arith) (omega arith) c.get.ensures c.in-Queued.is in
    c.take_back.ensures v stands by.1

pub returns-in-Numbered : goal.returns-in-Numbered
unfolding StandsFor
returns-in-Numbered g c = λ v stands may.
    let s = c.self.inside in
    let fate = fate_read v c.args.ticket c.self.view_is stands (omega arith) (omega arith) c.get.ensures c.in-Numbered.is in
    c.give_up.ensures v stands (ap is_numbered_fate fate) may
