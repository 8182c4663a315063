use Rattle.std.proofs.Common.{subst, sym, ap, arith, inl, inr}
use Rattle.sctp_send.specs.SenderKept.{Kept}
use Rattle.sctp_send.specs.SenderStands.{StandsFor, Keeps}
use Rattle.sctp_send.specs.inner.Walks.{is_numbered_fate}
use Rattle.sctp_send.proofs.abandon.AnswerLemmas.{fate_read, answered_unknown, answered_read}
use Rattle.sctp_send.proofs.sender.Sender.abandon.Goals as goal

pub returns-then-at-eq0-clause-answer : goal.returns-then-at-eq0-clause-answer
unfolding StandsFor
returns-then-at-eq0-clause-answer g c = λ v stands.
    (answered_unknown g.F.Framing.format _ v c.args.ticket.0 stands (inl c.if-at-eq0.true)).answer

pub returns-then-at-eq0-clause-step : goal.returns-then-at-eq0-clause-step
unfolding StandsFor
returns-then-at-eq0-clause-step g c = λ v stands.
    rw (answered_unknown g.F.Framing.format _ v c.args.ticket.0 stands (inl c.if-at-eq0.true)).after stands

pub returns-then-at-len-clause-answer : goal.returns-then-at-len-clause-answer
unfolding StandsFor
returns-then-at-len-clause-answer g c = λ v stands.
    let s = c.self.inside in
    let keeps = subst (λ (k : Kept). Keeps g.F.Framing.format k v) (sym c.self.view_is) stands in
    (answered_unknown g.F.Framing.format _ v c.args.ticket.0 keeps (inr (omega arith))).answer

pub returns-then-at-len-clause-step : goal.returns-then-at-len-clause-step
unfolding StandsFor
returns-then-at-len-clause-step g c = λ v stands.
    let s = c.self.inside in
    let keeps = subst (λ (k : Kept). Keeps g.F.Framing.format k v) (sym c.self.view_is) stands in
    rw (answered_unknown g.F.Framing.format _ v c.args.ticket.0 keeps (inr (omega arith))).after stands

pub returns-in-Withdrawn-clause-answer : goal.returns-in-Withdrawn-clause-answer
unfolding StandsFor
returns-in-Withdrawn-clause-answer g c = λ v stands.
    let s = c.self.inside in
    let by = answered_read v c.args.ticket.0 c.self.view_is stands (omega arith) (omega arith) c.get.ensures c.in-Withdrawn.is in
    by.answer

pub returns-in-Withdrawn-clause-step : goal.returns-in-Withdrawn-clause-step
unfolding StandsFor
returns-in-Withdrawn-clause-step g c = λ v stands.
    let s = c.self.inside in
    let by = answered_read v c.args.ticket.0 c.self.view_is stands (omega arith) (omega arith) c.get.ensures c.in-Withdrawn.is in
    rw by.after stands

pub returns-in-Abandoned-clause-answer : goal.returns-in-Abandoned-clause-answer
unfolding StandsFor
returns-in-Abandoned-clause-answer g c = λ v stands.
    let s = c.self.inside in
    let by = answered_read v c.args.ticket.0 c.self.view_is stands (omega arith) (omega arith) c.get.ensures c.in-Abandoned.is in
    by.answer

pub returns-in-Abandoned-clause-step : goal.returns-in-Abandoned-clause-step
unfolding StandsFor
returns-in-Abandoned-clause-step g c = λ v stands.
    let s = c.self.inside in
    let by = answered_read v c.args.ticket.0 c.self.view_is stands (omega arith) (omega arith) c.get.ensures c.in-Abandoned.is in
    rw by.after stands

pub returns-in-Queued-clause-answer : goal.returns-in-Queued-clause-answer
unfolding StandsFor
returns-in-Queued-clause-answer g c = λ v stands.
    let s = c.self.inside in
    let by = answered_read v c.args.ticket.0 c.self.view_is stands (omega arith) (omega arith) c.get.ensures c.in-Queued.is in
    by.0

pub returns-in-Queued-clause-step : goal.returns-in-Queued-clause-step
unfolding StandsFor
returns-in-Queued-clause-step g c = λ v stands.
    let s = c.self.inside in
    let by = answered_read v c.args.ticket.0 c.self.view_is stands (omega arith) (omega arith) c.get.ensures c.in-Queued.is in
    c.take_back.ensures v stands by.1

pub returns-in-Numbered-clause-answer : goal.returns-in-Numbered-clause-answer
unfolding StandsFor
returns-in-Numbered-clause-answer g c = λ v stands.
    let s = c.self.inside in
    let fate = fate_read v c.args.ticket.0 c.self.view_is stands (omega arith) (omega arith) c.get.ensures c.in-Numbered.is in
    c.abandon_numbered.ensures.answer v stands (ap is_numbered_fate fate)

pub returns-in-Numbered-clause-step : goal.returns-in-Numbered-clause-step
unfolding StandsFor
returns-in-Numbered-clause-step g c = λ v stands.
    let s = c.self.inside in
    let fate = fate_read v c.args.ticket.0 c.self.view_is stands (omega arith) (omega arith) c.get.ensures c.in-Numbered.is in
    c.abandon_numbered.ensures.step v stands (ap is_numbered_fate fate)
