use Rattle.std.proofs.Common.{subst, sym, ◌∙◌, arith}
use Rattle.sctp_send.specs.SenderKept.{Kept}
use Rattle.sctp_send.specs.SenderStands.{StandsFor, Keeps}
use Rattle.sctp_send.proofs.resetting.ResetKept.{keeps_resets, open_waits, answered_by, is_done, is_progress, is_back, is_refused}
use Rattle.sctp_send.proofs.sender.Sender.on_response.Goals as goal

pub returns-then-code-le-PERFORMED : goal.returns-then-code-le-PERFORMED
returns-then-code-le-PERFORMED g c = λ v stands.
    let on = sym (c.is_open.ensures v stands) ∙ c.if-not-is_open.false in
    let waits = open_waits v c.args.number on in
    let same = answered_by v c.args.number c.args.code waits.0 on waits.1 ∙ is_done v c.args.code waits.0 (omega (arith, c.if-code-le-PERFORMED.true)) in
    rw same (c.restart.ensures v waits.0 stands waits.1)

pub returns-then-is_progress : goal.returns-then-is_progress
returns-then-is_progress g c = λ v stands.
    let on = sym (c.is_open.ensures v stands) ∙ c.if-not-is_open.false in
    let waits = open_waits v c.args.number on in
    let code = sym c.is_progress.ensures ∙ c.if-is_progress.true in
    let same = answered_by v c.args.number c.args.code waits.0 on waits.1 ∙ is_progress v c.args.code waits.0 (omega (arith, c.if-code-le-PERFORMED.false)) code in
    rw same (c.keep_asking.ensures v waits.0 stands waits.1)

pub returns-then-is_uncounted : goal.returns-then-is_uncounted
returns-then-is_uncounted g c = λ v stands.
    let on = sym (c.is_open.ensures v stands) ∙ c.if-not-is_open.false in
    let waits = open_waits v c.args.number on in
    let code = sym c.is_progress.ensures ∙ c.if-is_progress.false in
    let back = sym (c.is_uncounted.ensures v waits.0 stands waits.1) ∙ c.if-is_uncounted.true in
    let same = answered_by v c.args.number c.args.code waits.0 on waits.1 ∙ is_back v c.args.code waits.0 (omega (arith, c.if-code-le-PERFORMED.false)) code back in
    rw same (c.go_back.ensures v waits.0 stands waits.1)

pub returns-else-is_uncounted : goal.returns-else-is_uncounted
unfolding StandsFor
returns-else-is_uncounted g c = λ v stands.
    let s = c.self.inside in
    let f = g.F.Framing.format in
    let keeps = subst (λ (k : Kept). Keeps f k v) (sym c.self.view_is) stands in
    let on = sym (c.is_open.ensures v stands) ∙ c.if-not-is_open.false in
    let waits = open_waits v c.args.number on in
    let code = sym c.is_progress.ensures ∙ c.if-is_progress.false in
    let other = sym (c.is_uncounted.ensures v waits.0 stands waits.1) ∙ c.if-is_uncounted.false in
    let same = answered_by v c.args.number c.args.code waits.0 on waits.1 ∙ is_refused v c.args.code waits.0 (omega (arith, c.if-code-le-PERFORMED.false)) code other in
    rw same (keeps_resets f _ v s.told.forward c.refuse.new.self _ keeps (c.refuse.ensures v.streams v.resets waits.0 keeps.resets waits.1) keeps.forward)
