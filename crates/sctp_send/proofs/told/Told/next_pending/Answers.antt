use Rattle.std.proofs.Common.{sym, subst}
use Rattle.sctp_send.specs.PartsKept.{OutstandingKept}
use Rattle.sctp_send.specs.SenderStands.{Keeps}
use Rattle.sctp_send.specs.inner.Asking.{IsAsked}
use Rattle.sctp_send.specs.inner.Stocking.{bare, stocked}
use Rattle.sctp_send.proofs.fill.PutLemmas.{pending_asked, nothing_pending}
use Rattle.sctp_send.proofs.told.Told.next_pending.Goals as goal

pub returns-then-not-is_let_in-clause-goes : goal.returns-then-not-is_let_in-clause-goes
returns-then-not-is_let_in-clause-goes g c = λ v p k room.
    let x = c.in-Some.pending in
    let asked = pending_asked g.F.Framing.format (bare c.args.self.now) v p c.args.stock.now c.first_pending.new.entries x.at x.again c.get-entry.result.now c.deref.result.now c.is_let_in.result k
    c.in-Some.ensures.same c.requires.window c.in-Some.ensures.found c.in-Some.ensures.within c.get-entry.ensures c.deref.ensures (λ h. c.is_let_in.ensures.asked v p _ _ h room) in
    subst (IsAsked g.F.Framing.format v p) c.if-not-is_let_in.true asked.1

pub returns-clause-goes : goal.returns-clause-goes
returns-clause-goes g c = λ v p k room.
    let x = c.in-Some.pending in
    let asked = pending_asked g.F.Framing.format (bare c.args.self.now) v p c.args.stock.now c.first_pending.new.entries x.at x.again c.get-entry.result.now c.deref.result.now c.is_let_in.result k
    c.in-Some.ensures.same c.requires.window c.in-Some.ensures.found c.in-Some.ensures.within c.get-entry.ensures c.deref.ensures (λ h. c.is_let_in.ensures.asked v p _ _ h room) in
    (asked.0, subst (IsAsked g.F.Framing.format v p) c.if-not-is_let_in.false asked.1)

pub returns-in_default-clause-goes : goal.returns-in_default-clause-goes
returns-in_default-clause-goes g c = λ v p k room.
    let f = g.F.Framing.format in
    let s = bare c.args.self.now in
    let d = c.args.stock.now in
    let now = subst (λ (w : OutstandingKept). Keeps f (stocked s (record d { outstanding = w })) v) (sym c.in_default.ensures.same) k in
    c.next_new.ensures.goes v p now room (nothing_pending f s v d k c.requires.window c.in_default.ensures.found)
