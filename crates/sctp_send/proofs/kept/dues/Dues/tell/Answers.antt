use Rattle.std.proofs.Common.{◌≡◌, ℕ, ◌+◌, List, inl, length, sym, ◌∙◌, ap, arith}
use Rattle.sctp_send.specs.PartsKept.{DuesKept}
use Rattle.sctp_send.specs.inner.Dues.{due_at}
use Rattle.sctp_send.proofs.kept.MomentLemmas.{due_set_same, due_set_other}
use Rattle.sctp_send.proofs.kept.dues.Dues.tell.Goals as goal

pub returns-in-Some-clause-here : goal.returns-in-Some-clause-here
returns-in-Some-clause-here c = λ now lt.
    let s = c.self.inside in
    let p = c.args.self.now.passed in
    let some = c.in-Some.ensures.some in
    let same = ap (λ (w : DuesKept). length w.moments) c.self.view_is in
    let place : c.args.ticket ≡ p + 1 + c.in-Some.at = some.1 ∙ ap (λ (w : DuesKept). w.passed + 1 + c.in-Some.at) c.self.view_is in
    let set_is = ap (λ (ms : List ℕ). due_at p ms c.args.ticket) c.set.ensures in
    let is = due_set_same p s.moments.items c.in-Some.at c.moment_in.result c.args.ticket place (omega (arith, same, some.0)) in
    inl (omega (arith, place), omega (arith, set_is, is, lt, c.moment_in.ensures))

pub returns-in-Some-clause-others : goal.returns-in-Some-clause-others
returns-in-Some-clause-others c = λ t other.
    let s = c.self.inside in
    let p = c.args.self.now.passed in
    let place : c.args.ticket ≡ p + 1 + c.in-Some.at = c.in-Some.ensures.some.1 ∙ ap (λ (w : DuesKept). w.passed + 1 + c.in-Some.at) c.self.view_is in
    ap (λ (ms : List ℕ). due_at p ms t) c.set.ensures ∙ due_set_other p s.moments.items c.in-Some.at c.moment_in.result t (λ same. other (same ∙ sym place)) ∙ ap (λ (w : DuesKept). due_at p w.moments t) c.self.view_is
