use Rattle.std.proofs.Common.{ℕ, ◌≡◌, ◌+◌, ◌<◌, ◌^◌, List, length, inl, inr, ◌∙◌, ap, arith}
use Rattle.std.proofs.lemmas.Bool.{cases_eq}
use Rattle.std.proofs.lemmas.List.{get_or_default}
use Rattle.sctp_send.specs.PartsKept.{DuesKept}
use Rattle.sctp_send.specs.inner.Dues.{due_at}
use Rattle.sctp_send.proofs.kept.MomentLemmas.{due_there, due_set_same, due_set_other}
use Rattle.sctp_send.proofs.kept.dues.Dues.lower.Goals as goal

pub returns-in-Some-clause-each : goal.returns-in-Some-clause-each
returns-in-Some-clause-each c = λ t now lt.
    let p = c.args.self.now.passed in
    let ms = c.self.inside.moments.items in
    let some = c.in-Some.ensures.some in
    let at = c.in-Some.at in
    let same = ap (λ (w : DuesKept). length w.moments) c.self.view_is in
    let within : at < length ms = omega (arith, same, some.0) in
    let is = ap (λ (ns : List ℕ). due_at p ns t) c.set.ensures in
    let was = ap (λ (w : DuesKept). due_at p w.moments t) c.self.view_is in
    elim (cases_eq t c.args.ticket) [
      | inr other ↦ let stays = due_set_other p ms at c.min-least.result t (λ here. other (omega (arith, here, some.1))) in omega (arith, lt, is, was, stays)
      | inl here ↦
          let own : t ≡ p + 1 + at = here ∙ some.1 in
          let new = due_set_same p ms at c.min-least.result t own within in
          let old = ap (due_at p ms) own ∙ due_there p ms at in
          let read = c.get.ensures ∙ get_or_default ms at c.get.result (2 ^ 64) within in
          omega (arith, lt, is, was, new, old, read, c.min-least.ensures)
    ]

pub returns-in-Some-clause-here : goal.returns-in-Some-clause-here
returns-in-Some-clause-here c = λ given past.
    let p = c.args.self.now.passed in
    let ms = c.self.inside.moments.items in
    let some = c.in-Some.ensures.some in
    let same = ap (λ (w : DuesKept). length w.moments) c.self.view_is in
    let is = ap (λ (ns : List ℕ). due_at p ns c.args.ticket) c.set.ensures in
    let new = due_set_same p ms c.in-Some.at c.min-least.result c.args.ticket some.1 (omega (arith, same, some.0)) in
    omega (arith, is, new, c.min-least.ensures)
