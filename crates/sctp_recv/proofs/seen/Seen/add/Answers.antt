use Rattle.std.proofs.Common.{◌≡◌, nat_le, false, inl, inr, refl, sym, subst, arith}
use Rattle.std.proofs.lemmas.Bool.{cases_Bool}
use Rattle.std.proofs.lemmas.Bool.Decides.{nat_tests}
use Rattle.sctp_recv.specs.Runs.{in_runs}
use Rattle.sctp_recv.specs.SeenKept.{IsKept, seen_of, is_reached}
use Rattle.sctp_recv.proofs.ResultLemmas.{if_err}
use Rattle.sctp_recv.proofs.SeenLemmas.{kept_gained, records_gained, either_way, on_ok}
use Rattle.sctp_recv.proofs.seen.Seen.add.Goals as goal

pub invariant_of-self-2 : goal.invariant_of-self-2
invariant_of-self-2 c =
    let cum = c.self.inside.cumulative in
    let i = c.args.index in
    let old = c.self.inside.runs.items in
    let new = c.insert.new.runs.items in
    let is = c.saturating_sub-above.ensures in
    let near = c.if-above-from.false in
    elim (cases_Bool (in_runs old i)) [
      | inl there ↦ either_way c.insert.result (IsKept cum) old new (on_ok c.insert.result _ _ (λ same. subst (IsKept cum) (sym (same c.self.invariant.runs.spaced there)) c.self.invariant) c.insert.ensures.there) c.insert.ensures.refused c.self.invariant
      | inr none ↦ (
          let past : nat_le i cum ≡ false = let some = c.if-above-eq0.false in grind (arith, is, some, nat_tests) in
          let fresh : is_reached (seen_of cum old) i ≡ false = rw (past, none) refl in
          either_way c.insert.result (IsKept cum) old new
          (on_ok c.insert.result _ _ (kept_gained cum i old new c.self.invariant fresh (λ e. c.if-above-eq1.false (omega (arith, e, is))) (omega (arith, is, near, c.from.ensures))) c.insert.ensures.inserted) c.insert.ensures.refused c.self.invariant
          )
    ]

pub returns-clause-recorded : goal.returns-clause-recorded
returns-clause-recorded c =
    let s = c.self.inside in
    rw (← c.self.view_is) (on_ok c.insert.result _ _ (λ gain fresh near. records_gained s.cumulative c.args.index s.runs.items c.insert.new.runs.items fresh (λ e. c.if-above-eq1.false (omega (arith, e, c.saturating_sub-above.ensures))) gain) c.insert.ensures.inserted)

pub returns-clause-memory : goal.returns-clause-memory
returns-clause-memory c = λ room. let spare = rw (← c.self.view_is) at room in c.insert.ensures.memory (grind (arith, spare, nat_tests))

pub returns-clause-gap : goal.returns-clause-gap
returns-clause-gap c =
    let is = c.saturating_sub-above.ensures in
    let none = c.if-above-eq0.false in
    let far = c.if-above-eq1.false in
    rw (← c.self.view_is) (if_err c.insert.result (omega (arith, is, none, far)))
