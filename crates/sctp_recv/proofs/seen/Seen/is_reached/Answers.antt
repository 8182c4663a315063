use Rattle.std.proofs.Common.{◌≡◌, suc, ◌-◌, ◌<◌, nat_le, false, length, refl, ap, ◌∙◌, subst, arith}
use Rattle.std.proofs.lemmas.Bool.Decides.{nat_tests}
use Rattle.sctp_recv.specs.Runs.{IsPlace, begins_by, in_runs}
use Rattle.sctp_recv.proofs.RunLemmas.{held_at, held_nowhere, none_after}
use Rattle.sctp_recv.proofs.seen.Seen.is_reached.Goals as goal

pub returns-then-index-self-eq1 : goal.returns-then-index-self-eq1
returns-then-index-self-eq1 c =
    let cum = c.self.inside.cumulative in
    let next : c.args.index ≡ suc cum = let high = c.if-index-self.false in omega (arith, high, c.if-index-self-eq1.true) in
    let above : nat_le c.args.index cum ≡ false = let high = c.if-index-self.false in grind (arith, high, nat_tests) in
    let none : in_runs c.self.inside.runs.items c.args.index ≡ false = ap (in_runs c.self.inside.runs.items) next ∙ none_after cum c.self.inside.runs.items c.self.invariant.runs in
    rw (← c.self.view_is) (rw (above, none) refl)

pub returns-in-0 : goal.returns-in-0
returns-in-0 c =
    let runs = c.self.inside.runs.items in
    let place = subst (IsPlace (begins_by c.args.index) runs) c.in-0.is (c.upto.ensures.place c.self.invariant.runs.spaced) in
    let nowhere = held_nowhere runs c.args.index place in
    let above : nat_le c.args.index c.self.inside.cumulative ≡ false = let high = c.if-index-self.false in grind (arith, high, nat_tests) in
    rw (← c.self.view_is) (rw (above, nowhere) refl)

pub returns-in_default : goal.returns-in_default
returns-in_default c =
    let runs = c.self.inside.runs.items in
    let next : c.upto.result ≡ suc (c.upto.result - 1) = omega (arith, c.in_default) in
    let less : c.upto.result - 1 < length runs = omega (arith, next, c.upto.ensures.bound) in
    let place = subst (IsPlace (begins_by c.args.index) runs) next (c.upto.ensures.place c.self.invariant.runs.spaced) in
    let held = held_at runs c.args.index (c.upto.result - 1) c.get.result.now c.self.invariant.runs.spaced less c.get.ensures place in
    let above : nat_le c.args.index c.self.inside.cumulative ≡ false = let high = c.if-index-self.false in grind (arith, high, nat_tests) in
    rw (← c.self.view_is) (rw (above, held) c.has.ensures)
