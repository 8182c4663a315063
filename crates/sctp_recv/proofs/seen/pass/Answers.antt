use Rattle.std.proofs.Common.{◌≡◌, ℕ, suc, ◌+◌, ◌-◌, ◌<◌, length, refl, drop, ap, sym, ◌∙◌, subst, arith}
use Rattle.sctp_recv.specs.Runs.{IsPlace, begins_by}
use Rattle.sctp_recv.specs.SeenKept.{seen_of, IsAdvanced}
use Rattle.sctp_recv.proofs.RunLemmas.{dropped_one}
use Rattle.sctp_recv.proofs.RunBounds.{advanced_none, advanced_over}
use Rattle.sctp_recv.proofs.seen.pass.Goals as goal
use Rattle.sctp_recv.proofs.seen.pass.Goals.{in-0, in_default}

pub loop-init : goal.loop-init
loop-init c = record { left = refl }

pub loop-preserved : goal.loop-preserved
loop-preserved c =
    let runs = c.args.runs.now.items in
    let next : suc c.loop.counter ≡ c.loop.counter + 1 = omega arith in
    record { left = c.pop_front.ensures.rest ∙ ap (drop 1) c.loop.invariant.left ∙ dropped_one runs c.loop.counter ∙ ap (λ (n : ℕ). drop n runs) next }

pub returns : goal.returns
returns c =
    let runs = c.args.runs.now.items in
    let end : c.loop.counter ≡ c.upto-passed.result = omega (arith, c.loop.auto.counter-end, c.loop-test.false) in
    let left = c.give_back.ensures ∙ c.loop.invariant.left ∙ ap (λ (n : ℕ). drop n runs) end in
    let place = c.upto-passed.ensures.place c.requires in
    elim c.match-passed.branch [
      | in-0 w ↦
          let all : drop c.upto-passed.result runs ≡ runs = ap (λ (n : ℕ). drop n runs) w.in-0.is in
          subst (IsAdvanced c.args.index runs) (λ i. seen_of (sym w.cumulative-is i) (sym (left ∙ all) i)) (advanced_none runs c.args.index c.requires (subst (IsPlace (begins_by c.args.index) runs) w.in-0.is place))
      | in_default w ↦
          let next : c.upto-passed.result ≡ suc (c.upto-passed.result - 1) = omega (arith, w.in_default) in
          let less : c.upto-passed.result - 1 < length runs = omega (arith, next, c.upto-passed.ensures.bound) in
          let over = advanced_over runs c.args.index (c.upto-passed.result - 1) w.get.result.now c.requires less w.get.ensures (subst (IsPlace (begins_by c.args.index) runs) next place) in
          subst (IsAdvanced c.args.index runs) (λ i. seen_of (sym (w.cumulative-is ∙ w.max.ensures) i) (sym (left ∙ ap (λ (n : ℕ). drop n runs) next) i)) over
    ]
