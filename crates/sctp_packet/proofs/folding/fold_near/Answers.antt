use Rattle.std.proofs.Common.{◌≡◌, ℕ, ◌+◌, ◌*◌, refl, arith, ◌∙◌, subst}
use Rattle.sctp_packet.specs.Folding.{IsFolded}
use Rattle.sctp_packet.proofs.StartLemmas.{folded_near}
use Rattle.sctp_packet.proofs.folding.fold_near.Goals as goal

pub loop-place-init : goal.loop-place-init
loop-place-init c = (refl, λ r small folded. folded)

pub loop-place-preserved : goal.loop-place-preserved
loop-place-preserved c =
    let n = 8 * c.loop-place.place in
    let more : 8 * (c.loop-place.place + 1) ≡ n + 8 = omega arith in
    let some = c.loop-place.auto.place in (
      c.put.ensures.length ∙ c.loop-place.invariant.0,
      λ r small first.
          let folded : IsFolded r c.args.bytes.now (n + 8) c.put.new.bytes =
          folded_near r c.args.bytes.now c.loop-place.room c.put.new.bytes n c.word.result c.word-near.result small (omega arith) (omega arith) (c.loop-place.invariant.1 r small first) c.word.ensures c.word-near.ensures c.put.ensures.before c.put.ensures.here c.put.ensures.behind in
          rw more folded,
    )

pub returns-clause-folded : goal.returns-clause-folded
returns-clause-folded c = λ r small first.
    let end : 8 * c.loop-place.place ≡ 128 = omega (arith, c.loop-place-test.false, c.loop-place.auto.place) in
    subst (λ (n : ℕ). IsFolded r c.args.bytes.now n c.loop-place.room) end (c.loop-place.invariant.1 r small first)
