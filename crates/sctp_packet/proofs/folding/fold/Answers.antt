use Rattle.std.proofs.Common.{◌≡◌, ℕ, ◌+◌, ◌-◌, ◌%◌, ◌<◌, ◌≤◌, List, arith, length, take, drop, ap, ◌∙◌}
use Rattle.std.specs.Prelude.{slice_index}
use Rattle.std.proofs.lemmas.List.{get_or-take, length-take-le, length-drop}
use borrow.Rule.Slice.PartMut.{put_mid}
use Rattle.sctp_packet.specs.Folding.{IsFolded}
use Rattle.sctp_packet.proofs.BlockLemmas.{part_byte}
use Rattle.sctp_packet.proofs.PairLemmas.{length_written, folded_pair}
use Rattle.sctp_packet.proofs.folding.fold.Goals as goal

pub loop-rest-init : goal.loop-rest-init
loop-rest-init c =
    let near = c.fold_near.ensures.folded c.args.register (omega arith) c.fold_alone.ensures.folded in
    let odd = c.fold_odd.ensures.folded c.args.register (omega arith) near in
    let at = 128 + c.args.ends % 64 in
    let bytes = c.args.bytes.now in
    let long : length (take (c.args.ends - at) (drop at bytes)) ≡ c.args.ends - at = length-take-le (c.args.ends - at) (drop at bytes) (omega (arith, length-drop at bytes, c.requires.within)) in (
      c.fold_odd.ensures.length ∙ (c.fold_near.ensures.length ∙ c.fold_alone.ensures.length),
      odd,
      λ j. omega (arith, c.type_inv.room j),
      omega (arith, long, c.requires.some),
      λ k few. part_byte bytes at (c.args.ends - at) k (omega (arith, few, long)),
      omega arith,
      omega arith,
    )

pub loop-rest-preserved : goal.loop-rest-preserved
loop-rest-preserved c =
    let n = c.loop-rest.at in
    let bytes = c.args.bytes.now in
    let rest = c.loop-rest.rest.now in
    let split = c.split_at.ensures in
    let folded = c.loop-rest.invariant.1 in
    let taken : (k : ℕ) → k < 64 → slice_index c.split_at.result.0.now k ≡ slice_index bytes (n + k) =
    λ k few. ap (λ (xs : List ℕ). slice_index xs k) split.front ∙ (get_or-take 64 rest k 0 few ∙ c.loop-rest.invariant.4 k (omega (arith, few, c.loop-rest-test.true))) in
    let width : n + 216 + 64 - n ≡ 280 = omega arith in
    let within : n + 280 ≤ length c.loop-rest.room = omega (arith, c.loop-rest.invariant.0, c.loop-rest.invariant.3, c.loop-rest-test.true, c.requires.room) in
    let both : IsFolded c.args.register bytes (n + 64) (put_mid n 280 c.loop-rest.room c.fold_pair.new.room) =
    folded_pair c.args.register bytes c.split_at.result.0.now c.loop-rest.room c.fold_pair.new.room n (omega arith) (omega (arith, c.loop-rest.invariant.6)) (omega (arith, within)) c.fold_pair.ensures.length folded taken (rw width at c.fold_pair.ensures.before) (rw width at c.fold_pair.ensures.here) in (
      rw width (length_written c.loop-rest.room c.fold_pair.new.room n within c.fold_pair.ensures.length ∙ c.loop-rest.invariant.0),
      rw width both,
      λ j. omega (arith, c.type_inv.room j),
      omega (arith, split.back_len, c.loop-rest.invariant.3),
      λ k few. split.by_index.2 k 0 ∙ (c.loop-rest.invariant.4 (64 + k) (omega (arith, few, split.back_len)) ∙ ap (slice_index bytes) (let e : n + (64 + k) ≡ n + 64 + k = omega arith in e)),
      omega (arith, c.loop-rest.invariant.5),
      omega (arith, c.loop-rest.invariant.6),
    )

pub returns-clause-folded : goal.returns-clause-folded
returns-clause-folded c =
    let all : c.loop-rest.at ≡ c.args.ends = omega (arith, c.loop-rest.invariant.3, c.loop-rest.invariant.5, c.loop-rest-test.false) in
    rw all at c.loop-rest.invariant.1
