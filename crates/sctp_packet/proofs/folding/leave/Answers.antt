use Rattle.std.proofs.Common.{◌≡◌, ◌+◌, ◌-◌, ◌*◌, refl, arith, ap, ◌∙◌}
use Rattle.std.specs.Prelude.{slice_index}
use Rattle.std.proofs.lemmas.List.{get_or-drop}
use Rattle.sctp_packet.specs.Folding.{FRONT}
use Rattle.sctp_packet.proofs.RoomLemmas.{left_more}
use Rattle.sctp_packet.proofs.folding.leave.Goals as goal

pub loop-turn-init : goal.loop-turn-init
loop-turn-init c = (refl, λ i high low. absurd (omega (arith, high, low)), λ j low. refl, λ j. omega (arith, c.type_inv.room j))

pub loop-turn-preserved : goal.loop-turn-preserved
loop-turn-preserved c =
    let turn = c.loop-turn.turn in
    let at = c.args.ends + (224 - 32 * (turn + 1)) in
    let more : c.args.ends + (224 - 32 * turn) ≡ at + 32 = omega (arith, c.loop-turn-test.true) in
    let kept = c.loop-turn.invariant in
    let block = c.fold_block.ensures in (
      block.length ∙ kept.0,
      left_more c.args.bytes.now c.args.room.now c.loop-turn.room c.fold_block.new.room at (c.args.ends + 224) (rw more at kept.1) (rw more at kept.2) block.here block.behind,
      λ j low. block.before j low ∙ kept.2 j (omega (arith, low, more)),
      λ j. omega (arith, c.type_inv.room j),
    )

pub fold_block-requires-clause-zeros : goal.fold_block-requires-clause-zeros
fold_block-requires-clause-zeros c = λ j high low. c.loop-turn.invariant.2 j (omega (arith, low, c.loop-turn-test.true)) ∙ c.requires.empty j (omega (arith, high))

pub returns-clause-left : goal.returns-clause-left
returns-clause-left c = λ i few.
    let place : 216 + c.args.ends + i ≡ FRONT + (c.args.ends + i) = omega arith in
    get_or-drop (216 + c.args.ends) c.loop-turn.room i 0 ∙ (ap (slice_index c.loop-turn.room) place ∙ c.loop-turn.invariant.1 (c.args.ends + i) (omega (arith, c.loop-turn-test.false)) (omega (arith, few)))

pub returns-clause-bytes : goal.returns-clause-bytes
returns-clause-bytes c = c.loop-turn.invariant.3
