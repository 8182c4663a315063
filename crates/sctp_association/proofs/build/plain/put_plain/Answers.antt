use Rattle.std.proofs.Common.{Bool, true, false, [], ◌∷◌, refl, subst}
use Rattle.sctp_model.specs.end.Building.{SackSlot}
use Rattle.sctp_association.specs.Drafted.{PutsAt}
use Rattle.sctp_association.specs.PlainPacket.{still_due, fragments_alone, plain_marks}
use Rattle.sctp_association.proofs.BuildLemmas.{full_packet, whole_so}
use Rattle.sctp_association.proofs.PlainLemmas.{plain_at, all_slots, plain_fills, starts_alone}
use Rattle.sctp_association.proofs.build.plain.put_plain.Goals as goal

pub returns-then-not-branch-clause-packed : goal.returns-then-not-branch-clause-packed
returns-then-not-branch-clause-packed c = λ e t g d phase pace clock plain calm stands empty.
    let one = subst (λ (b : Bool). PutsAt (SackSlot ∷ []) e (plain_at d c.args.writer.now c.args.sack false) (plain_at d c.put_due_sack.new.writer (still_due b c.args.sack) false) b)
    c.if-not-branch.true (c.in_ok-put_due_sack.ensures e (plain_marks d c.args.sack false) stands empty.packet) in
    let puts = all_slots e d plain calm c.args.writer.now c.put_due_sack.new.writer c.args.sack c.args.sack false empty.packet one in
    let packed = full_packet e t g _ _ false c.filled_none.result phase calm.unasked empty refl puts c.filled_none.ensures in
    whole_so e (plain_at d c.put_due_sack.new.writer c.args.sack false) c.filled_none.result _ _ packed stands pace

pub returns-clause-packed : goal.returns-clause-packed
returns-clause-packed c = λ e t g d phase pace clock plain calm stands empty.
    let one = subst (λ (b : Bool). PutsAt (SackSlot ∷ []) e (plain_at d c.args.writer.now c.args.sack false) (plain_at d c.put_due_sack.new.writer (still_due b c.args.sack) false) b)
    c.if-not-branch.false (c.in_ok-put_due_sack.ensures e (plain_marks d c.args.sack false) stands empty.packet) in
    let puts = all_slots e d plain calm c.args.writer.now c.put_due_sack.new.writer c.args.sack false true empty.packet one in
    let x = c.in_ok-fragments.fragments in
    plain_fills e t g d c.args.writer.now c.put_due_sack.new.writer c.fill_by.new.writer c.args.sack x.some c.fill_by.new.traffic x.filled phase c.fill_by.new.pace calm empty puts
    (c.in_ok-fragments.ensures.filled e (plain_marks d false false) (fragments_alone x.some) stands pace clock puts.packet (starts_alone x.some))
    (c.in_ok-fragments.ensures.paced e (plain_marks d false false) stands pace clock puts.packet)
