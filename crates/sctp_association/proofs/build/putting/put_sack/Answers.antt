use Rattle.std.proofs.Common.{Bool, [], ◌∷◌, subst}
use Rattle.sctp_model.specs.end.Building.{SackSlot}
use Rattle.sctp_association.specs.Drafted.{PutsAt}
use Rattle.sctp_association.specs.PlainPacket.{still_due}
use Rattle.sctp_association.proofs.build.putting.put_sack.Goals as goal

pub returns-then-not-branch : goal.returns-then-not-branch
returns-then-not-branch c = λ e stands packet.
    let m = c.args.packing.now.marks in
    subst (λ (b : Bool). PutsAt (SackSlot ∷ []) e c.args.packing.now (record { writer = c.put_due_sack.new.writer; marks = record m { sack = still_due b m.sack } }) b)
    c.if-not-branch.true (c.in_ok-put_due_sack.ensures e m stands packet)

pub returns : goal.returns
returns c = λ e stands packet.
    let m = c.args.packing.now.marks in
    subst (λ (b : Bool). PutsAt (SackSlot ∷ []) e c.args.packing.now (record { writer = c.put_due_sack.new.writer; marks = record m { sack = still_due b m.sack } }) b)
    c.if-not-branch.false (c.in_ok-put_due_sack.ensures e m stands packet)
