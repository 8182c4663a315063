use Rattle.std.proofs.Common.{Bool, true, false, [], ◌∷◌, subst}
use Rattle.sctp_model.specs.wire.Chunk.{Sack}
use Rattle.sctp_model.specs.end.EndView.{format_of}
use Rattle.sctp_model.specs.end.Building.{SackSlot}
use Rattle.sctp_association.specs.Drafted.{PutsAt}
use Rattle.sctp_association.specs.declared.build.packing.Marks.{Marks}
use Rattle.sctp_association.specs.declared.build.packing.Packing.{Packing}
use Rattle.sctp_association.proofs.PutLemmas.{not_due, stays_out, goes_in, acknowledges, sack_left}
use Rattle.sctp_association.proofs.build.putting.put_due_sack.Goals as goal

pub returns-then-not-sack : goal.returns-then-not-sack
returns-then-not-sack c = λ e m stands packet.
    let p : Packing = record { writer = c.args.writer.now; marks = record m { sack = c.args.sack } } in
    subst (λ (b : Bool). PutsAt (SackSlot ∷ []) e p (record { writer = c.args.writer.now; marks = record m { sack = b } }) true) c.if-not-sack.true
    (not_due SackSlot e p c.if-not-sack.true packet)

pub returns-then-not-branch : goal.returns-then-not-branch
returns-then-not-branch c = λ e m stands packet.
    let n : Marks = record m { sack = c.args.sack } in
    let w = c.in_ok-put_told.ensures (format_of e) e.sender e.receiver stands in
    stays_out SackSlot e (record { writer = c.args.writer.now; marks = n }) _ (Sack w.sack) _ c.if-not-sack.false
    (acknowledges e n w.sack packet.options c.if-not-sack.false w.told) packet c.if-not-branch.true w.answer w.after

pub returns : goal.returns
returns c = λ e m stands packet.
    let n : Marks = record m { sack = c.args.sack } in
    let w = c.in_ok-put_told.ensures (format_of e) e.sender e.receiver stands in
    goes_in SackSlot e (record { writer = c.args.writer.now; marks = n }) (record m { sack = false }) _ (Sack w.sack) _ c.if-not-sack.false
    (acknowledges e n w.sack packet.options c.if-not-sack.false w.told) (sack_left e n c.if-not-sack.false (packet.sack c.if-not-sack.false))
    (λ still. c.if-not-sack.false) packet c.if-not-branch.false w.answer w.after
