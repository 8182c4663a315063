use Rattle.std.proofs.Common.{Bool, refl, sym, subst}
use Rattle.sctp_model.specs.end.Arriving.{Notes, urged, acknowledges_in}
use Rattle.sctp_association.specs.MachineStands.{MachineStands}
use Rattle.sctp_endpoint.specs.inner.Acted.{notes_meaning}
use Rattle.sctp_endpoint.specs.inner.Arrived.{worn_from}
use Rattle.sctp_endpoint.proofs.arriving.end_packet.Goals as goal

pub returns-then-notes : goal.returns-then-notes
returns-then-notes c = λ v stands.
    let gap = c.leaves_gap-gap.result in
    let w = worn_from c.args.from v in
    let n : Notes = urged gap (notes_meaning c.args.notes) in
    (gap, c.leaves_gap-gap.ensures v stands, subst (λ (b : Bool). MachineStands c.acknowledge.new.self (acknowledges_in n b w.phase w)) (sym c.if-notes.true) (c.acknowledge.ensures w n (sym c.is_urged.ensures) refl (c.give_up.ensures v stands)))

pub returns-else-notes : goal.returns-else-notes
returns-else-notes c = λ v stands.
    let gap = c.leaves_gap-gap.result in
    let w = worn_from c.args.from v in
    let n : Notes = urged gap (notes_meaning c.args.notes) in
    (gap, c.leaves_gap-gap.ensures v stands, subst (λ (b : Bool). MachineStands c.give_up.new.machine (acknowledges_in n b w.phase w)) (sym c.if-notes.false) (c.give_up.ensures v stands))
