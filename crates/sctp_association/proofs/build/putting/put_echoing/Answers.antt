use Rattle.std.proofs.Common.{[], ◌∷◌}
use Rattle.sctp_model.specs.end.Building.{EchoSlot, ErrorSlot}
use Rattle.sctp_association.proofs.PutLemmas.{cut, behind}
use Rattle.sctp_association.proofs.build.putting.put_echoing.Goals as goal

pub returns-then-not-branch : goal.returns-then-not-branch
returns-then-not-branch c = λ e t phase due packet.
    cut (EchoSlot ∷ []) (ErrorSlot ∷ []) e c.args.packing.now c.put_echo.new.packing _ c.if-not-branch.true (c.in_ok-put_echo.ensures e t phase packet)

pub returns : goal.returns
returns c = λ e t phase due packet.
    let one = c.in_ok-put_echo.ensures e t phase packet in
    behind c.put_error.result (EchoSlot ∷ []) (ErrorSlot ∷ []) e c.args.packing.now c.put_echo.new.packing c.put_error.new.packing _ c.if-not-branch.false one
    (c.put_error.ensures e due one.packet)
