use Rattle.std.proofs.Common.{[], ◌∷◌}
use Rattle.sctp_model.specs.end.Building.{AnswerSlot, RequestSlot}
use Rattle.sctp_association.proofs.PutLemmas.{cut, behind}
use Rattle.sctp_association.proofs.build.reconfiguring.put_reconfigs.Goals as goal

pub returns-then-not-branch : goal.returns-then-not-branch
returns-then-not-branch c = λ e stands packet.
    cut (AnswerSlot ∷ []) (RequestSlot ∷ []) e c.args.packing.now c.put_responses.new.packing _ c.if-not-branch.true (c.in_ok-put_responses.ensures e stands packet)

pub returns : goal.returns
returns c = λ e stands packet.
    let one = c.in_ok-put_responses.ensures e stands packet in
    behind c.put_request.result (AnswerSlot ∷ []) (RequestSlot ∷ []) e c.args.packing.now c.put_responses.new.packing c.put_request.new.packing _ c.if-not-branch.false one
    (c.put_request.ensures e stands one.packet)
