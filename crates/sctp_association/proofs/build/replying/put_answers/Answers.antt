use Rattle.std.proofs.Common.{true, false, [], ◌∷◌, refl}
use Rattle.sctp_model.specs.end.Building.{CookieAckSlot, HeartbeatSlot, BeatSlot, ErrorSlot}
use Rattle.sctp_association.proofs.PutLemmas.{not_due, joined, cut, behind}
use Rattle.sctp_association.proofs.build.replying.put_answers.Goals as goal

pub returns-then-not-branch : goal.returns-then-not-branch
returns-then-not-branch c = λ e due packet.
    cut (CookieAckSlot ∷ []) (HeartbeatSlot ∷ BeatSlot ∷ ErrorSlot ∷ []) e c.args.packing.now c.put_cookie_ack.new.packing _ c.if-not-branch.true (c.in_ok-put_cookie_ack.ensures e packet)

pub returns-then-not-branch-2 : goal.returns-then-not-branch-2
returns-then-not-branch-2 c = λ e due packet.
    let one = c.in_ok-put_cookie_ack.ensures e packet in
    joined (CookieAckSlot ∷ []) (HeartbeatSlot ∷ BeatSlot ∷ ErrorSlot ∷ []) e c.args.packing.now c.put_cookie_ack.new.packing c.put_heartbeat.new.packing _ false c.if-not-branch.false one
    (cut (HeartbeatSlot ∷ []) (BeatSlot ∷ ErrorSlot ∷ []) e c.put_cookie_ack.new.packing c.put_heartbeat.new.packing _ c.if-not-branch-2.true (c.in_ok-put_heartbeat.ensures e due one.packet))

pub returns : goal.returns
returns c = λ e due packet.
    let p = c.put_heartbeat.new.packing in
    let one = c.in_ok-put_cookie_ack.ensures e packet in
    let two = c.in_ok-put_heartbeat.ensures e due one.packet in
    let both = joined (CookieAckSlot ∷ []) (HeartbeatSlot ∷ []) e c.args.packing.now c.put_cookie_ack.new.packing p _ _ c.if-not-branch.false one two in
    let three = joined (CookieAckSlot ∷ HeartbeatSlot ∷ []) (BeatSlot ∷ []) e c.args.packing.now p p _ true c.if-not-branch-2.false both (not_due BeatSlot e p due.beat two.packet) in
    behind c.put_error.result (CookieAckSlot ∷ HeartbeatSlot ∷ BeatSlot ∷ []) (ErrorSlot ∷ []) e c.args.packing.now p c.put_error.new.packing true refl three
    (c.put_error.ensures e due two.packet)
