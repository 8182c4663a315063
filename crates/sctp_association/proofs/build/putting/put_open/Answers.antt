use Rattle.std.proofs.Common.{[], ◌∷◌, ◌++◌}
use Rattle.sctp_model.specs.end.Building.{CookieAckSlot, HeartbeatSlot, BeatSlot, ErrorSlot, SackSlot, ForwardSlot, AnswerSlot, RequestSlot, ShutdownSlot, ShutdownAckSlot}
use Rattle.sctp_association.proofs.PutLemmas.{joined, cut, behind}
use Rattle.sctp_association.proofs.build.putting.put_open.Goals as goal

pub returns-then-not-branch : goal.returns-then-not-branch
returns-then-not-branch c = λ e part packet.
    let one = c.in_ok-put_answers.ensures e part.due_stands packet in
    cut (CookieAckSlot ∷ HeartbeatSlot ∷ BeatSlot ∷ ErrorSlot ∷ []) (SackSlot ∷ ForwardSlot ∷ AnswerSlot ∷ RequestSlot ∷ ShutdownSlot ∷ ShutdownAckSlot ∷ []) e c.args.packing.now c.put_answers.new.packing _ c.if-not-branch.true one

pub returns-then-not-branch-2 : goal.returns-then-not-branch-2
returns-then-not-branch-2 c = λ e part packet.
    let one = c.in_ok-put_answers.ensures e part.due_stands packet in
    let two = c.in_ok-put_sack.ensures e part.traffic_stands one.packet in
    let upto = joined (CookieAckSlot ∷ HeartbeatSlot ∷ BeatSlot ∷ ErrorSlot ∷ []) (SackSlot ∷ []) e c.args.packing.now c.put_answers.new.packing c.put_sack.new.packing _ _ c.if-not-branch.false one two in
    cut ((CookieAckSlot ∷ HeartbeatSlot ∷ BeatSlot ∷ ErrorSlot ∷ []) ++ SackSlot ∷ []) (ForwardSlot ∷ AnswerSlot ∷ RequestSlot ∷ ShutdownSlot ∷ ShutdownAckSlot ∷ []) e c.args.packing.now c.put_sack.new.packing _ c.if-not-branch-2.true upto

pub returns-then-not-branch-3 : goal.returns-then-not-branch-3
returns-then-not-branch-3 c = λ e part packet.
    let one = c.in_ok-put_answers.ensures e part.due_stands packet in
    let two = c.in_ok-put_sack.ensures e part.traffic_stands one.packet in
    let three = c.in_ok-put_forward.ensures e part.configured part.traffic_stands two.packet in
    let upto = joined (CookieAckSlot ∷ HeartbeatSlot ∷ BeatSlot ∷ ErrorSlot ∷ []) (SackSlot ∷ []) e c.args.packing.now c.put_answers.new.packing c.put_sack.new.packing _ _ c.if-not-branch.false one two in
    let onto = joined ((CookieAckSlot ∷ HeartbeatSlot ∷ BeatSlot ∷ ErrorSlot ∷ []) ++ SackSlot ∷ []) (ForwardSlot ∷ []) e c.args.packing.now c.put_sack.new.packing c.put_forward.new.packing _ _ c.if-not-branch-2.false upto three in
    cut ((CookieAckSlot ∷ HeartbeatSlot ∷ BeatSlot ∷ ErrorSlot ∷ []) ++ SackSlot ∷ ForwardSlot ∷ []) (AnswerSlot ∷ RequestSlot ∷ ShutdownSlot ∷ ShutdownAckSlot ∷ []) e c.args.packing.now c.put_forward.new.packing _ c.if-not-branch-3.true onto

pub returns-then-not-branch-4 : goal.returns-then-not-branch-4
returns-then-not-branch-4 c = λ e part packet.
    let one = c.in_ok-put_answers.ensures e part.due_stands packet in
    let two = c.in_ok-put_sack.ensures e part.traffic_stands one.packet in
    let three = c.in_ok-put_forward.ensures e part.configured part.traffic_stands two.packet in
    let four = c.in_ok-put_reconfigs.ensures e part.traffic_stands three.packet in
    let upto = joined (CookieAckSlot ∷ HeartbeatSlot ∷ BeatSlot ∷ ErrorSlot ∷ []) (SackSlot ∷ []) e c.args.packing.now c.put_answers.new.packing c.put_sack.new.packing _ _ c.if-not-branch.false one two in
    let onto = joined ((CookieAckSlot ∷ HeartbeatSlot ∷ BeatSlot ∷ ErrorSlot ∷ []) ++ SackSlot ∷ []) (ForwardSlot ∷ []) e c.args.packing.now c.put_sack.new.packing c.put_forward.new.packing _ _ c.if-not-branch-2.false upto three in
    let past = joined ((CookieAckSlot ∷ HeartbeatSlot ∷ BeatSlot ∷ ErrorSlot ∷ []) ++ SackSlot ∷ ForwardSlot ∷ []) (AnswerSlot ∷ RequestSlot ∷ []) e c.args.packing.now c.put_forward.new.packing c.put_reconfigs.new.packing _ _ c.if-not-branch-3.false onto four in
    cut ((CookieAckSlot ∷ HeartbeatSlot ∷ BeatSlot ∷ ErrorSlot ∷ []) ++ SackSlot ∷ ForwardSlot ∷ AnswerSlot ∷ RequestSlot ∷ []) (ShutdownSlot ∷ ShutdownAckSlot ∷ []) e c.args.packing.now c.put_reconfigs.new.packing _ c.if-not-branch-4.true past

pub returns-then-not-branch-5 : goal.returns-then-not-branch-5
returns-then-not-branch-5 c = λ e part packet.
    let one = c.in_ok-put_answers.ensures e part.due_stands packet in
    let two = c.in_ok-put_sack.ensures e part.traffic_stands one.packet in
    let three = c.in_ok-put_forward.ensures e part.configured part.traffic_stands two.packet in
    let four = c.in_ok-put_reconfigs.ensures e part.traffic_stands three.packet in
    let five = c.in_ok-put_shutdown.ensures e part.traffic_stands four.packet in
    let upto = joined (CookieAckSlot ∷ HeartbeatSlot ∷ BeatSlot ∷ ErrorSlot ∷ []) (SackSlot ∷ []) e c.args.packing.now c.put_answers.new.packing c.put_sack.new.packing _ _ c.if-not-branch.false one two in
    let onto = joined ((CookieAckSlot ∷ HeartbeatSlot ∷ BeatSlot ∷ ErrorSlot ∷ []) ++ SackSlot ∷ []) (ForwardSlot ∷ []) e c.args.packing.now c.put_sack.new.packing c.put_forward.new.packing _ _ c.if-not-branch-2.false upto three in
    let past = joined ((CookieAckSlot ∷ HeartbeatSlot ∷ BeatSlot ∷ ErrorSlot ∷ []) ++ SackSlot ∷ ForwardSlot ∷ []) (AnswerSlot ∷ RequestSlot ∷ []) e c.args.packing.now c.put_forward.new.packing c.put_reconfigs.new.packing _ _ c.if-not-branch-3.false onto four in
    let shut = joined ((CookieAckSlot ∷ HeartbeatSlot ∷ BeatSlot ∷ ErrorSlot ∷ []) ++ SackSlot ∷ ForwardSlot ∷ AnswerSlot ∷ RequestSlot ∷ []) (ShutdownSlot ∷ []) e c.args.packing.now c.put_reconfigs.new.packing c.put_shutdown.new.packing _ _ c.if-not-branch-4.false past five in
    cut ((CookieAckSlot ∷ HeartbeatSlot ∷ BeatSlot ∷ ErrorSlot ∷ []) ++ SackSlot ∷ ForwardSlot ∷ AnswerSlot ∷ RequestSlot ∷ ShutdownSlot ∷ []) (ShutdownAckSlot ∷ []) e c.args.packing.now c.put_shutdown.new.packing _ c.if-not-branch-5.true shut

pub returns : goal.returns
returns c = λ e part packet.
    let one = c.in_ok-put_answers.ensures e part.due_stands packet in
    let two = c.in_ok-put_sack.ensures e part.traffic_stands one.packet in
    let three = c.in_ok-put_forward.ensures e part.configured part.traffic_stands two.packet in
    let four = c.in_ok-put_reconfigs.ensures e part.traffic_stands three.packet in
    let five = c.in_ok-put_shutdown.ensures e part.traffic_stands four.packet in
    let upto = joined (CookieAckSlot ∷ HeartbeatSlot ∷ BeatSlot ∷ ErrorSlot ∷ []) (SackSlot ∷ []) e c.args.packing.now c.put_answers.new.packing c.put_sack.new.packing _ _ c.if-not-branch.false one two in
    let onto = joined ((CookieAckSlot ∷ HeartbeatSlot ∷ BeatSlot ∷ ErrorSlot ∷ []) ++ SackSlot ∷ []) (ForwardSlot ∷ []) e c.args.packing.now c.put_sack.new.packing c.put_forward.new.packing _ _ c.if-not-branch-2.false upto three in
    let past = joined ((CookieAckSlot ∷ HeartbeatSlot ∷ BeatSlot ∷ ErrorSlot ∷ []) ++ SackSlot ∷ ForwardSlot ∷ []) (AnswerSlot ∷ RequestSlot ∷ []) e c.args.packing.now c.put_forward.new.packing c.put_reconfigs.new.packing _ _ c.if-not-branch-3.false onto four in
    let shut = joined ((CookieAckSlot ∷ HeartbeatSlot ∷ BeatSlot ∷ ErrorSlot ∷ []) ++ SackSlot ∷ ForwardSlot ∷ AnswerSlot ∷ RequestSlot ∷ []) (ShutdownSlot ∷ []) e c.args.packing.now c.put_reconfigs.new.packing c.put_shutdown.new.packing _ _ c.if-not-branch-4.false past five in
    behind c.put_shutdown_ack.result ((CookieAckSlot ∷ HeartbeatSlot ∷ BeatSlot ∷ ErrorSlot ∷ []) ++ SackSlot ∷ ForwardSlot ∷ AnswerSlot ∷ RequestSlot ∷ ShutdownSlot ∷ []) (ShutdownAckSlot ∷ []) e c.args.packing.now c.put_shutdown.new.packing c.put_shutdown_ack.new.packing _ c.if-not-branch-5.false shut
    (c.put_shutdown_ack.ensures e five.packet)
