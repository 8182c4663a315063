use Rattle.std.proofs.Common.{true, false, length, ap, subst}
use Rattle.sctp_model.specs.end.EndView.{Configuration}
use Rattle.sctp_model.specs.end.Reports.{item, USER_ABORT}
use Rattle.sctp_model.specs.end.PeerFaults.{packet_to, abort_for}
use Rattle.sctp_model.specs.end.UserCalls.{AbortAnswer, abort_leaves}
use Rattle.sctp_packet.specs.PacketBytes.{WritesPacket}
use Rattle.sctp_association.specs.MachineStands.{MachineStands}
use Rattle.sctp_association.proofs.MachineLemmas.{at_view}
use Rattle.sctp_association.proofs.AbortLemmas.{no_peer, peer_by, by_room, too_long, short_enough}
use Rattle.sctp_association.proofs.machine.Machine.abort.Goals as goal

pub returns-in_default-clause-answer : goal.returns-in_default-clause-answer
returns-in_default-clause-answer c = λ v stands. no_peer v c.args.reason.now (c.in_default.ensures v stands)

pub returns-then-reason-room_behind-clause-answer : goal.returns-then-reason-room_behind-clause-answer
unfolding MachineStands
returns-then-reason-room_behind-clause-answer c = λ v stands.
    peer_by v c.args.reason.now _ false (c.in-Some.ensures v stands)
    (by_room v c.args.self.now.config c.args.reason.now c.room_behind.result false stands.configuration (c.room_behind.ensures.exact (length c.args.reason.now))
    (too_long _ _ c.if-reason-room_behind.true))

pub returns-in-Ok-clause-answer : goal.returns-in-Ok-clause-answer
unfolding MachineStands
returns-in-Ok-clause-answer c = λ v stands.
    let goes = peer_by v c.args.reason.now _ true (c.in-Some.ensures v stands)
    (by_room v c.args.self.now.config c.args.reason.now c.room_behind.result true stands.configuration (c.room_behind.ensures.exact (length c.args.reason.now))
    (short_enough _ _ c.if-reason-room_behind.false)) in
    (_, goes, subst (λ (k : Configuration). WritesPacket c.in-Ok.packet.items (packet_to k c.in-Some.tag (abort_for (item USER_ABORT c.args.reason.now)))) stands.configuration c.in-Ok.ensures.packet)

pub returns-in-Ok-clause-step : goal.returns-in-Ok-clause-step
unfolding MachineStands
returns-in-Ok-clause-step c = λ v stands.
    let goes = peer_by v c.args.reason.now _ true (c.in-Some.ensures v stands)
    (by_room v c.args.self.now.config c.args.reason.now c.room_behind.result true stands.configuration (c.room_behind.ensures.exact (length c.args.reason.now))
    (short_enough _ _ c.if-reason-room_behind.false)) in
    at_view _ _ _ (ap (λ (r : AbortAnswer). abort_leaves r v) goes) (c.close.ensures v stands)

pub returns-in-Err-clause-answer : goal.returns-in-Err-clause-answer
unfolding MachineStands
returns-in-Err-clause-answer c = λ v stands.
    let goes = peer_by v c.args.reason.now _ true (c.in-Some.ensures v stands)
    (by_room v c.args.self.now.config c.args.reason.now c.room_behind.result true stands.configuration (c.room_behind.ensures.exact (length c.args.reason.now))
    (short_enough _ _ c.if-reason-room_behind.false)) in
    (_, goes)
