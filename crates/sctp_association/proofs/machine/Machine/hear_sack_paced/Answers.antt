use Rattle.std.proofs.Common.{◌∙◌, ℕ, List, nat_lt, sym, ap, subst}
use Rattle.std.specs.Prelude.{Option, Some}
use Rattle.sctp_model.specs.messages.Format.{Format}
use Rattle.sctp_model.specs.sender.SenderView.{SenderView}
use Rattle.sctp_model.specs.sender.SackTaken.{sack_after}
use Rattle.sctp_model.specs.end.EndView.{EndView, format_of}
use Rattle.sctp_model.specs.end.Misses.{is_taken_back}
use Rattle.sctp_wire.specs.ChunkTree.{sack_meaning}
use Rattle.sctp_send.specs.SenderAnswers.{fault_meaning}
use Rattle.sctp_send.specs.PaceAnswers.{IsWeight}
use Rattle.sctp_congestion.specs.Went.{AreThose}
use Rattle.sctp_congestion.specs.PaceStands.{pace_room}
use Rattle.sctp_association.specs.TrafficStands.{TrafficStands}
use Rattle.sctp_association.specs.MachineStands.{MachineStands}
use Rattle.sctp_association.specs.Weighing.{timed_of, IsBefore}
use Rattle.sctp_association.specs.declared.peer.pacing.Before.{Before}
use Rattle.sctp_association.proofs.MachineLemmas.{joined}
use Rattle.sctp_association.proofs.HearingLemmas.{heard_unpaced, sack_left}
use Rattle.sctp_association.proofs.FollowLemmas.{room_made, sack_follows}
use Rattle.sctp_association.proofs.ReportLemmas.{on_err}
use Rattle.sctp_association.proofs.CumLemmas.{sack_rises, later_pace, no_pace, pace_there}
use Rattle.sctp_association.proofs.machine.Machine.hear_sack_paced.Goals as goal

pub returns-in-None-clause-step : goal.returns-in-None-clause-step
unfolding MachineStands
returns-in-None-clause-step c = λ v t g stands phase.
    heard_unpaced c.count_sack.result _ v (sack_meaning c.args.sack.now) stands.options (no_pace _ _ _ v.pace c.in-None.is stands.pace) (c.count_sack.ensures.answer v t g stands phase)
    (c.count_sack.ensures.step v t g stands phase)

pub returns-in-Ok-clause-step : goal.returns-in-Ok-clause-step
unfolding MachineStands
returns-in-Ok-clause-step c = λ v t g stands phase.
    let x = sack_meaning c.args.sack.now in
    let f : Format = format_of v in
    let u : SenderView = sack_after v.sender x in
    let (p, there, was) = pace_there f v.sender.cum _ c.in-Some.pace v.pace c.in-Some.is stands.pace in
    let first = (joined _ _ v c.in-Joined.is stands).traffic in
    let traffic = c.make_room.ensures.traffic f v.sender v.receiver first in
    let paces = c.make_room.ensures.pace f v.sender.cum p was in
    let none = c.in-Ok.ensures.answer f v.sender v.receiver traffic in
    let took = c.in-Ok.ensures.step f v.sender v.receiver traffic in
    let left = c.in-Ok.ensures.left f v.sender v.receiver traffic in
    let weight = subst (λ (o : Option ℕ). IsWeight f v.sender u o c.weigh.result) (c.timed_by.ensures ∙ ap timed_of paces.trips) (c.weigh.ensures f v.sender v.receiver traffic (sym none)) in
    let b : Before = record { weight = c.weigh.result; flight = c.chunk_flight.result; waits = c.has_more.result; rto = c.get.result.wait } in
    let before : IsBefore f v.sender u p b =
    record { weight = weight; flight = c.chunk_flight.ensures f v.sender v.receiver traffic; waits = c.has_more.ensures f v.sender v.receiver traffic } in
    let back = subst (λ (is : List ℕ). AreThose (is_taken_back v.sender u) u.cum (pace_room c.make_room.new.pace) is) (sym (c.indexes.ensures ∙ c.in-Ok.ensures.kept))
    (c.in_ok-make_room-in-Joined.ensures.back f v.sender v.receiver first (sym none)) in
    let moved = later_pace f v.sender.cum u.cum (Some c.make_room.new.pace) (Some p) (sack_rises v.sender x) paces in
    let counted = c.count_misses.ensures f v.sender u v.receiver p took before moved back in
    let now = c.respond-reply.ensures.traffic f v.sender u v.receiver p took before counted in
    sack_follows _ _ v x p _ _ _ _ _ c.in-Ok.left _ b _ _ _ c.in-Joined.is stands there none took left (c.owe_forward.ensures v.due stands.due)
    (ap (λ y. y.wait) c.get.ensures) c.rto_min.ensures (c.respond-reply.ensures.pace f v.sender u v.receiver p took before counted) now
    (c.respond-reply.ensures.reply f v.sender u v.receiver p took before counted) c.rto_after-rto.ensures (ap (nat_lt 0) (c.in_flight-flies.ensures f _ v.receiver now)) c.follow_sack.ensures

pub returns-in-Err-clause-refused : goal.returns-in-Err-clause-refused
unfolding MachineStands
returns-in-Err-clause-refused c = λ v t g stands phase.
    let x = sack_meaning c.args.sack.now in
    let f : Format = format_of v in
    let traffic = c.make_room.ensures.traffic f v.sender v.receiver (joined _ _ v c.in-Joined.is stands).traffic in
    let same = ap (λ (e : EndView). e.sender) (sack_left v x (fault_meaning c.in-Err.fault) (c.in-Err.ensures.answer f v.sender v.receiver traffic)) in
    room_made _ _ v c.in-Some.pace c.make_room.new.pace c.on_sack.new.self c.in-Joined.is stands c.in-Some.is
    (subst (λ (s : SenderView). TrafficStands c.on_sack.new.self f s v.receiver) (sym same) (c.in-Err.ensures.step f v.sender v.receiver traffic)) c.make_room.ensures.pace

pub returns-in_err-make_room-in-Joined-clause-memory : goal.returns-in_err-make_room-in-Joined-clause-memory
unfolding MachineStands
returns-in_err-make_room-in-Joined-clause-memory c = λ v t g stands phase.
    let traffic = c.make_room.ensures.traffic (format_of v) v.sender v.receiver (joined _ _ v c.in-Joined.is stands).traffic in
    on_err _ _ (room_made _ _ v c.in-Some.pace c.make_room.new.pace c.make_room.new.traffic c.in-Joined.is stands c.in-Some.is traffic c.make_room.ensures.pace)
