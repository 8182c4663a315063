use Rattle.std.proofs.Common.{◌≡◌, ◌+◌, ◌++◌, suc, List, take, subst, arith}
use Rattle.sctp_model.specs.receiver.ReceiverView.{Handed}
use Rattle.sctp_recv.specs.HandedOf.{handed_of}
use Rattle.sctp_pair.specs.Taken.{IsStreamLog}
use Rattle.sctp_pair.proofs.ReportLemmas.{taken_all, waiting_more}
use Rattle.sctp_pair.proofs.reporting.add_waiting.Goals as goal

pub loop-place-preserved : goal.loop-place-preserved
loop-place-preserved c = λ v hs end is.
    let i = c.loop-place.place in
    let ws = v.receiver.waiting c.args.stream in
    let h = handed_of c.in-Some.message.now in
    let next : i + 1 ≡ suc i = omega arith in
    let room = c.make_room.ensures.same (hs ++ take i ws) (c.loop-place.invariant v hs end is) in
    rw (waiting_more hs ws i (i + 1) h next (c.in-Some.ensures v end)) (c.note.ensures (hs ++ take i ws) room)

pub returns-in_default : goal.returns-in_default
returns-in_default c = λ v hs end is.
    let ws = v.receiver.waiting c.args.stream in
    subst (λ (xs : List Handed). IsStreamLog c.loop-place.log (hs ++ xs)) (taken_all ws c.loop-place.place (c.in_default.ensures v end)) (c.loop-place.invariant v hs end is)
