use Rattle.std.proofs.Common.{◌≡◌, ◌<◌, arith}
use Rattle.std.proofs.lemmas.Grind.{common_steps}
use Rattle.sctp_model.specs.end.EndView.{AbortedHere}
use Rattle.sctp_model.specs.end.Clock.{closed}
use Rattle.sctp_model.specs.end.PeerFaults.{packet_to, abort_for}
use Rattle.sctp_model.specs.end.Opening.{NotCalling, NoTag, RefusedAck, AcceptedAck, echoing}
use Rattle.sctp_wire.specs.ChunkTree.{init_meaning}
use Rattle.sctp_opening.specs.AckFaults.{cause_of}
use Rattle.sctp_endpoint.proofs.opening.on_init_ack.Goals as goal

pub returns-in_default-clause-step : goal.returns-in_default-clause-step
returns-in_default-clause-step c = λ v stands. (NotCalling (c.in_default.ensures v stands), stands)

pub returns-then-offer-eq0-clause-step : goal.returns-then-offer-eq0-clause-step
returns-then-offer-eq0-clause-step c = λ v stands.
    let none : c.args.offer.now.tag ≡ 0 = grind (arith, common_steps) in
    (NoTag c.in-Some.draw (c.in-Some.ensures v stands) none, stands)

pub returns-in_ok-echo-in-Ok-clause-step : goal.returns-in_ok-echo-in-Ok-clause-step
returns-in_ok-echo-in-Ok-clause-step c = λ v stands.
    let d = c.in-Some.draw in
    let some : 0 < c.args.offer.now.tag = grind (arith, common_steps) in
    let taken = c.in-Ok.ensures.answer v stands in
    (echoing v d (init_meaning c.args.offer.now) c.in-Ok.cookie.now, AcceptedAck d c.in-Ok.cookie.now (c.in-Some.ensures v stands) some taken.0 taken.1, c.in_ok-echo-in-Ok.ensures.step v stands)

pub returns-in_ok-refuse_ack-in-Err-clause-step : goal.returns-in_ok-refuse_ack-in-Err-clause-step
returns-in_ok-refuse_ack-in-Err-clause-step c = λ v stands.
    let d = c.in-Some.draw in
    let some : 0 < c.args.offer.now.tag = grind (arith, common_steps) in
    let why = cause_of c.in-Err.fault in
    let made = c.in_ok-refuse_ack-in-Err.ensures.step v stands in (
      closed AbortedHere v,
      packet_to v.configuration c.args.offer.now.tag (abort_for why),
      RefusedAck d why (c.in-Some.ensures v stands) some (c.in-Err.ensures.answer v stands),
      made.0,
      c.in_ok-refuse_ack-in-Err.ensures.within v stands,
      made.1,
    )
