use Rattle.std.proofs.Common.{false}
use Rattle.sctp_model.specs.end.EndView.{ResetAlarm}
use Rattle.sctp_model.specs.end.Building.{RequestSlot}
use Rattle.sctp_association.specs.Asks.{request_chunk}
use Rattle.sctp_association.proofs.PutLemmas.{stays_out, goes_in, started_left}
use Rattle.sctp_association.proofs.RequestLemmas.{request_goes, request_due}
use Rattle.sctp_association.proofs.build.reconfiguring.put_due_request.Goals as goal

pub returns-then-not-branch : goal.returns-then-not-branch
returns-then-not-branch c = λ e taken is due packet.
    let m = c.args.packing.now.marks in
    stays_out RequestSlot e c.args.packing.now _ (request_chunk c.args.answered c.args.request) _ (request_due e m _ _ _ due is)
    (request_goes e m c.args.answered c.args.request taken is) packet c.if-not-branch.true c.in_ok-put_own_request.ensures.answer c.in_ok-put_own_request.ensures.after

pub returns : goal.returns
returns c = λ e taken is due packet.
    let m = c.args.packing.now.marks in
    goes_in RequestSlot e c.args.packing.now (record m { request = false; starts = c.add.new.self }) _ (request_chunk c.args.answered c.args.request) _ (request_due e m _ _ _ due is)
    (request_goes e m c.args.answered c.args.request taken is) (started_left ResetAlarm (record m { request = false }) e c.add.new.self c.add.ensures)
    (λ still. still) packet c.if-not-branch.false c.in_ok-put_own_request.ensures.answer c.in_ok-put_own_request.ensures.after
