use Rattle.sctp_model.specs.end.EndView.{format_of}
use Rattle.sctp_association.proofs.RequestLemmas.{unrequested, none_requested}
use Rattle.sctp_association.proofs.build.reconfiguring.put_request.Goals as goal

pub returns-then-not-packing : goal.returns-then-not-packing
returns-then-not-packing c = λ e stands packet. unrequested e c.args.packing.now c.if-not-packing.true packet

pub returns-in-None : goal.returns-in-None
returns-in-None c = λ e stands packet. none_requested e c.args.packing.now (c.in-None.ensures (format_of e) e.sender e.receiver stands) packet

pub returns-in-Some : goal.returns-in-Some
returns-in-Some c = λ e stands packet.
    c.put_due_request.ensures e (c.last_finished_request.ensures (format_of e) e.sender e.receiver stands) (c.in-Some.ensures (format_of e) e.sender e.receiver stands) c.if-not-packing.false packet
