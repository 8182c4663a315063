use Rattle.std.proofs.Common.{List, ◌++◌, take}
use Rattle.sctp_model.specs.receiver.ReceiverView.{Handed}
use Rattle.sctp_model.specs.end.EndView.{EndView}
use Rattle.sctp_endpoint.specs.EndpointStands.{EndpointStands}
use Rattle.sctp_pair.specs.Taken.{IsStreamLog}
use Rattle.sctp_pair.proofs.reporting.add_waiting.Given as goal

-- the messages so far are noted
abbrev pub invariant-loop-place : goal.invariant-loop-place
invariant-loop-place l = (v : EndView) (hs : List Handed) → EndpointStands l.end v → IsStreamLog l.fn.log hs → IsStreamLog l.log (hs ++ take l.place (v.receiver.waiting l.stream))
