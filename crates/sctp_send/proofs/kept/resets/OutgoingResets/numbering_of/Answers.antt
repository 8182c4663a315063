use Rattle.std.proofs.Common.{◌∙◌, sym, ap}
use Rattle.sctp_model.specs.sender.Outgoing.{Request}
use Rattle.sctp_model.specs.sender.Resetting.{numbering_of}
use Rattle.sctp_send.specs.ResetsKept.{request_meaning}
use Rattle.sctp_send.proofs.resetting.ResetTables.{same_request}
use Rattle.sctp_send.proofs.kept.resets.OutgoingResets.numbering_of.Goals as goal

pub returns-in-Some : goal.returns-in-Some
returns-in-Some c = λ q waits.
    c.numbering_from.ensures ∙ ap (λ (x : Request). numbering_of x c.args.number) (same_request (request_meaning c.in-Some.request.now) q (sym c.in-Some.ensures ∙ waits))
