use Rattle.std.proofs.Common.{◌∙◌, sym, ap, arith}
use Rattle.std.proofs.lemmas.Bool.Decides.{nat_tests}
use Rattle.sctp_model.specs.sender.Outgoing.{Request}
use Rattle.sctp_send.specs.ResetsKept.{request_meaning}
use Rattle.sctp_send.proofs.resetting.ResetTables.{same_request}
use Rattle.sctp_send.proofs.kept.resets.OutgoingResets.is_past_first.Goals as goal

pub returns-in-Some : goal.returns-in-Some
returns-in-Some c = λ q waits.
    let first = ap (λ (x : Request). x.first) (same_request (request_meaning c.in-Some.request.now) q (sym c.in-Some.ensures ∙ waits)) in
    grind (arith, nat_tests)
