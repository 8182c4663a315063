use Rattle.std.proofs.Common.{ap, sym, ◌∙◌, arith}
use Rattle.sctp_send.specs.declared.kept.message.Message.{Message as MessageFields}
use Rattle.std.proofs.lemmas.Bool.Decides.{nat_tests}
use Rattle.sctp_send.proofs.resetting.StillLemmas.{out_at}
use Rattle.sctp_send.proofs.resetting.still.is_out_at.Goals as goal

pub returns : goal.returns
returns c = λ size on.
    let stream = ap (λ (m : MessageFields). m.stream) c.deref.ensures in
    out_at size c.args.stream c.args.at c.args.outstanding.now.items c.get.result.now (omega arith) c.get.ensures (sym stream ∙ grind (arith, nat_tests))
