use Rattle.std.proofs.Common.{◌∙◌, ap}
use Rattle.sctp_send.specs.SenderKept.{Kept}
use Rattle.sctp_send.specs.SenderStands.{StandsFor}
use Rattle.sctp_send.proofs.CountedLemmas.{counted_is}
use Rattle.sctp_send.proofs.sender.Sender.abandoned_messages.Goals as goal

pub returns : goal.returns
unfolding StandsFor
returns g c = λ v stands. c.abandoned.ensures ∙ ap (λ (k : Kept). k.abandoned) c.self.view_is ∙ counted_is g.F.Framing.format c.args.self.now v stands
