use Rattle.std.proofs.Common.{◌∙◌, ap, sym}
use Rattle.sctp_send.specs.inner.Dues.{has_come}
use Rattle.sctp_send.specs.SenderStands.{StandsFor}
use Rattle.sctp_send.proofs.sender.Sender.is_late.Goals as goal

pub returns-in-Some : goal.returns-in-Some
unfolding StandsFor
returns-in-Some g c = λ v stands. sym (c.moment.ensures v stands c.args.now ∙ ap (has_come c.args.now) c.in-Some.is)

pub returns-in-None : goal.returns-in-None
unfolding StandsFor
returns-in-None g c = λ v stands. sym (c.moment.ensures v stands c.args.now ∙ ap (has_come c.args.now) c.in-None.is)
