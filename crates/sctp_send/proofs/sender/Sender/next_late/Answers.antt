use Rattle.std.proofs.Common.{sym, ◌∙◌}
use Rattle.sctp_send.specs.SenderStands.{StandsFor}
use Rattle.sctp_send.proofs.abandon.ExpireKept.{answered_next}
use Rattle.sctp_send.proofs.sender.Sender.next_late.Goals as goal

pub returns-in-Some : goal.returns-in-Some
unfolding StandsFor
returns-in-Some g c = λ v stands. sym c.in-Some.is ∙ answered_next v c.args.last.0 c.args.now c.lowest_late.result (c.lowest_late.ensures v stands)

pub returns-in-None : goal.returns-in-None
unfolding StandsFor
returns-in-None g c = λ v stands. sym c.in-None.is ∙ answered_next v c.args.last.0 c.args.now c.lowest_late.result (c.lowest_late.ensures v stands)
