use Rattle.std.proofs.Common.{sym, subst}
use Rattle.sctp_model.proofs.sender.LateLaws.{nothing_expires}
use Rattle.sctp_send.specs.inner.Dues.{NextLateAnswer}
use Rattle.sctp_send.specs.SenderStands.{StandsFor}
use Rattle.sctp_send.proofs.abandon.ExpireKept.{none_late, some_late_there}
use Rattle.sctp_send.proofs.sender.Sender.has_late.Goals as goal

pub returns-in-Some-clause-exact : goal.returns-in-Some-clause-exact
unfolding StandsFor
returns-in-Some-clause-exact g c = λ v stands. sym (some_late_there v c.args.now c.in-Some.field-0 (subst (NextLateAnswer v 0 c.args.now) c.in-Some.is (c.lowest_late.ensures v stands)))

pub returns-in-None-clause-exact : goal.returns-in-None-clause-exact
unfolding StandsFor
returns-in-None-clause-exact g c = λ v stands. sym (none_late v c.args.now (subst (NextLateAnswer v 0 c.args.now) c.in-None.is (c.lowest_late.ensures v stands)))

pub returns-in-None-clause-idle : goal.returns-in-None-clause-idle
unfolding StandsFor
returns-in-None-clause-idle g c = λ v stands none. nothing_expires v c.args.now (none_late v c.args.now (subst (NextLateAnswer v 0 c.args.now) c.in-None.is (c.lowest_late.ensures v stands)))
