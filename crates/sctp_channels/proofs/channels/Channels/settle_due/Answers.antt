use Rattle.std.proofs.Common.{sym, ap, subst}
use Rattle.sctp_channels.specs.declared.stream.Due.{Due}
use Rattle.sctp_channels.specs.Settling.{Settled, settled_by}
use Rattle.sctp_channels.specs.inner.Settles.{SettlesAs}
use Rattle.sctp_channels.proofs.channels.Channels.settle_due.Goals as goal

pub returns-in-Acknowledgement-clause-step : goal.returns-in-Acknowledgement-clause-step
returns-in-Acknowledgement-clause-step c = λ v x stands.
    subst (λ (t : Settled). SettlesAs t v x c.settle_ack.result c.settle_ack.new.self) (sym (ap (λ (d : Due). settled_by d v c.args.stream c.args.kept) c.in-Acknowledgement.is))
    (c.settle_ack.ensures.step v x stands)

pub returns-in-Reset-clause-step : goal.returns-in-Reset-clause-step
returns-in-Reset-clause-step c = λ v x stands.
    subst (λ (t : Settled). SettlesAs t v x c.settle_reset.result c.settle_reset.new.self) (sym (ap (λ (d : Due). settled_by d v c.args.stream c.args.kept) c.in-Reset.is))
    (c.settle_reset.ensures.step v x stands)
