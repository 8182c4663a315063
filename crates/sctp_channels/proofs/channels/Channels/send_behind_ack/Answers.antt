use Rattle.std.proofs.Common.{ap, sym, ◌∙◌, subst}
use Rattle.sctp_dcep.specs.Meanings.{content_meaning}
use Rattle.sctp_channels.specs.declared.stream.Stream.{Stream}
use Rattle.sctp_channels.specs.Answers.{is_ack_due}
use Rattle.sctp_channels.specs.inner.Sent.{SendsBehind}
use Rattle.sctp_channels.proofs.SendingLemmas.{behind_none}
use Rattle.sctp_channels.proofs.channels.Channels.send_behind_ack.Goals as goal

pub returns-in-Acknowledgement-clause-step : goal.returns-in-Acknowledgement-clause-step
returns-in-Acknowledgement-clause-step c = λ v x stands there.
    let due = sym (ap (λ (y : Stream). y.due) there) ∙ c.in-Acknowledgement.is in
    subst (λ (y : Stream). SendsBehind v x c.args.now c.args.stream y (content_meaning c.args.content) c.send_after_ack.result c.send_after_ack.new.self) (sym there) (c.send_after_ack.ensures.step v x stands due)

pub returns-in-Nothing-clause-step : goal.returns-in-Nothing-clause-step
returns-in-Nothing-clause-step c = λ v x stands there.
    behind_none v x c.args.now c.args.stream c.args.kept (content_meaning c.args.content) c.send_on.result c.send_on.new.self (ap is_ack_due c.in-Nothing.is) there (c.send_on.ensures.step v x stands)

pub returns-in-Reset-clause-step : goal.returns-in-Reset-clause-step
returns-in-Reset-clause-step c = λ v x stands there.
    behind_none v x c.args.now c.args.stream c.args.kept (content_meaning c.args.content) c.send_on-in-Reset.result c.send_on-in-Reset.new.self (ap is_ack_due c.in-Reset.is) there (c.send_on-in-Reset.ensures.step v x stands)
