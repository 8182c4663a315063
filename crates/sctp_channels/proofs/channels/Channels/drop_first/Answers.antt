use Rattle.std.proofs.Common.{Some, subst}
use Rattle.sctp_model.specs.receiver.ReceiverView.{Handed}
use Rattle.sctp_model.specs.end.UserCalls.{UserTakes}
use Rattle.sctp_channels.specs.ChannelsStand.{ChannelsStand, endpoint_of, table_of}
use Rattle.sctp_channels.proofs.CalmLemmas.{taken_calm, took_this}
use Rattle.sctp_channels.proofs.channels.Channels.drop_first.Goals as goal

pub returns-in-Some-clause-step : goal.returns-in-Some-clause-step
unfolding ChannelsStand endpoint_of table_of
returns-in-Some-clause-step c = λ v x h stands first.
    let step = c.in-Some.ensures.step v stands.0 in
    let takes = subst (λ (k : Handed). UserTakes v c.args.stream (Some k) step.0) (took_this v step.0 c.args.stream _ h step.1 first) step.1 in
    (step.0, takes, (c.give_back.ensures.stands _ step.2, stands.1, taken_calm _ v step.0 x c.args.stream _ takes stands.2))
