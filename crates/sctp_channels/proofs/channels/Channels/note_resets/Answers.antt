use Rattle.std.proofs.Common.{◌≡◌, None, sym, ◌∙◌, subst}
use Rattle.sctp_model.specs.end.UserCalls.{reset_there}
use Rattle.sctp_channels.specs.Settling.{Standing}
use Rattle.sctp_channels.specs.Events.{all_noted}
use Rattle.sctp_channels.specs.ChannelsStand.{ChannelsStand, endpoint_of, table_of}
use Rattle.sctp_channels.proofs.NotingLemmas.{noted_none, none_there}
use Rattle.sctp_channels.proofs.channels.Channels.note_resets.Goals as goal

pub returns-else-has_reset-clause-step : goal.returns-else-has_reset-clause-step
unfolding ChannelsStand endpoint_of table_of
returns-else-has_reset-clause-step c = λ v x stands.
    let none : reset_there v ≡ None = none_there (reset_there v) (sym c.if-has_reset.false ∙ c.has_reset.ensures v stands.0) in
    let all : all_noted v x ≡ record { view = v; table = x } = noted_none v.receiver.streams v x none in
    subst (λ (t : Standing). ChannelsStand c.args.self.now t.view t.table) (sym all) stands
