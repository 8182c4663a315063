use Rattle.std.proofs.Common.{◌≡◌, Bool, true, sym, subst, ◌∙◌, if◌then◌else◌}
use Rattle.sctp_channels.specs.Settling.{is_gone}
use Rattle.sctp_channels.specs.Events.{with_left_over}
use Rattle.sctp_channels.specs.ChannelsStand.{ChannelsStand}
use Rattle.sctp_channels.proofs.channels.Channels.sweep_one.Goals as goal

pub returns-then-is_gone-clause-step : goal.returns-then-is_gone-clause-step
returns-then-is_gone-clause-step c = λ v x stands.
    let s = c.args.stream in
    let gone : is_gone v x s ≡ true = sym (c.is_gone.ensures v x stands) ∙ c.if-is_gone.true in
    subst (λ (b : Bool). ChannelsStand c.leave.new.self v (if b then with_left_over x s else x)) (sym gone) (c.leave.ensures.step v x stands)
