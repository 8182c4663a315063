use Rattle.std.proofs.Common.{refl, sym, subst}
use Rattle.sctp_channels.specs.Events.{Reported, turn}
use Rattle.sctp_channels.specs.inner.Upcoming.{Comes}
use Rattle.sctp_channels.proofs.CalmLemmas.{closed_tells, low_tells}
use Rattle.sctp_channels.proofs.HearingLemmas.{next_turn}
use Rattle.sctp_channels.proofs.channels.Channels.upcoming.Goals as goal

pub returns-in-Nothing-clause-comes : goal.returns-in-Nothing-clause-comes
returns-in-Nothing-clause-comes c = λ v x stands.
    let is = c.in-Nothing.ensures.ahead v x stands in
    subst (λ (r : Reported). Comes r v x c.upcoming_turn.result) (sym (next_turn v x (turn v x) is.0 is.1 refl)) (c.upcoming_turn.ensures v x (c.ahead.ensures.same v x stands))

pub returns-in-Closed-clause-comes : goal.returns-in-Closed-clause-comes
returns-in-Closed-clause-comes c = λ v x stands. closed_tells v x c.in-Closed.stream (c.in-Closed.ensures.ahead v x stands)

pub returns-in-Low-clause-comes : goal.returns-in-Low-clause-comes
returns-in-Low-clause-comes c = λ v x stands. let low = c.in-Low.ensures.ahead v x stands in low_tells v x c.in-Low.stream low.0 low.1
