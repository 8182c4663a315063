use Rattle.std.proofs.Common.{ℕ, Option, subst}
use Rattle.sctp_channels.specs.Events.{reports_turn}
use Rattle.sctp_channels.specs.inner.Upcoming.{Comes}
use Rattle.sctp_channels.proofs.channels.Channels.upcoming_left.Goals as goal

pub returns-in-Some : goal.returns-in-Some
returns-in-Some c = λ v x stands. subst (λ (o : Option ℕ). Comes (reports_turn o v x) v x c.upcoming_on.result) (c.in-Some.ensures v x stands) (c.upcoming_on.ensures v x stands)

pub returns-in-None : goal.returns-in-None
returns-in-None c = λ v x stands. subst (λ (o : Option ℕ). Comes (reports_turn o v x) v x c.upcoming_end.result) (c.in-None.ensures v x stands) (c.upcoming_end.ensures v x stands)
