use Rattle.sctp_outcomes.proofs.users.Promised.{users_take_what_was_sent as it}
use Rattle.sctp_outcomes.proofs.headline.users_take_what_was_sent.Goals as goal

pub returns : goal.returns
returns c = it
