use Rattle.sctp_script.proofs.SpellLemmas.{follows_at, can_be_at}
use Rattle.sctp_script.proofs.laws.events_at_their_place.Goals as goal

pub returns-clause-follow : goal.returns-clause-follow
returns-clause-follow c = follows_at

pub returns-clause-can_be : goal.returns-clause-can_be
returns-clause-can_be c = can_be_at
