use Rattle.sctp_script.proofs.SpellLemmas.{follows}
use Rattle.sctp_script.proofs.laws.events_follow_the_pair.Goals as goal

pub returns : goal.returns
returns c = follows
