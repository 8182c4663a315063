use Rattle.sctp_script.proofs.SpellLemmas.{can_be}
use Rattle.sctp_script.proofs.laws.events_can_happen.Goals as goal

pub returns : goal.returns
returns c = can_be
