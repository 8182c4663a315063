use Rattle.sctp_script.proofs.SpellLemmas.{leads, of_the_pair}
use Rattle.sctp_script.proofs.laws.the_pair_comes_first.Goals as goal

pub returns-clause-first : goal.returns-clause-first
returns-clause-first c = leads

pub returns-clause-right : goal.returns-clause-right
returns-clause-right c = of_the_pair
