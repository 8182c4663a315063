use Rattle.sctp_script.proofs.ConfigurationLemmas.{pair_right, options_right}
use Rattle.sctp_script.proofs.laws.configurations_are_right.Goals as goal

pub returns-clause-pair : goal.returns-clause-pair
returns-clause-pair c = pair_right

pub returns-clause-options : goal.returns-clause-options
returns-clause-options c = options_right
