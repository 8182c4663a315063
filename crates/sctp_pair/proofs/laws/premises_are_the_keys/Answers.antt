use Rattle.sctp_pair.proofs.UnforgedLemmas.{premises_of_key, read_cookies}
use Rattle.sctp_pair.proofs.laws.premises_are_the_keys.Goals as goal

pub returns-clause-premises : goal.returns-clause-premises
returns-clause-premises c = premises_of_key c.keys_have_seals.ensures.exact

pub returns-clause-bytes : goal.returns-clause-bytes
returns-clause-bytes c = read_cookies
