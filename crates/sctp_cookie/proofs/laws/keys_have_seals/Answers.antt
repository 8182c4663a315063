use Rattle.sctp_cookie.proofs.SealLemmas.{sealing_under, sealing-is_under, opens_the_sealed}
use Rattle.sctp_cookie.proofs.laws.keys_have_seals.Goals as goal

pub returns-clause-some : goal.returns-clause-some
returns-clause-some c = λ key. (sealing_under key, sealing-is_under key)

pub returns-clause-exact : goal.returns-clause-exact
returns-clause-exact c = opens_the_sealed
