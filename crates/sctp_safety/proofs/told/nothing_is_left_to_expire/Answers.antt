use Rattle.sctp_safety.proofs.sending.ExpiredLemmas.{none_is_left_to_expire}
use Rattle.sctp_safety.proofs.told.nothing_is_left_to_expire.Goals as goal

pub returns : goal.returns
returns c = none_is_left_to_expire
