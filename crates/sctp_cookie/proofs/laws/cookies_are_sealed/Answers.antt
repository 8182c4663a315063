use Rattle.sctp_cookie.proofs.SealLemmas.{is_sealed_well}
use Rattle.sctp_cookie.proofs.laws.cookies_are_sealed.Goals as goal

pub returns : goal.returns
returns c = is_sealed_well
