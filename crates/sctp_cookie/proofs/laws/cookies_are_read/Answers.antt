use Rattle.sctp_cookie.proofs.ReadLemmas.{is_read_as_opened}
use Rattle.sctp_cookie.proofs.laws.cookies_are_read.Goals as goal

pub returns : goal.returns
returns c = is_read_as_opened
