use Rattle.sctp_reconfig.proofs.ReadingLemmas.{lists_read, reset_is_read, response_is_read}
use Rattle.sctp_reconfig.proofs.laws.written_is_read.Goals as goal

pub returns-clause-lists : goal.returns-clause-lists
returns-clause-lists c = lists_read

pub returns-clause-reset : goal.returns-clause-reset
returns-clause-reset c = reset_is_read

pub returns-clause-response : goal.returns-clause-response
returns-clause-response c = response_is_read
