use Rattle.sctp_dcep.proofs.ReadingLemmas.{contents_read_back, openings_read_back, acknowledgement_reads_back}
use Rattle.sctp_dcep.proofs.laws.written_is_read.Goals as goal

pub returns-clause-content : goal.returns-clause-content
returns-clause-content c = contents_read_back

pub returns-clause-opening : goal.returns-clause-opening
returns-clause-opening c = openings_read_back

pub returns-clause-acknowledgement : goal.returns-clause-acknowledgement
returns-clause-acknowledgement c = acknowledgement_reads_back
