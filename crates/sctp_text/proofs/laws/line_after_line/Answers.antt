use Rattle.sctp_text.proofs.LineRuns.{leads_on}
use Rattle.sctp_text.proofs.laws.line_after_line.Goals as goal

pub returns : goal.returns
returns c = leads_on
