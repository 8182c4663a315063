use Rattle.sctp_trace.proofs.ScriptOneFault.{has_one_fault}
use Rattle.sctp_trace.proofs.script_laws.one_first_fault.Goals as goal

pub returns : goal.returns
returns c = has_one_fault c.one_meaning_at.ensures
