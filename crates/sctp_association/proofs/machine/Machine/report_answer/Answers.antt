use Rattle.sctp_association.specs.MachineStands.{MachineStands}
use Rattle.sctp_association.proofs.MachineLemmas.{at_view}
use Rattle.sctp_association.proofs.HearingLemmas.{reports_none}
use Rattle.sctp_association.proofs.machine.Machine.report_answer.Goals as goal

pub returns-in-NoSuchStream : goal.returns-in-NoSuchStream
returns-in-NoSuchStream c = λ v p same stands. rw (c.in-NoSuchStream.is, same) (c.report_stream.ensures v stands)

pub returns-in_default : goal.returns-in_default
unfolding MachineStands
returns-in_default c = λ v p same stands. at_view _ _ _ (reports_none v p c.args.answer c.in_default.not-NoSuchStream) stands
