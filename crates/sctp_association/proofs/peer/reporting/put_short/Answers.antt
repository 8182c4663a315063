use Rattle.sctp_model.proofs.TypedWriting.{as_written_listed, as_written_writes}
use Rattle.sctp_association.proofs.ReportLemmas.{grown_plain}
use Rattle.sctp_association.proofs.peer.reporting.put_short.Goals as goal

pub returns-clause-plain : goal.returns-clause-plain
returns-clause-plain c = λ plain.
    grown_plain _ _ _ c.put_cause.result plain c.put_cause.ensures.refused
    (c.put_cause.ensures.writes _ (as_written_writes c.args.causes.now.items (rw c.deref.ensures.value at c.are_bytes.ensures) plain))

pub returns-clause-listed : goal.returns-clause-listed
returns-clause-listed c = λ plain.
    as_written_listed _ (grown_plain _ _ _ c.put_cause.result plain c.put_cause.ensures.refused
    (c.put_cause.ensures.writes _ (as_written_writes c.args.causes.now.items (rw c.deref.ensures.value at c.are_bytes.ensures) plain)))
