use Rattle.sctp_end.proofs.SessionLemmas.{came_as, heard_taken, heard_dropped, heard_answer, cut_short}
use Rattle.sctp_end.proofs.session.Session.hear.Goals as goal

pub returns-in-Ok-Taken : goal.returns-in-Ok-Taken
returns-in-Ok-Taken c = λ v stands.
    heard_taken _ _ _ _ (came_as _ _ c.as_slice-bytes.ensures c.reads_or_faults.ensures) c.as_slice-bytes.ensures
    (λ o reads. (rw c.in-Ok-Taken.field-0-is at (c.in-Ok-Taken.ensures.step v o stands reads), rw c.in-Ok-Taken.field-0-is at (c.in-Ok-Taken.ensures.counts v o stands reads)))

pub returns-in-Ok-Dropped : goal.returns-in-Ok-Dropped
returns-in-Ok-Dropped c = λ v stands.
    heard_dropped _ _ _ _ _ (came_as _ _ c.as_slice-bytes.ensures c.reads_or_faults.ensures) c.as_slice-bytes.ensures
    (λ o reads. (rw c.in-Ok-Dropped.field-0-is at (c.in-Ok-Dropped.ensures.step v o stands reads), rw c.in-Ok-Dropped.field-0-is at (c.in-Ok-Dropped.ensures.counts v o stands reads)))

pub returns-in-Ok-Answer : goal.returns-in-Ok-Answer
returns-in-Ok-Answer c = λ v stands.
    heard_answer _ _ _ c.in-Ok-Answer.packet _ _ (came_as _ _ c.as_slice-bytes.ensures c.reads_or_faults.ensures) c.as_slice-bytes.ensures
    (λ o reads. (rw c.in-Ok-Answer.field-0-is at (c.in-Ok-Answer.ensures.step v o stands reads), rw c.in-Ok-Answer.field-0-is at (c.in-Ok-Answer.ensures.counts v o stands reads)))
    c.new.ensures

pub returns-in-Err : goal.returns-in-Err
returns-in-Err c = λ v stands.
    cut_short _ _ _ _ _ (came_as _ _ c.as_slice-bytes.ensures c.reads_or_faults.ensures) c.as_slice-bytes.ensures
    (λ o reads. (c.in-Err.ensures.step v o stands reads, c.in-Err.ensures.counts v o stands reads))
