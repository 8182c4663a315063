use Rattle.std.proofs.Common.{[]}
use Rattle.sctp_end.specs.Answering.{Silent, Called, Faulty, Unread}
use Rattle.sctp_end.specs.SessionStands.{standing}
use Rattle.sctp_end.proofs.RunLemmas.{line_told}
use Rattle.sctp_end.proofs.run.answer.Goals as goal

pub returns-in-Ok-None-clause-answers : goal.returns-in-Ok-None-clause-answers
returns-in-Ok-None-clause-answers g c = λ v stands.
    ([], g.met.W.Sink.writes_none _, (v, Silent (rw c.in-Ok-None.field-0-is at c.in-Ok-None.ensures), stands))

pub returns-in-Ok-Some-clause-answers : goal.returns-in-Ok-Some-clause-answers
returns-in-Ok-Some-clause-answers g c = λ v stands.
    let did = c.perform-reply.ensures v stands in
    let told = c.write_reply.ensures.told in (
      told.0,
      told.1,
      line_told c.write_reply.result (standing c.args.session.now v) c.args.line.now _ told.0 did.0 c.perform-reply.new.self
          (Called _ _ _ (rw c.in-Ok-Some.field-0-is at c.in-Ok-Some.ensures) did.1) did.2 told.2,
    )

pub returns-in-Err-Fault-clause-answers : goal.returns-in-Err-Fault-clause-answers
returns-in-Err-Fault-clause-answers g c = λ v stands.
    let told = c.write_reply-in-Err-Fault.ensures.told in (
      told.0,
      told.1,
      line_told c.write_reply-in-Err-Fault.result (standing c.args.session.now v) c.args.line.now _ told.0 v c.args.session.now
          (Faulty _ (rw c.in-Err-Fault.field-0-is at c.in-Err-Fault.ensures)) stands told.2,
    )

pub returns-in-Err-NoMemory-clause-answers : goal.returns-in-Err-NoMemory-clause-answers
returns-in-Err-NoMemory-clause-answers g c = λ v stands.
    let told = c.write_reply-in-Err-NoMemory.ensures.told in (
      told.0,
      told.1,
      line_told c.write_reply-in-Err-NoMemory.result (standing c.args.session.now v) c.args.line.now _ told.0 v c.args.session.now
          (Unread (rw c.in-Err-NoMemory.field-0-is at c.in-Err-NoMemory.ensures)) stands told.2,
    )
