use Rattle.std.proofs.Common.{refl}
use Rattle.sctp_model.specs.end.UserCalls.{Begun, NotAgreed, NoStream}
use Rattle.sctp_end.specs.Performing.{ResetsOne, WantsMemory}
use Rattle.sctp_end.proofs.SessionLemmas.{counted_as}
use Rattle.sctp_end.proofs.session.Session.reset.Goals as goal

pub returns-in-Ok : goal.returns-in-Ok
returns-in-Ok c = λ v stands.
    (_, counted_as _ _ _ _ _ _ c.in-Ok.ensures.counts (ResetsOne c.args.stream Begun (c.in-Ok.ensures.answer v stands)), c.in-Ok.ensures.step v stands)

pub returns-in-Err-State : goal.returns-in-Err-State
returns-in-Err-State c = λ v stands.
    let told = rw c.in-Err-State.field-0-is at (c.in-Err-State.ensures.answer v stands) in
    (v, counted_as _ _ _ _ _ _ c.in-Err-State.ensures.counts (ResetsOne c.args.stream NotAgreed told), c.in-Err-State.ensures.step v stands)

pub returns-in-Err-NoSuchStream : goal.returns-in-Err-NoSuchStream
returns-in-Err-NoSuchStream c = λ v stands.
    let told = rw c.in-Err-NoSuchStream.field-0-is at (c.in-Err-NoSuchStream.ensures.answer v stands) in
    (v, counted_as _ _ _ _ _ _ c.in-Err-NoSuchStream.ensures.counts (ResetsOne c.args.stream NoStream told), c.in-Err-NoSuchStream.ensures.step v stands)

pub returns-in-Err-NoMemory : goal.returns-in-Err-NoMemory
returns-in-Err-NoMemory c = λ v stands.
    (v, counted_as _ _ _ v _ _ c.in-Err-NoMemory.ensures.counts (WantsMemory _ refl), c.in-Err-NoMemory.ensures.step v stands)
