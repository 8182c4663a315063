use Rattle.std.proofs.Common.{map, Some, arith}
use Rattle.sctp_send.specs.SenderFields.{queued_by}
use Rattle.sctp_send.specs.inner.Owning.{messages_of}
use Rattle.sctp_send.specs.inner.Seating.{NextOnAnswer}
use Rattle.sctp_send.specs.declared.kept.seats.Found.{Found}
use Rattle.sctp_send.proofs.kept.OwnedLemmas.{messages_long}
use Rattle.sctp_send.proofs.kept.queue.Queue.next_on.Goals as goal

pub returns-then-is_in_front-clause-next : goal.returns-then-is_in_front-clause-next
returns-then-is_in_front-clause-next c = λ size.
    let found : Found = record { stream = c.args.from; place = 0 } in
    let w = c.self.inside in
    let on : NextOnAnswer c.args.from c.args.below (map (queued_by size) (messages_of w.messages.items)) (Some found) = record {
      above = omega arith;
      low = c.is_in_front.ensures.low c.if-is_in_front.true;
      first = c.is_in_front.ensures.first size c.if-is_in_front.true;
      before = λ s le less. absurd (omega (arith, le, less));
    } in
    rw (← c.self.view_is) on

pub returns-then-is_in_front-clause-within : goal.returns-then-is_in_front-clause-within
returns-then-is_in_front-clause-within c = let many = messages_long c.self.inside.messages.items in let some = c.is_in_front.ensures.within c.if-is_in_front.true in rw (← c.self.view_is) (omega (arith, some, many))

pub returns-then-self-2-clause-next : goal.returns-then-self-2-clause-next
returns-then-self-2-clause-next c = λ size. rw (← c.self.view_is) (c.next_by_seats.ensures.next size)

pub returns-clause-next : goal.returns-clause-next
returns-clause-next c = λ size. rw (← c.self.view_is) (c.next_by_looking.ensures.next size)
