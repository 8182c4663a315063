use Rattle.std.proofs.Common.{map, refl, arith}
use Rattle.sctp_send.specs.inner.Owning.{messages_of}
use Rattle.sctp_send.specs.inner.Seating.{seat_of}
use Rattle.sctp_send.proofs.kept.OwnedLemmas.{messages_long}
use Rattle.sctp_send.proofs.kept.SeatLemmas.{next_none, next_found, next_past, next_within}
use Rattle.sctp_send.proofs.kept.seats.next_by_seats.Goals as goal

pub returns-in_default-clause-next : goal.returns-in_default-clause-next
returns-in_default-clause-next c = λ size.
    let ms = messages_of c.args.messages.now.items in
    next_none c.args.from c.args.below size ms (rw c.from.ensures at (c.in_default.ensures (map seat_of ms) c.requires.seats))

pub returns-then-seat-from-clause-next : goal.returns-then-seat-from-clause-next
returns-then-seat-from-clause-next c = λ size.
    let ms = messages_of c.args.messages.now.items in
    next_past c.args.from c.args.below size ms c.in-Some.seat (rw c.from.ensures at (c.in-Some.ensures (map seat_of ms) c.requires.seats)) (omega arith)

pub returns-clause-next : goal.returns-clause-next
returns-clause-next c = λ size.
    let ms = messages_of c.args.messages.now.items in
    next_found c.args.from c.args.below size c.first_from-place.result ms c.in-Some.seat c.requires.rise (rw c.from.ensures at (c.in-Some.ensures (map seat_of ms) c.requires.seats)) (c.first_from-place.ensures.place refl) (omega arith)

pub returns-clause-within : goal.returns-clause-within
returns-clause-within c =
    let ms = messages_of c.args.messages.now.items in
    let many = messages_long c.args.messages.now.items in
    let within = next_within c.args.from c.first_from-place.result ms c.in-Some.seat c.requires.rise (rw c.from.ensures at (c.in-Some.ensures (map seat_of ms) c.requires.seats)) (c.first_from-place.ensures.place refl) in
    omega (arith, within, many)
