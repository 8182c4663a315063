use Rattle.std.proofs.Common.{◌≡◌, ◌∙◌, ◌%◌, ◌^◌, ◌<◌, true, length, sym, arith}
use Rattle.std.proofs.lemmas.Bool.{ltb-true}
use Rattle.sctp_model.specs.sender.Queueing.{cut}
use Rattle.sctp_model.proofs.sender.CutLaws.{cut_some}
use Rattle.sctp_send.specs.inner.Seating.{bytes_of, owed_by}
use Rattle.sctp_send.specs.declared.kept.waiting.Waiting.{Waiting}
use Rattle.sctp_send.proofs.kept.OwnedLemmas.{owned_new}
use Rattle.sctp_send.proofs.kept.SeatedLemmas.{queue_pushed}
use Rattle.sctp_send.proofs.kept.queue.Queue.push.Goals as goal
use Rattle.sctp_send.proofs.kept.queue.Queue.push.Goals.{then-self, else-self}

pub invariant_of-self-2 : goal.invariant_of-self-2
invariant_of-self-2 c =
    let w = c.self.inside in
    let x = c.args.message in
    let i = c.self.invariant in
    let is : c.args.fragments ≡ length (cut w.size x.value.bytes.items) = rw (← c.self.view_is) at c.requires.all in
    let some = cut_some w.size x.value.bytes.items i.some c.requires.some in
    let many = c.in_ok-take_others.ensures.1 in
    let own = owned_new w.size c.args.fragments x c.take_others.new.others.items i.some c.requires.short is c.in_ok-take_others.ensures.0 (omega (arith, some, is, many)) in
    let above : c.if-self.self ≡ true → (w.rises ≡ true) × (w.last < c.seat_of-seat.result.second) = λ on. elim c.if-self.branch [
      | then-self b ↦ (b.if-self.true, ltb-true w.last c.seat_of-seat.result.second (sym b.self-is ∙ on))
      | else-self b ↦ absurd (cc (b.self-is, on))
    ] in
    let seat = c.seat_of-seat.ensures in
    let one : Waiting = record { message = x; others = c.take_others.new.others } in
    let owes : c.owed.result ≡ owed_by w.size x % 2 ^ 64 = rw (← is) c.owed.ensures in
    let has : c.bytes_of-bytes.result ≡ bytes_of x = rw (← c.deref.ensures) c.bytes_of-bytes.ensures in
    let counted = rw c.deref-2.ensures at c.in_ok-add_bytes.ensures.counted in
    rw (c.push_back_reserved.ensures.items, c.in_ok-make_place.ensures.items, seat)
    (queue_pushed w.size w.owed c.owed.result w.bytes c.bytes_of-bytes.result w.last w.rises c.if-self.self w.is_seated w.messages.items one w.seats.items c.add_seat.new.seats.items w.user_bytes.items c.add_bytes.new.counts.items i owes has counted own
    (rw seat at above) (rw (seat, c.in_ok-make_room.ensures.items) at c.add_seat.ensures))
