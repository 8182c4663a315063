use Rattle.std.proofs.Common.{◌+◌, ◌≤◌, length, subst, sym, arith}
use Rattle.std.proofs.lemmas.List.{length-map}
use Rattle.sctp_send.specs.OutstandingFields.{item_meaning}
use Rattle.sctp_send.specs.SenderKept.{Kept}
use Rattle.sctp_send.specs.SenderStands.{StandsFor, Keeps}
use Rattle.sctp_send.proofs.RoomKept.{keeps_roomy}
use Rattle.sctp_send.proofs.sender.Sender.give_entries_back.Goals as goal

pub returns : goal.returns
unfolding StandsFor
returns g c = λ v stands.
    let f = g.F.Framing.format in
    let s = c.self.inside in
    let keeps = subst (λ (k : Kept). Keeps f k v) (sym c.self.view_is) stands in
    let owed = c.owed_by_accepted-owed.ensures v stands in
    let long = length-map s.parts.outstanding.items (item_meaning s.told.fragment) in
    let room = keeps.holds.room in
    let left : length s.parts.outstanding.items + c.owed_by_accepted-owed.result ≤ s.parts.outstanding.capacity = omega (arith, room, long, owed) in
    let still = c.give_back.ensures.room left in
    rw c.give_back.ensures.items
    (keeps_roomy f _ v c.give_back.new.self.capacity keeps (omega (arith, rw c.give_back.ensures.items at still, long, owed)))
