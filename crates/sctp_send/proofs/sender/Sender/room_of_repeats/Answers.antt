use Rattle.std.proofs.Common.{◌∙◌, ℕ, map, sym, ap, arith}
use Rattle.sctp_send.specs.OutstandingFields.{item_meaning}
use Rattle.sctp_send.specs.SenderKept.{Kept}
use Rattle.sctp_send.specs.SenderStands.{StandsFor}
use Rattle.sctp_send.specs.inner.Weighing.{repeats_room}
use Rattle.sctp_send.proofs.pace.RepeatLemmas.{fill_repeats}
use Rattle.sctp_send.proofs.sender.Sender.room_of_repeats.Goals as goal

pub returns-clause-count : goal.returns-clause-count
unfolding StandsFor
returns-clause-count g c = λ v stands.
    let items = ap (λ (k : Kept). k.items) c.self.view_is in
    let sized = ap (λ (n : ℕ). map (item_meaning n) c.self.inside.parts.outstanding.items) c.self.invariant.window in
    let is = fill_repeats g.F.Framing.format c.args.room c.args.room c.args.self.now v stands (omega arith) in
    c.room_of_repeats.ensures.count ∙ ap (repeats_room g.F.Framing.format c.args.room) (sized ∙ items) ∙ sym is
