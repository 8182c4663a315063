use Rattle.std.proofs.Common.{◌≡◌, ◌∙◌, ℕ, List, None, map, subst, ap}
use Rattle.sctp_send.specs.OutstandingFields.{item_meaning}
use Rattle.sctp_send.specs.SenderKept.{Item, Kept}
use Rattle.sctp_send.specs.SenderStands.{StandsFor}
use Rattle.sctp_send.specs.inner.Wishing.{first_offset, is_item_marked}
use Rattle.sctp_send.proofs.pace.AgainLemmas.{fill_unmarked}
use Rattle.sctp_send.proofs.sender.Sender.may_repeat.Goals as goal

pub returns : goal.returns
unfolding StandsFor
returns g c = λ v stands off room.
    let s = c.self.inside in
    let items : map (item_meaning s.parts.outstanding.size) s.parts.outstanding.items ≡ c.args.self.now.items = ap (λ (n : ℕ). map (item_meaning n) s.parts.outstanding.items) c.self.invariant.window ∙ ap (λ (k : Kept). k.items) c.self.view_is in
    fill_unmarked g.F.Framing.format room room _ v stands (subst (λ (xs : List Item). first_offset is_item_marked xs ≡ None) items (c.may_repeat.ensures off))
