use Rattle.std.proofs.Common.{List, ℕ, subst, sym, refl, ap, ◌∙◌}
use Rattle.std.specs.List.{list_any, AllByRecursion}
use Rattle.sctp_send.specs.SenderKept.{Kept}
use Rattle.sctp_send.specs.SenderStands.{StandsFor, Keeps}
use Rattle.sctp_send.specs.inner.Resetting.{is_still_in, is_low}
use Rattle.sctp_send.proofs.resetting.StillLemmas.{listed_low, has_ready, not_free, free_ready}
use Rattle.sctp_send.proofs.sender.Sender.may_ask.Goals as goal

pub returns-then-not-is_free : goal.returns-then-not-is_free
unfolding StandsFor
returns-then-not-is_free g c = λ v stands.
    let keeps = subst (λ (k : Kept). Keeps g.F.Framing.format k v) (sym c.self.view_is) stands in
    sym (not_free g.F.Framing.format _ v keeps (sym c.is_free.ensures ∙ c.if-not-is_free.true))

pub returns : goal.returns
unfolding StandsFor
returns g c = λ v stands.
    let s = c.self.inside in
    let f = g.F.Framing.format in
    let size = s.told.fragment in
    let keeps = subst (λ (k : Kept). Keeps f k v) (sym c.self.view_is) stands in
    let low = listed_low v.streams s.told.resets.table keeps.resets.table in
    let any = c.any_still.ensures size (subst (λ (xs : List ℕ). AllByRecursion is_low xs) (sym c.resetting.ensures) low) in
    any ∙ ap (list_any (is_still_in size s.parts)) c.resetting.ensures
    ∙ sym (free_ready f _ v keeps (sym c.is_free.ensures ∙ c.if-not-is_free.false) ∙ has_ready f _ v size s.parts keeps (record { items = refl; queue = refl; tracks = refl }))
