use Rattle.std.proofs.Common.{◌≡◌, ◌∙◌, suc, ◌+◌, Bool, true, subst, sym, ap, refl, arith}
use Rattle.std.specs.Prelude.{◌&&◌}
use Rattle.std.proofs.lemmas.Bool.{and_right}
use Rattle.std.proofs.lemmas.List.{length-map}
use Rattle.sctp_send.specs.SenderKept.{Kept}
use Rattle.sctp_send.specs.SenderStands.{StandsFor, Keeps}
use Rattle.sctp_send.specs.OutstandingFields.{item_meaning}
use Rattle.sctp_send.specs.inner.Walks.{is_item_unsettled}
use Rattle.sctp_send.specs.inner.Marking.{is_spent}
use Rattle.sctp_send.specs.declared.kept.message.Message.{Message as MessageFields}
use Rattle.sctp_send.proofs.abandon.WearLemmas.{kept_at, kept_beyond, at_capped, at_ticket, at_worn, none_worn_at}
use Rattle.sctp_send.proofs.sender.Sender.worn_at.Goals as goal
use Rattle.sctp_send.proofs.sender.Sender.worn_at.Goals.{else-is_unsettled-via-then-is_unsettled+else-is_spent, else-is_unsettled-via-else-is_unsettled}

pub returns-then-at-len : goal.returns-then-at-len
unfolding StandsFor
returns-then-at-len g c = λ v stands test on.
    let s = c.self.inside in
    let keeps = subst (λ (k : Kept). Keeps g.F.Framing.format k v) (sym c.self.view_is) stands in
    none_worn_at test v (suc (v.cum + c.args.at)) (kept_beyond g.F.Framing.format _ v c.args.at keeps (omega (arith, c.len.ensures, c.if-at-len.true, length-map s.parts.outstanding.items (item_meaning s.told.fragment))))

pub returns-then-is_spent : goal.returns-then-is_spent
unfolding StandsFor
returns-then-is_spent g c = λ v stands test on.
    let s = c.self.inside in
    let keeps = subst (λ (k : Kept). Keeps g.F.Framing.format k v) (sym c.self.view_is) stands in
    let size = s.told.fragment in
    let x = c.get-entry.result.now in
    let i = suc (v.cum + c.args.at) in
    let h = kept_at g.F.Framing.format _ v size c.args.at s.parts.outstanding.items x keeps refl (omega (arith, c.len.ensures, c.if-at-len.false)) c.get-entry.ensures in
    let unsettled : is_item_unsettled (item_meaning size x) ≡ true = sym (c.is_unsettled.ensures size) ∙ c.if-is_unsettled.true in
    let spent : is_spent s.told.partial (v.repeats i) x ≡ true = sym (c.is_spent.ensures (v.repeats i) (at_capped v size c.args.at x h)) ∙ c.if-is_spent.true in
    (at_worn g.F.Framing.format _ v test size c.args.at x keeps h on ∙ rw (unsettled, spent) refl, ap (λ (m : MessageFields). m.ticket) c.deref.ensures ∙ at_ticket v size c.args.at x h)

pub returns : goal.returns
unfolding StandsFor
returns g c = λ v stands test on.
    let s = c.self.inside in
    let keeps = subst (λ (k : Kept). Keeps g.F.Framing.format k v) (sym c.self.view_is) stands in
    let size = s.told.fragment in
    let x = c.get-entry.result.now in
    let i = suc (v.cum + c.args.at) in
    let h = kept_at g.F.Framing.format _ v size c.args.at s.parts.outstanding.items x keeps refl (omega (arith, c.len.ensures, c.if-at-len.false)) c.get-entry.ensures in
    at_worn g.F.Framing.format _ v test size c.args.at x keeps h on ∙ elim c.else-is_unsettled.branch [
      | else-is_unsettled-via-then-is_unsettled+else-is_spent w ↦
          and_right (is_item_unsettled (item_meaning size x)) (is_spent s.told.partial (v.repeats i) x) (sym (w.is_spent.ensures (v.repeats i) (at_capped v size c.args.at x h)) ∙ w.if-is_spent.false)
      | else-is_unsettled-via-else-is_unsettled w ↦ ap (λ (b : Bool). b && is_spent s.told.partial (v.repeats i) x) (sym (c.is_unsettled.ensures size) ∙ w.if-is_unsettled.false)
    ]
