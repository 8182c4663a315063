use Rattle.std.proofs.Common.{◌-◌, ◌^◌, ◌<◌, ◌∙◌, List, length, ap, subst, sym, arith}
use Rattle.std.proofs.lemmas.List.{length-map, length-set}
use Rattle.sctp_send.specs.OutstandingFields.{item_meaning}
use Rattle.sctp_send.specs.inner.Changes.{as_abandoned}
use Rattle.sctp_send.specs.SenderKept.{Kept}
use Rattle.sctp_send.specs.declared.kept.entry.Entry.{Entry as EntryFields}
use Rattle.sctp_send.specs.declared.kept.message.Fate.{Fate}
use Rattle.sctp_send.specs.declared.kept.message.Fate.TheVariants.{Abandoned}
use Rattle.sctp_send.specs.SenderStands.{StandsFor, Keeps}
use Rattle.sctp_send.proofs.abandon.AbandonedLemmas.{items_abandoned}
use Rattle.sctp_send.proofs.abandon.EndLemmas.{keeps_abandoned, keeps_ended}
use Rattle.sctp_send.proofs.abandon.AnswerLemmas.{may_be_abandoned, whole_is}
use Rattle.sctp_send.proofs.OverKept.{open_missing}
use Rattle.sctp_send.proofs.sender.Sender.give_up.Goals as goal

pub returns-in-Some : goal.returns-in-Some
unfolding StandsFor
returns-in-Some g c = λ v stands on may.
    let s = c.self.inside in
    let keeps = subst (λ (k : Kept). Keeps g.F.Framing.format k v) (sym c.self.view_is) stands in
    let m = may_be_abandoned g.F.Framing.format _ v c.args.ticket keeps on may in
    let behind = open_missing g.F.Framing.format _ v c.args.ticket keeps (whole_is g.F.Framing.format _ v c.args.ticket m.name keeps m.kept ∙ m.uncovered) in
    let few : length s.told.fates.items < 2 ^ 64 = (let put = ap (λ (xs : List Fate). length xs) (c.give_up.ensures.items (omega (arith, behind))) ∙ length-set s.told.fates.items (c.args.ticket - 1) Abandoned in let all = c.give_up.ensures.few in omega (arith, put, all)) in
    let taken = keeps_ended g.F.Framing.format _ v c.args.ticket m.name _ _ keeps m.kept m.uncovered m.partial few (c.in-Some.ensures.some s.told.fragment) in
    let long = length-map s.parts.outstanding.items (item_meaning s.told.fragment) in
    let same = ap (λ (es : List EntryFields). length es) c.abandon.ensures.items ∙ length-map s.parts.outstanding.items (as_abandoned c.args.ticket) in
    let room : length c.abandon.new.self.items < c.abandon.new.self.capacity = omega (arith, taken.0, long, same, c.abandon.ensures.kept.capacity) in
    rw (c.give_up.ensures.items (omega (arith, behind)), c.give_up.ensures.ended, c.give_up.ensures.abandoned, c.push_end.ensures.items s.told.fragment room, c.abandon.ensures.items, items_abandoned, (c.push_end.ensures.kept room).capacity, c.abandon.ensures.kept.capacity) taken.1

pub returns-in_default : goal.returns-in_default
unfolding StandsFor
returns-in_default g c = λ v stands on may.
    let s = c.self.inside in
    let keeps = subst (λ (k : Kept). Keeps g.F.Framing.format k v) (sym c.self.view_is) stands in
    let m = may_be_abandoned g.F.Framing.format _ v c.args.ticket keeps on may in
    let behind = open_missing g.F.Framing.format _ v c.args.ticket keeps (whole_is g.F.Framing.format _ v c.args.ticket m.name keeps m.kept ∙ m.uncovered) in
    let few : length s.told.fates.items < 2 ^ 64 = (let put = ap (λ (xs : List Fate). length xs) (c.give_up.ensures.items (omega (arith, behind))) ∙ length-set s.told.fates.items (c.args.ticket - 1) Abandoned in let all = c.give_up.ensures.few in omega (arith, put, all)) in
    let taken = keeps_abandoned g.F.Framing.format _ v c.args.ticket m.name keeps m.kept m.uncovered m.partial few (c.in_default.ensures.none s.told.fragment) in
    rw (c.give_up.ensures.items (omega (arith, behind)), c.give_up.ensures.ended, c.give_up.ensures.abandoned, c.abandon.ensures.items, items_abandoned, c.in_default.ensures.same, c.abandon.ensures.kept.capacity) taken
