use Rattle.std.proofs.Common.{◌≡◌, ◌∙◌, ◌<◌, ℕ, List, map, length, false, sym, ap, subst, arith, ◌-◌}
use Rattle.std.proofs.lemmas.List.{length-map}
use Rattle.sctp_model.specs.sender.SackTaken.{shutdown_after}
use Rattle.sctp_send.specs.OutstandingFields.{item_meaning}
use Rattle.sctp_send.specs.SenderKept.{Item, Kept}
use Rattle.sctp_send.specs.SenderStands.{StandsFor}
use Rattle.sctp_send.specs.CoveredRuns.{AreCovered}
use Rattle.sctp_send.specs.inner.Weighing.{is_item_closed, passes_here, IsTallied}
use Rattle.sctp_send.proofs.pace.TallyLemmas.{Shut}
use Rattle.sctp_send.proofs.pace.AfterLemmas.{after_shutdown, none_closed}
use Rattle.sctp_send.proofs.sender.Sender.weigh_shutdown.Goals as goal

pub returns : goal.returns
unfolding StandsFor
returns g c = λ v stands none.
    let f = g.F.Framing.format in
    let s = c.self.inside in
    let es = s.parts.outstanding.items in
    let n = c.in-Ok.passed in
    let p = c.in-Ok.ensures.answer v stands in
    let sized = ap (λ (m : ℕ). map (item_meaning m) es) c.self.invariant.window in
    let view = ap (λ (k : Kept). k.items) c.self.view_is in
    let items = sized ∙ view in
    let count : length es ≡ length c.args.self.now.items = sym (length-map es (item_meaning s.told.fragment)) ∙ ap (λ (xs : List Item). length xs) view in
    let runs = ap (λ (k : Kept). k.runs) c.self.view_is in
    let covered = subst (λ (o : _). AreCovered o v.covered v.cum) (sym runs) stands.holds.covered in
    let off = none_closed f c.args.self.now v c.last_known.result stands (λ i lo hi. c.last_known.ensures v.covered v.cum i covered lo (omega (arith, hi, count))) in
    let offs = subst (λ (xs : List Item). (j : ℕ) → c.last_known.result < j → passes_here is_item_closed xs (j - 1) ≡ false) (sym items) off in
    let tallied = subst (λ (header : ℕ). IsTallied header c.args.self.now.items (Shut c.args.self.now.items n) c.of_shutdown-tally.result) c.self.invariant.header
    (subst (λ (xs : List Item). IsTallied s.parts.outstanding.header xs (Shut xs n) c.of_shutdown-tally.result) items (c.of_shutdown-tally.ensures offs)) in
    c.weight_of.ensures v (shutdown_after v c.args.tsn) (Shut c.args.self.now.items n) c.args.timed stands (after_shutdown f c.args.self.now v c.args.tsn n stands p none) tallied (c.is_acked_by_shutdown-acked.ensures v stands)
