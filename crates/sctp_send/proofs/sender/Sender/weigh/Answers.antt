use Rattle.std.proofs.Common.{◌∙◌, ℕ, List, map, sym, ap, subst}
use Rattle.sctp_wire.specs.ChunkTree.{sack_meaning}
use Rattle.sctp_model.specs.sender.SackTaken.{sack_covers, sack_after}
use Rattle.sctp_send.specs.OutstandingFields.{item_meaning}
use Rattle.sctp_send.specs.SenderKept.{Item, Kept}
use Rattle.sctp_send.specs.SenderStands.{StandsFor}
use Rattle.sctp_send.specs.CoveredRuns.{AreCovered}
use Rattle.sctp_send.specs.inner.Weighing.{IsTallied, LieCovered}
use Rattle.sctp_send.proofs.pace.AfterLemmas.{sound, after_sack, lie_covered}
use Rattle.sctp_send.proofs.sender.Sender.weigh.Goals as goal

pub returns : goal.returns
unfolding StandsFor
returns g c = λ v stands none.
    let f = g.F.Framing.format in
    let s = c.self.inside in
    let x = sack_meaning c.args.sack.now in
    let n = c.in-Ok.passed in
    let p = (c.in-Ok.ensures.answer v stands).0 in
    let items = ap (λ (m : ℕ). map (item_meaning m) s.parts.outstanding.items) c.self.invariant.window ∙ ap (λ (k : Kept). k.items) c.self.view_is in
    let runs = ap (λ (k : Kept). k.runs) c.self.view_is in
    let covered = subst (λ (o : _). AreCovered o v.covered v.cum) (sym runs) stands.holds.covered in
    let lie = lie_covered f c.args.self.now v c.known_runs.result.now stands (λ i some on. c.known_runs.ensures v.covered v.cum i covered some on) in
    let lies = subst (λ (xs : List Item). LieCovered c.known_runs.result.now xs) (sym items) lie in
    let tallied = subst (λ (header : ℕ). IsTallied header c.args.self.now.items (sack_covers n c.args.sack.now.blocks) c.of_blocks-tally.result) c.self.invariant.header
    (subst (λ (xs : List Item). IsTallied s.parts.outstanding.header xs (sack_covers n c.args.sack.now.blocks) c.of_blocks-tally.result) items (c.of_blocks-tally.ensures lies (sound v x none).good)) in
    c.weight_of.ensures v (sack_after v x) (sack_covers n c.args.sack.now.blocks) c.args.timed stands (after_sack f v x n stands.reached p none) tallied (c.is_acked_by_blocks-acked.ensures v stands)
