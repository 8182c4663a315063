use Rattle.std.proofs.Common.{◌≡◌, ◌∙◌, ◌++◌, ◌≤◌, ℕ, List, length, map, sym, ap, subst}
use Rattle.std.specs.List.{All}
use Rattle.std.proofs.lemmas.List.{length-map}
use Rattle.sctp_wire.specs.ChunkTree.{sack_meaning}
use Rattle.sctp_model.specs.sender.SackTaken.{sack_after}
use Rattle.sctp_send.specs.OutstandingFields.{item_meaning}
use Rattle.sctp_send.specs.SenderKept.{Kept}
use Rattle.sctp_send.specs.SenderStands.{StandsFor}
use Rattle.sctp_send.specs.CoveredRuns.{AreCovered}
use Rattle.sctp_send.specs.FillAnswers.{AreRising}
use Rattle.sctp_send.specs.PaceAnswers.{AreTakenBack}
use Rattle.sctp_send.specs.declared.kept.entry.CoveredRun.{CoveredRun}
use Rattle.sctp_send.specs.inner.Dues.{LieIn}
use Rattle.sctp_send.specs.inner.Testing.{index_of, offsets_that}
use Rattle.sctp_send.specs.inner.Weighing.{is_uncovered}
use Rattle.sctp_send.proofs.pace.AfterLemmas.{after_sack}
use Rattle.sctp_send.proofs.pace.BackLemmas.{none_outside, back_told}
use Rattle.sctp_send.proofs.sender.Sender.list_uncovered.Goals as goal

pub returns-then-lie_in-clause-back : goal.returns-then-lie_in-clause-back
unfolding StandsFor
returns-then-lie_in-clause-back g c = λ v stands none.
    let s = c.self.inside in
    let x = sack_meaning c.args.sack.now in
    let n = c.in-Ok.passed in
    let p = (c.in-Ok.ensures.answer v stands).0 in
    let runs = ap (λ (k : Kept). k.runs) c.self.view_is in
    let covered = subst (λ (o : _). AreCovered o v.covered v.cum) (sym runs) stands.holds.covered in
    let lies = subst (λ (rs : List CoveredRun). LieIn n rs c.args.sack.now.blocks) c.deref.ensures.value (c.lie_in.ensures c.if-lie_in.true) in
    none_outside v (sack_after v x) s.told.is_known s.told.covered.items c.args.back.now.items n c.args.sack.now.blocks c.requires.fresh c.if-self.true lies covered (after_sack g.F.Framing.format v x n stands.reached p none)

pub returns-clause-back : goal.returns-clause-back
unfolding StandsFor
returns-clause-back g c = λ v stands none.
    let f = g.F.Framing.format in
    let s = c.self.inside in
    let x = sack_meaning c.args.sack.now in
    let n = c.in-Ok.passed in
    let bs = c.args.sack.now.blocks in
    let p = (c.in-Ok.ensures.answer v stands).0 in
    let xs = map (item_meaning s.told.fragment) s.parts.outstanding.items in
    let items = ap (λ (k : Kept). k.items) c.self.view_is in
    let cum = ap (λ (k : Kept). k.cum) c.self.view_is in
    let ks = offsets_that (is_uncovered xs n bs) 0 (length s.parts.outstanding.items) in
    let listed : c.list_between.new.back.items ≡ map (index_of c.args.self.now.cum) (offsets_that (is_uncovered xs n bs) 0 (length xs)) = c.in_ok-list_between.ensures s.told.fragment ∙ ap (λ (is : List ℕ). is ++ map (index_of s.told.cum) ks) c.requires.fresh ∙ ap (λ (m : ℕ). map (index_of m) ks) cum
    ∙ ap (λ (m : ℕ). map (index_of c.args.self.now.cum) (offsets_that (is_uncovered xs n bs) 0 m)) (sym (length-map s.parts.outstanding.items (item_meaning s.told.fragment))) in
    back_told f c.args.self.now v (sack_after v x) n bs xs c.list_between.new.back.items stands (after_sack f v x n stands.reached p none) items listed

pub returns-clause-highest : goal.returns-clause-highest
returns-clause-highest g c = λ v stands none.
    let is = c.list_between.new.back.items in
    let back : AreTakenBack v (sack_after v (sack_meaning c.args.sack.now)) is = returns-clause-back g c v stands none in
    let same : c.deref-2.result.now ≡ is = c.deref-2.ensures.value in
    subst (λ (js : List ℕ). All (λ i. i ≤ c.highest.result) js) same (c.highest.ensures v.cum (subst (AreRising v.cum) (sym same) back.rising))
