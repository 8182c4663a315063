use Rattle.std.proofs.Common.{◌≡◌, ℕ, ◌-◌, ◌∙◌, None, refl, length, subst, sym, ap, arith}
use Rattle.std.proofs.lemmas.Grind.{common_steps}
use Rattle.std.proofs.lemmas.List.{length-map}
use Rattle.sctp_wire.specs.ChunkTree.{sack_meaning}
use Rattle.sctp_send.specs.OutstandingFields.{item_meaning}
use Rattle.sctp_send.specs.SenderKept.{Kept}
use Rattle.sctp_send.specs.SenderStands.{StandsFor}
use Rattle.sctp_send.specs.inner.Acknowledging.{block_fault}
use Rattle.sctp_send.proofs.sack.SackLemmas.{sack_by_blocks, blocks_good}
use Rattle.sctp_send.proofs.sender.Sender.passed_by_sack.Goals as goal

pub returns-then-reach_past-clause-answer : goal.returns-then-reach_past-clause-answer
unfolding StandsFor
returns-then-reach_past-clause-answer g c = λ v stands.
    let s = c.self.inside in
    let n = c.in_ok-passed.passed in
    let p = c.in_ok-passed.ensures.answer v stands in
    let long = c.len.ensures ∙ sym (length-map s.parts.outstanding.items (item_meaning s.told.fragment)) ∙ ap (λ (k : Kept). length k.items) c.self.view_is in
    let by = sack_by_blocks g.F.Framing.format _ v (sack_meaning c.args.sack.now) n (c.len.result - n) stands p (omega (arith, long, c.in_ok-passed.ensures.within)) in
    by ∙ rw (sym c.reach_past.ensures ∙ c.if-reach_past.true) refl

pub returns-then-are_disordered-clause-answer : goal.returns-then-are_disordered-clause-answer
unfolding StandsFor
returns-then-are_disordered-clause-answer g c = λ v stands.
    let s = c.self.inside in
    let n = c.in_ok-passed.passed in
    let p = c.in_ok-passed.ensures.answer v stands in
    let long = c.len.ensures ∙ sym (length-map s.parts.outstanding.items (item_meaning s.told.fragment)) ∙ ap (λ (k : Kept). length k.items) c.self.view_is in
    let by = sack_by_blocks g.F.Framing.format _ v (sack_meaning c.args.sack.now) n (c.len.result - n) stands p (omega (arith, long, c.in_ok-passed.ensures.within)) in
    by ∙ rw (sym c.reach_past.ensures ∙ c.if-reach_past.false, sym c.are_disordered.ensures ∙ c.if-are_disordered.true) refl

pub returns-clause-answer : goal.returns-clause-answer
unfolding StandsFor
returns-clause-answer g c = λ v stands.
    let s = c.self.inside in
    let n = c.in_ok-passed.passed in
    let p = c.in_ok-passed.ensures.answer v stands in
    let long = c.len.ensures ∙ sym (length-map s.parts.outstanding.items (item_meaning s.told.fragment)) ∙ ap (λ (k : Kept). length k.items) c.self.view_is in
    let by = sack_by_blocks g.F.Framing.format _ v (sack_meaning c.args.sack.now) n (c.len.result - n) stands p (omega (arith, long, c.in_ok-passed.ensures.within)) in
    (p, by ∙ rw (sym c.reach_past.ensures ∙ c.if-reach_past.false, sym c.are_disordered.ensures ∙ c.if-are_disordered.false) refl)

pub returns-clause-blocks : goal.returns-clause-blocks
returns-clause-blocks g c =
    let s = c.self.inside in
    let n = c.in_ok-passed.passed in
    let good = blocks_good (c.len.result - n) c.args.sack.now.blocks (sym c.reach_past.ensures ∙ c.if-reach_past.false) (sym c.are_disordered.ensures ∙ c.if-are_disordered.false) in
    let long = c.len.ensures ∙ sym (length-map s.parts.outstanding.items (item_meaning s.told.fragment)) ∙ ap (λ (k : Kept). length k.items) c.self.view_is in
    subst (λ (j : ℕ). block_fault (j - n) c.args.sack.now.blocks ≡ None) long good

pub overflow_sub-left : goal.overflow_sub-left
overflow_sub-left g c = grind (arith, common_steps)
