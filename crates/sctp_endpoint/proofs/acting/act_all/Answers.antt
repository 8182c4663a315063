use Rattle.std.proofs.Common.{true, false, [], ◌∷◌, ◌++◌, append_assoc, length, refl, ◌∙◌, ap, subst, arith}
use Rattle.std.proofs.lemmas.Grind.{common_steps}
use Rattle.std.proofs.lemmas.Result.{err_from_is_err_and}
use Rattle.sctp_model.specs.end.EndView.{Configuration}
use Rattle.sctp_model.specs.end.Strays as model
use Rattle.sctp_model.specs.end.PeerFaults.{STATE}
use Rattle.sctp_endpoint.specs.Handled.{IsAnsweredWithin}
use Rattle.sctp_endpoint.specs.inner.Acted.{notes_meaning}
use Rattle.sctp_endpoint.proofs.ChunksInTurn.{begins, ends, behind_more, behind_none, behind_all, behind_end, set_up_behind}
use Rattle.sctp_endpoint.proofs.CountLemmas.{counted_on, counted_all}
use Rattle.sctp_endpoint.proofs.acting.act_all.Goals as goal

pub loop-rest-init : goal.loop-rest-init
loop-rest-init c = (λ v stands. ([], v, refl, stands, λ rest u n y all. all), refl, c.requires)

pub loop-rest-smaller : goal.loop-rest-smaller
loop-rest-smaller c =
    let s = begins c.loop-rest.rest (grind (arith, common_steps)) in
    omega (arith, ap length s.2, ap length (c.act_next.ensures.taken s.0 s.1 s.2))

pub loop-rest-preserved : goal.loop-rest-preserved
loop-rest-preserved c = (
  λ v stands.
      let i = c.loop-rest.invariant.0 v stands in
      let s = begins c.loop-rest.rest (grind (arith, common_steps)) in
      let one = rw c.if-branch.false at c.in_ok-act_next.ensures.step i.1 s.0 s.1 s.2 i.3 in (
        i.0 ++ s.0 ∷ [],
        one.0,
        rw (append_assoc, c.act_next.ensures.taken s.0 s.1 s.2, ← s.2) i.2,
        one.1,
        behind_more c.args.tag v i.1 one.0 _ (notes_meaning c.loop-rest.notes) (notes_meaning c.act_next.new.notes) i.0 s.0 i.4 one.2,
      ),
  let s = begins c.loop-rest.rest (grind (arith, common_steps)) in
      counted_on _ _ _ _ _ _ s.2 (c.act_next.ensures.taken s.0 s.1 s.2) (c.act_next.ensures.sacks s.0 s.1 s.2) ∙ c.loop-rest.invariant.1,
  c.loop-rest.invariant.2,
)

pub returns-then-branch-clause-step : goal.returns-then-branch-clause-step
returns-then-branch-clause-step c = λ v stands.
    let i = c.loop-rest.invariant.0 v stands in
    let s = begins c.loop-rest.rest (grind (arith, common_steps)) in
    let one = rw c.if-branch.true at c.in_ok-act_next.ensures.step i.1 s.0 s.1 s.2 i.3 in (
      one.0,
      one.1,
      behind_end c.args.tag v i.1 one.0 _ c.loop-rest.notes c.act_next.new.notes _ i.0 s.1 s.0 one.1 one.2 (rw (← s.2) i.2) i.4 one.3,
      one.4,
      subst (λ (k : Configuration). IsAnsweredWithin k.limit c.act_next.new.told) (set_up_behind c.args.tag v i.1 _ (notes_meaning c.loop-rest.notes) i.0 i.4) one.5,
      one.6,
    )

pub returns-in_err-act_next-clause-step : goal.returns-in_err-act_next-clause-step
returns-in_err-act_next-clause-step c = λ v stands.
    let i = c.loop-rest.invariant.0 v stands in
    let s = begins c.loop-rest.rest (grind (arith, common_steps)) in
    let one = c.in_err-act_next.ensures.step i.1 s.0 s.1 s.2 i.3 in
    let p = err_from_is_err_and c.from_residual.result c.from_residual.ensures.1 in
    rw p.1 (
      i.0,
      s.1,
      s.0,
      i.1,
      rw (← s.2) i.2,
      one.2,
      rw one.1 (behind_none c.args.tag v i.1 _ (notes_meaning c.loop-rest.notes) i.0 i.4),
      one.0,
    )

pub returns-then-notes-clause-step : goal.returns-then-notes-clause-step
returns-then-notes-clause-step c = λ v stands.
    let i = c.loop-rest.invariant.0 v stands in
    let none = ends c.loop-rest.rest (grind (arith, common_steps)) in
    rw c.loop-rest.invariant.2 (i.1, model.Taken, behind_all c.args.tag v i.1 _ (notes_meaning c.loop-rest.notes) true _ i.0 _ c.if-notes.true i.2 none i.4, refl, tt, i.3)

pub returns-clause-step : goal.returns-clause-step
returns-clause-step c = λ v stands.
    let i = c.loop-rest.invariant.0 v stands in
    let none = ends c.loop-rest.rest (grind (arith, common_steps)) in
    (i.1, model.Dropped STATE, behind_all c.args.tag v i.1 _ (notes_meaning c.loop-rest.notes) false _ i.0 _ c.if-notes.false i.2 none i.4, refl, tt, i.3)

-- ---- the SACKs that are counted

pub returns-then-branch-clause-sacks : goal.returns-then-branch-clause-sacks
returns-then-branch-clause-sacks c =
    let s = begins c.loop-rest.rest (grind (arith, common_steps)) in
    c.count_sacks.ensures ∙ counted_on _ _ _ _ _ _ s.2 (c.act_next.ensures.taken s.0 s.1 s.2) (c.act_next.ensures.sacks s.0 s.1 s.2) ∙ c.loop-rest.invariant.1

pub returns-then-notes-clause-sacks : goal.returns-then-notes-clause-sacks
returns-then-notes-clause-sacks c = counted_all _ _ _ (ends c.loop-rest.rest (grind (arith, common_steps))) c.loop-rest.invariant.1

pub returns-clause-sacks : goal.returns-clause-sacks
returns-clause-sacks c = counted_all _ _ _ (ends c.loop-rest.rest (grind (arith, common_steps))) c.loop-rest.invariant.1
