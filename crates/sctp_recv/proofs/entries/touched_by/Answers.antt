use Rattle.std.proofs.Common.{◌≡◌, ◌⊎◌, List, ◌++◌, ◌∷◌, [], inl, inr, sym, ◌∙◌, subst, arith}
use Rattle.std.specs.List.{Contains}
use Rattle.std.proofs.lemmas.Grind.{common_steps}
use Rattle.std.proofs.lemmas.List.Elements.{Contains-append_left, Contains-push}
use Rattle.std.proofs.lemmas.List.Sorted.{Contains-permutation, IsNonDecreasingBy-from_sort}
use Rattle.sctp_model.specs.wire.Chunk.{SkipMeaning}
use Rattle.sctp_wire.specs.ChunkTree.{skip_meaning}
use Rattle.sctp_recv.specs.inner.Forwarding.{IsNamed}
use Rattle.sctp_recv.proofs.TouchedLemmas.{named_kept, named_all}
use Rattle.sctp_recv.proofs.entries.touched_by.Goals as goal

pub loop-skip-init : goal.loop-skip-init
loop-skip-init c = λ s is.
    let entries : c.args.skips.now.skips ≡ c.into_iter-skip-iterator.result = sym (c.into_iter-skip-iterator.ensures.into_iter_gives ∙ c.iter-skip-items.ensures) in
    elim is [ inl marked ↦ inl (c.in_ok-streams.ensures s marked) | inr named ↦ inr (subst (IsNamed s) entries named) ]

pub loop-skip-preserved : goal.loop-skip-preserved
loop-skip-preserved c = λ s is.
    let old = c.loop-skip.streams.items in
    let put : c.push.new.self.items ≡ old ++ c.in-Some.skip.stream ∷ [] = grind (arith, common_steps) in
    let x = skip_meaning c.in-Some.skip in
    let rest : c.loop-skip.skip-iterator ≡ x ∷ c.next.new.self = grind (arith, common_steps) in
    named_kept s old c.push.new.self.items x c.next.new.self
    (λ q there. rw put (Contains-append_left old (c.in-Some.skip.stream ∷ []) q there)) (rw put (Contains-push old c.in-Some.skip.stream))
    (subst (λ (xs : List SkipMeaning). Contains old s ⊎ IsNamed s xs) rest (c.loop-skip.invariant s is))

pub returns-clause-rising : goal.returns-clause-rising
returns-clause-rising c = IsNonDecreasingBy-from_sort (λ n. n) c.sort_unstable.new.self.items c.sort_unstable.ensures.sorted

pub returns-clause-named : goal.returns-clause-named
returns-clause-named c = λ s is.
    Contains-permutation c.loop-skip.streams.items c.sort_unstable.new.self.items s c.sort_unstable.ensures.permutation
    (named_all s c.loop-skip.streams.items (subst (λ (xs : List SkipMeaning). Contains c.loop-skip.streams.items s ⊎ IsNamed s xs) c.in-None.ensures.steps.0 (c.loop-skip.invariant s is)))
