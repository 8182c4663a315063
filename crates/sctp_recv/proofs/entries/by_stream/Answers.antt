use Rattle.std.proofs.Common.{◌≡◌, ◌++◌, List, map, sym, ◌∙◌, ap, subst, rules}
use Rattle.std.specs.List.Sorted.{IsPermutation}
use Rattle.std.proofs.lemmas.List.{append-nil}
use Rattle.std.proofs.lemmas.List.Sorted.{IsNonDecreasingBy-from_sort_by_key, IsPermutation-map}
use Rattle.sctp_model.specs.wire.Chunk.{SkipMeaning}
use Rattle.sctp_wire.specs.declared.skips.Skip.{Skip}
use Rattle.sctp_wire.specs.ChunkTree.{skip_meaning}
use Rattle.sctp_recv.proofs.entries.by_stream.Goals as goal

pub returns-clause-rising : goal.returns-clause-rising
returns-clause-rising c = IsNonDecreasingBy-from_sort_by_key (λ (e : Skip). e.stream) _ c.sort_unstable_by_key.ensures.sorted (λ a r q k. search rules)

pub returns-clause-same : goal.returns-clause-same
returns-clause-same c =
    let read = map skip_meaning c.loop-skip.entries.items in
    let all : read ≡ c.args.skips.now.skips = sym (append-nil read) ∙ ap (λ (rest : List SkipMeaning). read ++ rest) (sym c.in-None.ensures.steps.0) ∙ c.loop-skip.invariant in
    subst (λ (xs : List SkipMeaning). IsPermutation xs (map skip_meaning c.sort_unstable_by_key.new.self.items)) all
    (IsPermutation-map skip_meaning c.loop-skip.entries.items c.sort_unstable_by_key.new.self.items c.sort_unstable_by_key.ensures.permutation)
