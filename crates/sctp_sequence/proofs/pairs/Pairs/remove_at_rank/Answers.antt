use Rattle.std.proofs.Common.{◌∙◌, ◌<◌, ◌^◌, ℕ, List, ap, sym, subst, arith}
use Rattle.std.proofs.lemmas.List.{get_or_default}
use Rattle.std.proofs.lemmas.List.Elements.{All-drop}
use Rattle.std.proofs.lemmas.List.Sorted.{IsNonDecreasingBy-drop}
use Rattle.sctp_sequence.specs.Pairs.{PairsKept, AreSame, AreOrdered, AreSmall, IsRank, key}
use Rattle.sctp_sequence.specs.declared.pairs.Pair.{Pair}
use Rattle.sctp_sequence.proofs.PairLemmas.{rank_there}
use Rattle.sctp_sequence.proofs.pairs.Pairs.remove_at_rank.Goals as goal
use Rattle.sctp_sequence.proofs.pairs.Pairs.remove_at_rank.Goals.{then-rank-len-via-then-rank-len, then-rank-len-via-else-rank-len+then-key_of}

pub returns-then-rank-len-clause-there : goal.returns-then-rank-len-clause-there
returns-then-rank-len-clause-there c = λ qs same there.
    let ps = c.self.inside.pairs.items in
    let i = c.rank_of-rank.result in
    let p : Pair = c.args.pair in
    let rank = subst (λ (n : ℕ). IsRank n ps i) c.key_of.ensures.exact (subst (λ (k : PairsKept). IsRank c.key_of.result k.items i) (sym c.self.view_is) c.rank_of-rank.ensures) in
    let found = rank_there i p ps qs c.self.invariant rank (subst (λ (k : PairsKept). AreSame k.items qs) (sym c.self.view_is) same) there in
    absurd (elim c.then-rank-len.branch [
      | then-rank-len-via-then-rank-len w ↦ omega (arith, w.if-rank-len.true, c.len.ensures, c.self.inside.pairs.ok, found.0)
      | then-rank-len-via-else-rank-len+then-key_of w ↦
          w.if-key_of.true (w.key_of-else-rank-len.ensures.exact ∙ ap key (w.index.ensures ∙ get_or_default ps i w.index.result.now p found.0) ∙ found.1 ∙ sym w.key_of-else-rank-len-2.ensures.exact)
    ])

pub invariant_of-self : goal.invariant_of-self
invariant_of-self c =
    let ps = c.self.inside.pairs.items in
    let h = c.self.invariant in
    subst (λ (qs : List Pair). AreOrdered qs) (sym c.pop_front.ensures.rest) (record { order = IsNonDecreasingBy-drop key 1 ps h.order; small = All-drop AreSmall 1 ps h.small })
