use Rattle.std.proofs.Common.{◌<◌, ℕ, List, sym, subst, arith}
use Rattle.std.specs.List.{Contains}
use Rattle.sctp_sequence.specs.Pairs.{PairsKept, AreSame, IsFirstFrom, IsRank}
use Rattle.sctp_sequence.specs.declared.pairs.Pair.{Pair}
use Rattle.sctp_sequence.proofs.PairLemmas.{found_first, found_none}
use Rattle.sctp_sequence.proofs.pairs.Pairs.first_from.Goals as goal

pub returns-then-rank-len : goal.returns-then-rank-len
returns-then-rank-len c =
    let ps = c.self.inside.pairs.items in
    let i = c.rank_of-rank.result in
    let rank = subst (λ (n : ℕ). IsRank n ps i) c.key_of.ensures.exact (subst (λ (k : PairsKept). IsRank c.key_of.result k.items i) (sym c.self.view_is) c.rank_of-rank.ensures) in
    subst (λ (k : PairsKept). (qs : List Pair) → AreSame k.items qs → IsFirstFrom c.args.first qs c.index.result.now) c.self.view_is
    (λ qs same. found_first c.args.first i ps qs c.index.result.now c.self.invariant rank (omega (arith, c.len.ensures, c.if-rank-len.true, c.self.inside.pairs.ok)) c.index.ensures same)

pub returns-else-rank-len : goal.returns-else-rank-len
returns-else-rank-len c =
    let ps = c.self.inside.pairs.items in
    let i = c.rank_of-rank.result in
    let rank = subst (λ (n : ℕ). IsRank n ps i) c.key_of.ensures.exact (subst (λ (k : PairsKept). IsRank c.key_of.result k.items i) (sym c.self.view_is) c.rank_of-rank.ensures) in
    subst (λ (k : PairsKept). (qs : List Pair) → AreSame k.items qs → (q : Pair) → Contains qs q → q.first < c.args.first) c.self.view_is
    (λ qs same. found_none c.args.first i ps qs c.self.invariant rank (omega (arith, c.len.ensures, c.if-rank-len.false, c.self.inside.pairs.ok)) same)
