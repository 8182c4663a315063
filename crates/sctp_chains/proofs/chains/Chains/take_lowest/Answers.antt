use Rattle.std.proofs.Common.{◌≡◌, ℕ, ◌/◌, ◌^◌, List, Option, Some, map, sym, ◌∙◌, ap, subst, arith}
use Rattle.sctp_chains.specs.Links.{chain_of, one_if_whole}
use Rattle.sctp_chains.specs.StandsFor.{StandsFor, KeepsLane, whole_count}
use Rattle.sctp_chains.specs.WholeOf.{TakesLowest}
use Rattle.sctp_chains.specs.declared.chain.Chain.{Chain}
use Rattle.sctp_chains.specs.inner.Finding.{IsFirstWhole}
use Rattle.sctp_chains.specs.declared.whole.Whole.{Whole}
use Rattle.sctp_chains.proofs.WholeCounts.{ends_and_begins}
use Rattle.sctp_chains.proofs.TakeLemmas.{none_lowest_by, took_lowest_by}
use Rattle.sctp_chains.proofs.chains.Chains.take_lowest.Goals as goal

pub returns-in_err-found-clause-taken : goal.returns-in_err-found-clause-taken
unfolding StandsFor
returns-in_err-found-clause-taken g c = λ l kept stands numbered.
    let f = g.F.Framing.format in
    subst (λ (o : Option Whole). TakesLowest f l kept c.args.from c.args.last o (record c.args.self.now { filed = c.find.new.self })) (sym c.from_residual.ensures) (
      none_lowest_by f l (map chain_of c.args.self.now.filed.chains.items) c.args.self.now.held kept stands c.args.from c.args.last c.rank_at-lower.result c.rank_at.result
          c.rank_at-lower.ensures c.rank_at.ensures (c.in_err-found.ensures.found stands.chains),
      subst (λ (items : List Chain). KeepsLane f l (map chain_of items) c.args.self.now.held kept) (sym c.in_err-found.ensures.same) stands,
    )

pub returns-clause-taken : goal.returns-clause-taken
unfolding StandsFor
returns-clause-taken g c = λ l kept stands numbered.
    let f = g.F.Framing.format in
    let d = chain_of c.in_ok-chain.chain in
    let stood = subst (λ (items : List Chain). KeepsLane f l (map chain_of items) c.args.self.now.held kept) (sym c.in_ok-found.ensures.same) stands in
    let first = subst (λ (items : List Chain). IsFirstWhole (map chain_of items) c.rank_at-lower.result c.rank_at.result (Some c.in_ok-found.found)) (sym c.in_ok-found.ensures.same)
    (c.in_ok-found.ensures.found stands.chains) in
    took_lowest_by f l (map chain_of c.find.new.self.chains.items) c.args.self.now.held kept stood c.args.from c.args.last c.rank_at-lower.result c.rank_at.result c.rank_at-lower.ensures c.rank_at.ensures
    c.in_ok-found.found (map chain_of c.remove.new.self.chains.items) c.remove.new.held d (c.first.result / 2 ^ 64) c.rank_at-upto.result c.whole_of.result
    _
    numbered first c.in_ok-chain.ensures.taken (ap (λ (n : ℕ). n / 2 ^ 64) c.first.ensures) c.rank_at-upto.ensures c.drop_upto-self.ensures.left c.whole_of.ensures

pub returns-clause-whole : goal.returns-clause-whole
unfolding StandsFor whole_count
returns-clause-whole g c = λ l kept stands.
    let d = chain_of c.in_ok-chain.chain in
    let w = c.in_ok-found.found in
    let first = subst (λ (items : List Chain). IsFirstWhole (map chain_of items) c.rank_at-lower.result c.rank_at.result (Some w)) (sym c.in_ok-found.ensures.same)
    (c.in_ok-found.ensures.found stands.chains) in
    let x = first.0 in
    let at = first.1 in
    let same : d ≡ x = sym (c.in_ok-chain.ensures.taken.here x at.within) ∙ at.here x in
    let one : one_if_whole d ≡ 1 = ap one_if_whole same ∙ ends_and_begins x w.head at.ends at.head in
    omega (arith, one, c.in_ok-chain.ensures.whole, c.in_ok-found.ensures.whole, c.drop_upto-self.ensures.whole)
