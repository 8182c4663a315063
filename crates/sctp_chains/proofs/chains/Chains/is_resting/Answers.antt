use Rattle.std.proofs.Common.{◌≡◌, ◌<◌, ◌≤◌, List, [], ◌∷◌, length, map, refl, sym, subst, arith}
use Rattle.std.proofs.lemmas.Bool.Decides.{nat_tests}
use Rattle.sctp_model.specs.numbers.Lists.{Has}
use Rattle.sctp_chains.specs.Links.{ChainKept, chain_of}
use Rattle.sctp_chains.specs.StandsFor.{StandsFor}
use Rattle.sctp_chains.specs.declared.chain.Chain.{Chain}
use Rattle.sctp_chains.proofs.MemoryLemmas.{at_kept, length_kept}
use Rattle.sctp_chains.proofs.SearchLemmas.{not_lower}
use Rattle.sctp_chains.proofs.WholeCounts.{none_whole}
use Rattle.sctp_chains.proofs.RestingLemmas.{resting}
use Rattle.sctp_chains.proofs.chains.Chains.is_resting.Goals as goal

-- there are no chains
no_chains : (cs : List Chain) → length cs ≡ 0 → cs ≡ []
no_chains [] e = refl
no_chains (c ∷ cs) e = absurd (omega (arith, e))

pub returns-then-is_empty : goal.returns-then-is_empty
unfolding StandsFor
returns-then-is_empty g c = λ l kept stands numbered yes.
    let ms = c.args.self.now.filed.chains.items in
    let none = no_chains ms (let is = c.is_empty.ensures in let so = c.if-is_empty.true in grind (arith, is, so, nat_tests)) in
    let no : (d : ChainKept) → Has (map chain_of ms) d → ⊥ = λ d there. subst (λ (ns : List Chain). Has (map chain_of ns) d) none there in
    resting g.F.Framing.format l (map chain_of ms) c.args.self.now.held kept stands numbered c.args.number (λ d there. absurd (no d there)) (λ d there. absurd (no d there))

pub returns-then-self-eq0 : goal.returns-then-self-eq0
unfolding StandsFor
returns-then-self-eq0 g c = λ l kept stands numbered yes.
    let ms = c.args.self.now.filed.chains.items in
    let cs = map chain_of ms in
    let x = c.get.result.now in
    let some : 0 < length ms = let is = c.is_empty.ensures in let no = c.if-is_empty.false in grind (arith, is, no, nat_tests) in
    let less : 0 < length cs = let all = length_kept ms in omega (arith, some, all) in
    let at = sym (at_kept ms 0 x some c.get.ensures (chain_of x)) in
    let low : c.rank_at.result ≤ (chain_of x).first = let own = c.first.ensures in grind (arith, yes, own, nat_tests) in
    resting g.F.Framing.format l cs c.args.self.now.held kept stands numbered c.args.number (λ d there. none_whole cs (omega (arith, c.args.self.now.filed.counted, c.if-self-eq0.true)) d there)
    (λ d there. let first = not_lower cs stands.chains 0 (chain_of x) less at d there in omega (arith, first, low, c.rank_at.ensures))
