use Rattle.std.proofs.Common.{◌≡◌, suc, ◌-◌, List, length, map, sym, ◌∙◌, ap, subst, arith}
use Rattle.sctp_chains.specs.declared.chain.Chain.{Chain}
use Rattle.sctp_chains.specs.Links.{chain_of, whole_in}
use Rattle.sctp_chains.specs.inner.Finding.{AreOpen}
use Rattle.sctp_chains.proofs.ListLemmas.{taken_has}
use Rattle.sctp_chains.proofs.GoingLemmas.{all_gone}
use Rattle.sctp_chains.proofs.letting_go.drop_upto.Goals as goal

pub returns-then-last-upto-clause-left : goal.returns-then-last-upto-clause-left
returns-then-last-upto-clause-left c =
    let cs = c.args.chains.now.items in
    let n = c.len-before.result - 1 in
    let last : suc n ≡ length cs = omega (arith, c.len-before.ensures, c.if-before-gt0.true) in
    all_gone cs c.give_back.new.self.items n c.args.at c.args.upto c.args.held c.get.result.now last c.get.ensures (omega (arith, c.if-last-upto.true, c.last.ensures)) c.if-at-eq0.true (c.give_back.ensures ∙ c.clear.ensures.items)

pub returns-then-last-upto-clause-whole : goal.returns-then-last-upto-clause-whole
returns-then-last-upto-clause-whole c = let none = ap (λ (xs : List Chain). whole_in (map chain_of xs)) (c.give_back.ensures ∙ c.clear.ensures.items) in omega (arith, none)

pub returns-then-last-upto-clause-passed : goal.returns-then-last-upto-clause-passed
returns-then-last-upto-clause-passed c = λ k open_now.
    subst (λ (xs : List Chain). AreOpen (k - (length c.args.chains.now.items - length c.give_back.new.self.items)) (map chain_of xs)) (sym (c.give_back.ensures ∙ c.clear.ensures.items))
    (λ d there. absurd (taken_has _ _ d there))
