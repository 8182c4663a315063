use Rattle.std.proofs.Common.{ℕ, ◌<◌, ◌≤◌, ◌+◌, List, Option, sym, subst, length, get_or, map, arith}
use Rattle.std.proofs.lemmas.Grind.{common_steps}
use Rattle.sctp_chains.specs.declared.chain.Chain.{Chain}
use Rattle.sctp_chains.specs.Links.{chain_of, one_of, join, whole_in}
use Rattle.sctp_chains.proofs.ListLemmas.{at_same}
use Rattle.sctp_chains.specs.inner.Filing.{IsLinkBefore, IsLinkBehind, Gains, StaysOpen}
use Rattle.sctp_chains.proofs.MemoryLemmas.{length_kept}
use Rattle.sctp_chains.proofs.JoiningLemmas.{filed_back, filed_front, filed_alone, filed_both}
use Rattle.sctp_chains.proofs.WholeCounts.{once, counted_back, counted_front, counted_alone, counted_both}
use Rattle.sctp_chains.proofs.OpenLemmas.{kept_set, kept_insert, kept_both}
use Rattle.sctp_chains.proofs.filing.file_among.Goals as goal

-- ---- two chains and the fragment between them

pub returns-in_ok-whole-in-Some-Some-clause-filed : goal.returns-in_ok-whole-in-Some-Some-clause-filed
returns-in_ok-whole-in-Some-Some-clause-filed c =
    filed_both c.args.chains.now.items c.place-at.result c.args.part c.place-at.ensures.bound c.place-at.ensures.place c.in-Some-Some.left c.in-Some-Some.right
    c.join_all.new.chains.items (c.in-Some-Some.ensures c.place-at.ensures.bound) c.in-Some-Some.ensures' c.in_ok-whole-in-Some-Some.ensures.joined

pub returns-in_ok-whole-in-Some-Some-clause-one : goal.returns-in_ok-whole-in-Some-Some-clause-one
returns-in_ok-whole-in-Some-Some-clause-one c =
    let cs = map chain_of c.args.chains.now.items in
    let a = one_of c.args.part in
    let d = get_or cs c.in-Some-Some.left a in
    let e = get_or cs c.in-Some-Some.right a in
    once (join (join d a) e) c.in_ok-whole-in-Some-Some.whole
    (c.in_ok-whole-in-Some-Some.ensures.whole d e (at_same cs c.in-Some-Some.left a d (c.in-Some-Some.ensures c.place-at.ensures.bound).1) (at_same cs c.in-Some-Some.right a e c.in-Some-Some.ensures'.1))

pub returns-in_ok-whole-in-Some-Some-clause-whole : goal.returns-in_ok-whole-in-Some-Some-clause-whole
returns-in_ok-whole-in-Some-Some-clause-whole c =
    let before = c.in-Some-Some.ensures c.place-at.ensures.bound in
    counted_both c.args.chains.now.items c.join_all.new.chains.items c.in-Some-Some.left c.in-Some-Some.right c.args.part c.in_ok-whole-in-Some-Some.whole before.1 c.in-Some-Some.ensures'.1
    before.2 c.in_ok-whole-in-Some-Some.ensures.joined c.in_ok-whole-in-Some-Some.ensures.whole

pub returns-in_ok-whole-in-Some-Some-clause-passed : goal.returns-in_ok-whole-in-Some-Some-clause-passed
returns-in_ok-whole-in-Some-Some-clause-passed c =
    let before = c.in-Some-Some.ensures c.place-at.ensures.bound in
    let behind = c.in-Some-Some.ensures' in
    let order : c.in-Some-Some.left < c.in-Some-Some.right = let l = before.0 in let r = behind.0 in omega (arith, l, r) in
    kept_both c.args.chains.now.items c.join_all.new.chains.items c.in-Some-Some.left c.in-Some-Some.right c.args.part c.in_ok-whole-in-Some-Some.whole order behind.1
    c.in_ok-whole-in-Some-Some.ensures.joined c.in_ok-whole-in-Some-Some.ensures.whole

-- ---- behind a chain

pub returns-in_ok-whole-in-Some-None-clause-filed : goal.returns-in_ok-whole-in-Some-None-clause-filed
returns-in_ok-whole-in-Some-None-clause-filed c =
    let cs = c.args.chains.now.items in
    let l = c.in_ok-whole-in-Some-None.ensures.longer in
    let less : c.in-Some-None.left < length cs = let e = (c.in-Some-None.ensures c.place-at.ensures.bound).1 in let n = length_kept cs in omega (arith, e, n) in
    subst (λ (xs : List Chain). Gains (one_of c.args.part) (map chain_of cs) (map chain_of xs)) (sym l.put)
    (filed_back cs c.place-at.result c.args.part c.place-at.ensures.bound c.place-at.ensures.place c.in-Some-None.left l.from l.to less l.here l.joined (c.in-Some-None.ensures c.place-at.ensures.bound) c.in-Some-None.ensures')

pub returns-in_ok-whole-in-Some-None-clause-one : goal.returns-in_ok-whole-in-Some-None-clause-one
returns-in_ok-whole-in-Some-None-clause-one c = let l = c.in_ok-whole-in-Some-None.ensures.longer in once (chain_of l.to) c.in_ok-whole-in-Some-None.whole l.whole

pub returns-in_ok-whole-in-Some-None-clause-whole : goal.returns-in_ok-whole-in-Some-None-clause-whole
returns-in_ok-whole-in-Some-None-clause-whole c =
    let cs = c.args.chains.now.items in
    let l = c.in_ok-whole-in-Some-None.ensures.longer in
    let less : c.in-Some-None.left < length cs = let e = (c.in-Some-None.ensures c.place-at.ensures.bound).1 in let n = length_kept cs in omega (arith, e, n) in
    subst (λ (xs : List Chain). whole_in (map chain_of xs) ≤ whole_in (map chain_of cs) + c.in_ok-whole-in-Some-None.whole) (sym l.put)
    (counted_back cs c.args.part l.from l.to c.in_ok-whole-in-Some-None.whole c.in-Some-None.left less l.here l.whole (c.in-Some-None.ensures c.place-at.ensures.bound).2)

pub returns-in_ok-whole-in-Some-None-clause-passed : goal.returns-in_ok-whole-in-Some-None-clause-passed
returns-in_ok-whole-in-Some-None-clause-passed c =
    let cs = c.args.chains.now.items in
    let l = c.in_ok-whole-in-Some-None.ensures.longer in
    subst (λ (xs : List Chain). StaysOpen (map chain_of cs) (map chain_of xs) c.in-Some-None.left c.in_ok-whole-in-Some-None.whole) (sym l.put)
    (kept_set cs c.in-Some-None.left l.to c.in_ok-whole-in-Some-None.whole l.whole)

-- ---- before a chain

pub returns-in_ok-whole-in-None-Some-clause-filed : goal.returns-in_ok-whole-in-None-Some-clause-filed
returns-in_ok-whole-in-None-Some-clause-filed c =
    let cs = c.args.chains.now.items in
    let l = c.in_ok-whole-in-None-Some.ensures.earlier in
    let less : c.in-None-Some.right < length cs = let e = c.in-None-Some.ensures.1 in let n = length_kept cs in omega (arith, e, n) in
    subst (λ (xs : List Chain). Gains (one_of c.args.part) (map chain_of cs) (map chain_of xs)) (sym l.put)
    (filed_front cs c.place-at.result c.args.part c.place-at.ensures.bound c.place-at.ensures.place c.in-None-Some.right l.from l.to less l.here l.joined
    (subst (λ (o : Option ℕ). IsLinkBefore (map chain_of cs) c.place-at.result (one_of c.args.part) o) c.in-None-Some.is-0 (c.linked_before.ensures c.place-at.ensures.bound)) c.in-None-Some.ensures)

pub returns-in_ok-whole-in-None-Some-clause-one : goal.returns-in_ok-whole-in-None-Some-clause-one
returns-in_ok-whole-in-None-Some-clause-one c = let l = c.in_ok-whole-in-None-Some.ensures.earlier in once (chain_of l.to) c.in_ok-whole-in-None-Some.whole l.whole

pub returns-in_ok-whole-in-None-Some-clause-whole : goal.returns-in_ok-whole-in-None-Some-clause-whole
returns-in_ok-whole-in-None-Some-clause-whole c =
    let cs = c.args.chains.now.items in
    let l = c.in_ok-whole-in-None-Some.ensures.earlier in
    let less : c.in-None-Some.right < length cs = let e = c.in-None-Some.ensures.1 in let n = length_kept cs in omega (arith, e, n) in
    subst (λ (xs : List Chain). whole_in (map chain_of xs) ≤ whole_in (map chain_of cs) + c.in_ok-whole-in-None-Some.whole) (sym l.put)
    (counted_front cs c.args.part l.from l.to c.in_ok-whole-in-None-Some.whole c.in-None-Some.right less l.here l.whole c.in-None-Some.ensures.2)

pub returns-in_ok-whole-in-None-Some-clause-passed : goal.returns-in_ok-whole-in-None-Some-clause-passed
returns-in_ok-whole-in-None-Some-clause-passed c =
    let cs = c.args.chains.now.items in
    let l = c.in_ok-whole-in-None-Some.ensures.earlier in
    subst (λ (xs : List Chain). StaysOpen (map chain_of cs) (map chain_of xs) c.in-None-Some.right c.in_ok-whole-in-None-Some.whole) (sym l.put)
    (kept_set cs c.in-None-Some.right l.to c.in_ok-whole-in-None-Some.whole l.whole)

-- ---- a chain of its own

pub returns-in_ok-insert-in-None-None-clause-filed : goal.returns-in_ok-insert-in-None-None-clause-filed
returns-in_ok-insert-in-None-None-clause-filed c =
    let cs = c.args.chains.now.items in
    subst (λ (xs : List Chain). Gains (one_of c.args.part) (map chain_of cs) (map chain_of xs)) (sym c.in_ok-insert-in-None-None.ensures.items)
    (filed_alone cs c.place-at.result c.args.part c.place-at.ensures.bound c.place-at.ensures.place c.alone-chain.result c.alone-chain.ensures
    (subst (λ (o : Option ℕ). IsLinkBefore (map chain_of cs) c.place-at.result (one_of c.args.part) o) c.in-None-None.is-0 (c.linked_before.ensures c.place-at.ensures.bound)) (subst (λ (o : Option ℕ). IsLinkBehind (map chain_of cs) c.place-at.result (one_of c.args.part) o) c.in-None-None.is-1 c.linked_behind.ensures))

pub returns-in_ok-insert-in-None-None-clause-one : goal.returns-in_ok-insert-in-None-None-clause-one
returns-in_ok-insert-in-None-None-clause-one c = once (chain_of c.alone-chain.result) c.whole-whole.result c.whole-whole.ensures

pub returns-in_ok-insert-in-None-None-clause-whole : goal.returns-in_ok-insert-in-None-None-clause-whole
returns-in_ok-insert-in-None-None-clause-whole c =
    counted_alone c.args.chains.now.items c.insert.new.self.items c.place-at.result c.alone-chain.result c.whole-whole.result c.in_ok-insert-in-None-None.ensures.items c.whole-whole.ensures

pub returns-in_ok-insert-in-None-None-clause-passed : goal.returns-in_ok-insert-in-None-None-clause-passed
returns-in_ok-insert-in-None-None-clause-passed c =
    kept_insert c.args.chains.now.items c.insert.new.self.items c.place-at.result c.alone-chain.result c.whole-whole.result c.place-at.ensures.bound
    c.in_ok-insert-in-None-None.ensures.items c.whole-whole.ensures

pub returns-in_ok-insert-in-None-None-clause-few : goal.returns-in_ok-insert-in-None-None-clause-few
returns-in_ok-insert-in-None-None-clause-few c = grind (arith, common_steps)
