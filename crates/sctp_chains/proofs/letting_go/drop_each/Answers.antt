use Rattle.std.proofs.Common.{◌≡◌, ◌<◌, ◌≤◌, ◌-◌, List, length, map, set, ap, sym, ◌∙◌, subst, arith}
use Rattle.std.proofs.lemmas.Grind.{elements}
use Rattle.sctp_chains.specs.declared.chain.Chain.{Chain}
use Rattle.sctp_chains.specs.Links.{chain_of, whole_in}
use Rattle.sctp_chains.specs.inner.Finding.{AreOpen}
use Rattle.sctp_chains.specs.inner.LettingGo.{LetsGo}
use Rattle.sctp_chains.proofs.ListLemmas.{at_same}
use Rattle.sctp_chains.proofs.MemoryLemmas.{as_long, one_shorter}
use Rattle.sctp_chains.proofs.LiftedLemmas.{put_back}
use Rattle.sctp_chains.proofs.GoingLemmas.{one_more, front_more, none_more, none_left}
use Rattle.sctp_chains.proofs.WholeCounts.{whole_set, whole_remove}
use Rattle.sctp_chains.proofs.OpenLemmas.{open_less, kept_removed, kept_cut}
use Rattle.sctp_chains.proofs.letting_go.drop_each.Goals as goal
use Rattle.sctp_chains.proofs.letting_go.drop_each.Goals.{then-loop-chains-test+else-last-upto, else-loop-chains-test, else-at-len-via-then-at-len+else-first-upto, else-at-len-via-else-at-len}

pub loop-chains-preserved-in-Some : goal.loop-chains-preserved-in-Some
loop-chains-preserved-in-Some c =
    let cs = c.loop-chains.chains.items in
    let k = c.args.at in
    let x = c.in-Some.chain in
    let l : k < length cs = omega (arith, c.loop-chains-test.true, c.len.ensures) in
    let same : x ≡ c.get.result.now = c.in-Some.ensures.value ∙ at_same cs k x c.get.result.now l ∙ sym c.get.ensures in
    let low : (chain_of x).last ≤ c.args.upto = let e = ap (λ (z : Chain). (chain_of z).last) same in let h = c.if-last-upto.true in omega (arith, e, h, c.last.ensures) in
    record {
      drops = one_more cs k x l c.in-Some.ensures.value c.args.upto (map chain_of c.args.chains.now.items) c.remove_at.new.chains.items c.args.held c.loop-chains.left c.forget-left.result
          c.loop-chains.invariant.drops low c.in-Some.ensures.items c.forget-left.ensures;
      whole =
          let step = whole_remove cs k x l c.in-Some.ensures.value in let is = ap (λ (xs : List Chain). whole_in (map chain_of xs)) c.in-Some.ensures.items in let before = c.loop-chains.invariant.whole in omega (arith, step, is, before);
      fewer =
          let one = one_shorter cs k l in let all = ap length c.in-Some.ensures.items in let before = c.loop-chains.invariant.fewer in omega (arith, one, all, before);
      passed = λ n h.
          let one = one_shorter cs k l in let all = ap length c.in-Some.ensures.items in let before = c.loop-chains.invariant.fewer in
          open_less _ _ (map chain_of c.remove_at.new.chains.items) (kept_removed cs c.remove_at.new.chains.items k _ c.in-Some.ensures.items (c.loop-chains.invariant.passed n h))
          (omega (arith, one, all, before));
    }

pub returns-then-first-upto-clause-left : goal.returns-then-first-upto-clause-left
returns-then-first-upto-clause-left c =
    let cs = c.loop-chains.chains.items in
    let k = c.args.at in
    let x = c.replace-chain.result in
    let l : k < length cs = omega (arith, c.if-at-len.true, c.len-2.ensures) in
    let same : x ≡ c.get-then-at-len.result.now = c.replace-chain.ensures.value ∙ at_same cs k x c.get-then-at-len.result.now l ∙ sym c.get-then-at-len.ensures in
    let low : (chain_of x).first ≤ c.args.upto = let e = ap (λ (z : Chain). (chain_of z).first) same in let h = c.if-first-upto.true in omega (arith, e, h, c.first.ensures) in
    let high : c.args.upto < (chain_of x).last = elim c.loop-chains-test.branch [
      | then-loop-chains-test+else-last-upto w ↦
          let e = ap (λ (z : Chain). (chain_of z).last) (c.replace-chain.ensures.value ∙ at_same cs k x w.get.result.now l ∙ sym w.get.ensures) in let h = w.if-last-upto.false in omega (arith, e, h, w.last.ensures)
      | else-loop-chains-test w ↦ absurd (let h = w.loop-chains-test.false in omega (arith, h, l, c.len.ensures))
    ] in
    subst (λ (xs : List Chain). LetsGo c.args.upto k (map chain_of c.args.chains.now.items) (map chain_of xs) c.args.held c.trim-left.result) (sym (put_back c.loop-chains.chains.items c.args.at c.nothing-blank.result c.trim-left.new.chain c.replace-chain.new.self.items c.replace.new.self.items c.replace-chain.ensures.items c.replace.ensures.items))
    (front_more cs k x l c.replace-chain.ensures.value c.args.upto (map chain_of c.args.chains.now.items) c.trim-left.new.chain c.args.held c.loop-chains.left c.trim-left.result
    c.loop-chains.invariant.drops low high c.trim-left.ensures.trimmed)

pub returns-else-at-len-clause-left : goal.returns-else-at-len-clause-left
returns-else-at-len-clause-left c =
    let cs = c.loop-chains.chains.items in
    let k = c.args.at in
    elim c.else-at-len.branch [
      | else-at-len-via-then-at-len+else-first-upto w ↦
          let l : k < length cs = let h = w.if-at-len.true in omega (arith, h, c.len-2.ensures) in
          none_more cs k w.get-then-at-len.result.now l w.get-then-at-len.ensures c.args.upto (map chain_of c.args.chains.now.items) c.args.held c.loop-chains.left
          c.loop-chains.invariant.drops (let h = w.if-first-upto.false in omega (arith, h, w.first.ensures))
      | else-at-len-via-else-at-len w ↦
          none_left cs k c.args.upto (map chain_of c.args.chains.now.items) c.args.held c.loop-chains.left (let h = w.if-at-len.false in omega (arith, h, c.len-2.ensures)) c.loop-chains.invariant.drops
    ]

pub returns-then-first-upto-clause-fewer : goal.returns-then-first-upto-clause-fewer
returns-then-first-upto-clause-fewer c =
    let same = ap length (put_back c.loop-chains.chains.items c.args.at c.nothing-blank.result c.trim-left.new.chain c.replace-chain.new.self.items c.replace.new.self.items c.replace-chain.ensures.items c.replace.ensures.items) in
    let all = as_long c.loop-chains.chains.items c.args.at c.trim-left.new.chain in
    let before = c.loop-chains.invariant.fewer in
    omega (arith, same, all, before)

pub returns-then-first-upto-clause-whole : goal.returns-then-first-upto-clause-whole
returns-then-first-upto-clause-whole c =
    let cs = c.loop-chains.chains.items in
    let l : c.args.at < length cs = omega (arith, c.if-at-len.true, c.len-2.ensures) in
    let same = ap (λ (xs : List Chain). whole_in (map chain_of xs)) (put_back c.loop-chains.chains.items c.args.at c.nothing-blank.result c.trim-left.new.chain c.replace-chain.new.self.items c.replace.new.self.items c.replace-chain.ensures.items c.replace.ensures.items) in
    let step = whole_set cs c.args.at c.replace-chain.result c.trim-left.new.chain l c.replace-chain.ensures.value in
    let less = c.trim-left.ensures.whole in
    let before = c.loop-chains.invariant.whole in
    omega (arith, same, step, less, before)

pub returns-else-at-len-clause-whole : goal.returns-else-at-len-clause-whole
returns-else-at-len-clause-whole c = c.loop-chains.invariant.whole

pub returns-then-first-upto-clause-passed : goal.returns-then-first-upto-clause-passed
returns-then-first-upto-clause-passed c = λ n h.
    let cs = c.loop-chains.chains.items in
    let y = c.trim-left.new.chain in
    let l : c.args.at < length cs = omega (arith, c.if-at-len.true, c.len-2.ensures) in
    let all = as_long cs c.args.at y in
    let same = ap length (put_back c.loop-chains.chains.items c.args.at c.nothing-blank.result c.trim-left.new.chain c.replace-chain.new.self.items c.replace.new.self.items c.replace-chain.ensures.items c.replace.ensures.items) in
    subst (λ (xs : List Chain). AreOpen (n - (length c.args.chains.now.items - length c.replace.new.self.items)) (map chain_of xs)) (sym (put_back c.loop-chains.chains.items c.args.at c.nothing-blank.result c.trim-left.new.chain c.replace-chain.new.self.items c.replace.new.self.items c.replace-chain.ensures.items c.replace.ensures.items))
    (open_less _ _ (map chain_of (set cs c.args.at y)) (kept_cut cs c.args.at _ c.replace-chain.result y l c.replace-chain.ensures.value c.trim-left.ensures.whole (c.loop-chains.invariant.passed n h))
    (omega (arith, all, same)))

pub loop-chains-smaller-in-Some : goal.loop-chains-smaller-in-Some
loop-chains-smaller-in-Some c = grind (arith, elements)
