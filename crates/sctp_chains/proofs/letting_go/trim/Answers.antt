use Rattle.std.proofs.Common.{◌≡◌, ◌+◌, ◌-◌, ◌^◌, ℕ, suc, None, List, length, map, take, drop, ap, ◌∙◌, arith}
use Rattle.std.specs.Prelude.{min}
use Rattle.std.proofs.lemmas.List.{length-drop, length-map}
use Rattle.sctp_chains.specs.Links.{bytes_of, parts_in, chain_of, rank_in, last_of}
use Rattle.sctp_chains.specs.inner.LettingGo.{size_of_parts}
use Rattle.sctp_chains.proofs.SizeLemmas.{kept_behind, kept_front}
use Rattle.sctp_chains.proofs.letting_go.trim.Goals as goal

pub returns-clause-trimmed : goal.returns-clause-trimmed
returns-clause-trimmed c = λ good low high.
    let ps = parts_in c.args.chain.now.parts in
    let qs = parts_in c.drop_front.new.self in
    let first = rank_in c.args.chain.now.first in
    let n = suc (c.args.upto - first) in
    let gone : c.saturating_add-count.result ≡ n = omega (arith, c.first.ensures, c.saturating_sub.ensures, c.saturating_add-count.ensures, c.if-count-len.false, c.len.type_inv, low) in
    let next : rank_in c.of-chain.result ≡ suc c.args.upto = omega (arith, high, c.saturating_add-next.ensures, c.of-chain.ensures) in
    let parts : map bytes_of qs ≡ drop n (map bytes_of ps) =
    ap (map bytes_of) c.drop_front.ensures ∙ kept_behind ps c.saturating_add-count.result ∙ ap (λ (k : ℕ). drop k (map bytes_of ps)) gone in
    let left : c.less-left.result ≡ c.args.held - size_of_parts (take n (map bytes_of ps)) =
    c.less-left.ensures ∙ ap (λ (xs : List (List ℕ)). c.args.held - size_of_parts xs)
    (kept_front ps c.saturating_add-count.result ∙ ap (λ (k : ℕ). take k (map bytes_of ps)) gone) in
    let stay = ap length parts in
    let fewer = length-drop n (map bytes_of ps) in
    let old = length-map ps bytes_of in
    let new = length-map qs bytes_of in
    let whole = good.last in
    let some = good.some in
    let end : rank_in c.of-chain.result + (length qs - 1) ≡ first + (length ps - 1) = omega (arith, next, stay, fewer, old, new, whole, some, low, high) in
    let last : last_of (rank_in c.of-chain.result) (length qs) ≡ (chain_of c.args.chain.now).last = ap (λ (k : ℕ). min k (2 ^ 128 - 1)) end in
    (λ i. record { first = next i; last = last i; head = None; ends = c.args.chain.now.ends; parts = parts i }, left)
