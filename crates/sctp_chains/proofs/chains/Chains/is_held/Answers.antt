use Rattle.std.proofs.Common.{◌≡◌, false, refl, ◌<◌, ◌≤◌, nat_lt, nat_le, length, map, sym, ap, ◌∙◌, arith}
use Rattle.std.proofs.lemmas.Bool.Decides.{nat_tests}
use Rattle.sctp_wire.specs.ChunkTree.{piece_meaning}
use Rattle.sctp_chains.specs.Cells.{counted, rank_at}
use Rattle.sctp_chains.specs.Links.{chain_of}
use Rattle.sctp_chains.specs.StandsFor.{StandsFor}
use Rattle.sctp_chains.proofs.MemoryLemmas.{at_kept, length_kept}
use Rattle.sctp_chains.proofs.ListLemmas.{dropped_has, none_dropped}
use Rattle.sctp_chains.proofs.SearchLemmas.{stands_in}
use Rattle.sctp_chains.proofs.HeldLemmas.{held_agrees, in_place, past_all}
use Rattle.sctp_chains.proofs.chains.Chains.is_held.Goals as goal

pub returns-then-is_empty : goal.returns-then-is_empty
unfolding StandsFor
returns-then-is_empty g c = λ i l kept stands of.
    let ms = c.args.self.now.filed.chains.items in
    let none : length (map chain_of ms) ≤ 0 = let is = c.is_empty.ensures in let so = c.if-is_empty.true in let all = length_kept ms in let no : length ms ≡ 0 = grind (arith, is, so, nat_tests) in omega (arith, no, all) in
    held_agrees g.F.Framing.format l (map chain_of ms) c.args.self.now.held kept stands (sym c.is_numbered.ensures ∙ c.if-not-is_numbered.false) (counted i (piece_meaning c.args.piece.now) c.args.number) of _
    refl false (λ e. absurd (cc)) (λ e d there. absurd (none_dropped (map chain_of ms) 0 d none there))

pub returns-then-at-len : goal.returns-then-at-len
unfolding StandsFor
returns-then-at-len g c = λ i l kept stands of.
    let ms = c.args.self.now.filed.chains.items in
    let cs = map chain_of ms in
    let k = c.place-at.result in
    let r = c.rank_at-rank.result in
    let x = c.get.result.now in
    let n : k < length ms = omega (arith, c.if-at-len.true, c.len.ensures) in
    let less : k < length cs = let all = length_kept ms in omega (arith, n, all) in
    let at = sym (at_kept ms k x n c.get.ensures (chain_of x)) in
    let place = c.place-at.ensures.place stands.chains in
    let back = stands_in cs stands.chains k (chain_of x) less at in
    held_agrees g.F.Framing.format l cs c.args.self.now.held kept stands (sym c.is_numbered.ensures ∙ c.if-not-is_numbered.false) (counted i (piece_meaning c.args.piece.now) c.args.number) of r
    (c.rank_at-rank.ensures ∙ ap (rank_at c.args.number) c.place.ensures) (nat_le c.first.result r)
    (λ e. (chain_of x, dropped_has cs k (chain_of x) back, (let own = c.first.ensures in grind (arith, e, own, nat_tests), place.back (chain_of x) back)))
    (λ e. in_place cs stands.chains k r place (chain_of x) less at (let own = c.first.ensures in grind (arith, e, own, nat_tests)))

pub returns-else-at-len : goal.returns-else-at-len
unfolding StandsFor
returns-else-at-len g c = λ i l kept stands of.
    let ms = c.args.self.now.filed.chains.items in
    let cs = map chain_of ms in
    let k = c.place-at.result in
    let r = c.rank_at-rank.result in
    let past : length cs ≤ k = let all = length_kept ms in omega (arith, c.if-at-len.false, c.len.ensures, all) in
    held_agrees g.F.Framing.format l cs c.args.self.now.held kept stands (sym c.is_numbered.ensures ∙ c.if-not-is_numbered.false) (counted i (piece_meaning c.args.piece.now) c.args.number) of r
    (c.rank_at-rank.ensures ∙ ap (rank_at c.args.number) c.place.ensures) (nat_lt k c.len.result)
    (λ e. absurd (let low : k < c.len.result = grind (arith, e, nat_tests) in omega (arith, low, c.if-at-len.false)))
    (λ e. past_all cs stands.chains k r (c.place-at.ensures.place stands.chains) past)
