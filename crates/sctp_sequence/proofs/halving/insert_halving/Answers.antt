use Rattle.std.proofs.Common.{◌≡◌, ℕ, ◌≤◌, List, [], ◌++◌, ◌∷◌, length, sym, ap, ◌∙◌, arith}
use Rattle.std.specs.List.{insert}
use Rattle.std.proofs.lemmas.List.Edits.{insert-append_right, insert_end}
use Rattle.sctp_sequence.proofs.RoomLemmas.{was_ok, no_items}
use Rattle.sctp_sequence.proofs.halving.insert_halving.Goals as goal

pub returns-then-at-eq-BLOCK-clause-items : goal.returns-then-at-eq-BLOCK-clause-items
returns-then-at-eq-BLOCK-clause-items g c =
    let front = c.args.block.now.items in
    let end : c.args.at ≡ length front = omega (arith, c.args.block.now.ok, c.requires.full, c.if-at-eq-BLOCK.true) in
    let none = no_items c.args.later.now.items (let empty = c.requires.spare.none in omega (arith, c.args.later.now.ok, empty)) in
    ap (λ (l : List g.row.T.Denot). front ++ l) (c.push_back_reserved.ensures.items ∙ ap (λ (l : List g.row.T.Denot). l ++ c.args.item ∷ []) none)
    ∙ sym (insert_end front c.args.item) ∙ ap (λ (n : ℕ). insert front n c.args.item) (sym end)

pub returns-else-at-len-clause-items : goal.returns-else-at-len-clause-items
returns-else-at-len-clause-items g c =
    let front = c.halve.new.block.items in
    let back = c.halve.new.later.items in
    let n = c.len-else-at-len.result in
    let long : length front ≡ n = omega (arith, c.halve.new.block.ok, c.len-else-at-len.ensures) in
    let from : n ≤ c.args.at = omega (arith, c.len.ensures, c.len-else-at-len.ensures, c.if-at-len.false) in
    let put = was_ok c.insert-else-at-len.result _ _ c.insert-else-at-len.ensures.items c.insert-else-at-len.ensures.full (λ full. omega (arith, full, c.halve.ensures.later_len, c.halve.ensures.later_capacity, c.requires.spare.wide)) in
    ap (λ (l : List g.row.T.Denot). front ++ l) put ∙ sym (insert-append_right front back n c.args.at c.args.item long from) ∙ ap (λ (l : List g.row.T.Denot). insert l c.args.at c.args.item) c.halve.ensures.items
