use Rattle.std.proofs.Common.{◌≡◌, ℕ, ◌+◌, ◌-◌, ◌<◌, List, [], length, get_or, set, take, sym, ap, subst, ◌∙◌, length-set, arith}
use Rattle.std.proofs.lemmas.Grind.{common_steps}
use Rattle.std.specs.List.{remove}
use Rattle.std.specs.Vec.{vec_len}
use Rattle.std.specs.VecDeque.{deque_len}
use Rattle.std.specs.declared.collections.VecDeque.{VecDeque}
use Rattle.std.proofs.lemmas.List.{get_or-take, take-set-le}
use Rattle.std.proofs.lemmas.List.Edits.{length-remove}
use Rattle.sctp_sequence.specs.Blocks.{joined, AreStarts}
use Rattle.sctp_sequence.proofs.StartLemmas.{front_remove, read_front, start_some, starts_same, starts_lowered}
use Rattle.sctp_sequence.proofs.PlaceLemmas.{item_there, gone_there, emptied_there, as_read}
use Rattle.sctp_sequence.proofs.RoomLemmas.{if_some_by, when_some, no_items, is_there}
use Rattle.sctp_sequence.proofs.going.remove_later.Goals as goal

pub returns-then-is_empty-clause-value : goal.returns-then-is_empty-clause-value
returns-then-is_empty-clause-value g c =
    let bs = c.args.rest.now.items in
    let b = c.index_mut-block.result.now in
    let less : c.find-place.result.block < length bs = omega (arith, c.args.rest.now.ok, c.find-place.ensures.block) in
    let within : c.find-place.result.offset < length b.items = omega (arith, b.ok, as_read (λ d. c.find-place.result.offset < deque_len d) bs c.find-place.result.block b c.index_mut-block.ensures.value c.find-place.ensures.offset) in
    if_some_by c.remove-item.result _ _ (λ d. item_there bs c.find-place.result.block c.args.at c.find-place.result.offset b less c.index_mut-block.ensures.value c.find-place.ensures.place d within) c.remove-item.ensures.value

pub returns-then-is_empty-clause-items : goal.returns-then-is_empty-clause-items
returns-then-is_empty-clause-items g c =
    let bs = c.args.rest.now.items in
    let b = c.index_mut-block.result.now in
    let less : c.find-place.result.block < length bs = omega (arith, c.args.rest.now.ok, c.find-place.ensures.block) in
    let inside : c.find-place.result.offset < deque_len b = as_read (λ d. c.find-place.result.offset < deque_len d) bs c.find-place.result.block b c.index_mut-block.ensures.value c.find-place.ensures.offset in
    let within : c.find-place.result.offset < length b.items = omega (arith, b.ok, inside) in
    let gone : c.remove-item.new.self.items ≡ remove b.items c.find-place.result.offset = when_some c.remove-item.result _ (c.remove-item.ensures.variant.1 inside) c.remove-item.ensures.items in
    let none : c.remove-item.new.self.items ≡ [] = no_items c.remove-item.new.self.items (is_there c.remove-item.new.self.ok.0 c.is_empty.ensures c.if-is_empty.true) in
    ap joined c.remove.ensures.items ∙ emptied_there bs c.find-place.result.block c.args.at c.find-place.result.offset b less c.index_mut-block.ensures.value c.find-place.ensures.place c.remove-item.new.self within gone none

pub returns-else-is_empty-clause-value : goal.returns-else-is_empty-clause-value
returns-else-is_empty-clause-value g c =
    let bs = c.args.rest.now.items in
    let b = c.index_mut-block.result.now in
    let less : c.find-place.result.block < length bs = omega (arith, c.args.rest.now.ok, c.find-place.ensures.block) in
    let within : c.find-place.result.offset < length b.items = omega (arith, b.ok, as_read (λ d. c.find-place.result.offset < deque_len d) bs c.find-place.result.block b c.index_mut-block.ensures.value c.find-place.ensures.offset) in
    if_some_by c.remove-item.result _ _ (λ d. item_there bs c.find-place.result.block c.args.at c.find-place.result.offset b less c.index_mut-block.ensures.value c.find-place.ensures.place d within) c.remove-item.ensures.value

pub returns-else-is_empty-clause-items : goal.returns-else-is_empty-clause-items
returns-else-is_empty-clause-items g c =
    let bs = c.args.rest.now.items in
    let b = c.index_mut-block.result.now in
    let less : c.find-place.result.block < length bs = omega (arith, c.args.rest.now.ok, c.find-place.ensures.block) in
    let inside : c.find-place.result.offset < deque_len b = as_read (λ d. c.find-place.result.offset < deque_len d) bs c.find-place.result.block b c.index_mut-block.ensures.value c.find-place.ensures.offset in
    let within : c.find-place.result.offset < length b.items = omega (arith, b.ok, inside) in
    let gone : c.remove-item.new.self.items ≡ remove b.items c.find-place.result.offset = when_some c.remove-item.result _ (c.remove-item.ensures.variant.1 inside) c.remove-item.ensures.items in
    gone_there bs c.find-place.result.block c.args.at c.find-place.result.offset b less c.index_mut-block.ensures.value c.find-place.ensures.place c.remove-item.new.self within gone

pub recount-requires-clause-small : goal.recount-requires-clause-small
recount-requires-clause-small g c =
    let bs = c.args.rest.now.items in
    let b = c.index_mut-block.result.now in
    let less : c.find-place.result.block < length bs = omega (arith, c.args.rest.now.ok, c.find-place.ensures.block) in
    let inside : c.find-place.result.offset < deque_len b = as_read (λ d. c.find-place.result.offset < deque_len d) bs c.find-place.result.block b c.index_mut-block.ensures.value c.find-place.ensures.offset in
    let within : c.find-place.result.offset < length b.items = omega (arith, b.ok, inside) in
    let gone : c.remove-item.new.self.items ≡ remove b.items c.find-place.result.offset = when_some c.remove-item.result _ (c.remove-item.ensures.variant.1 inside) c.remove-item.ensures.items in
    let none : c.remove-item.new.self.items ≡ [] = no_items c.remove-item.new.self.items (is_there c.remove-item.new.self.ok.0 c.is_empty.ensures c.if-is_empty.true) in
    let all = ap joined c.remove.ensures.items ∙ emptied_there bs c.find-place.result.block c.args.at c.find-place.result.offset b less c.index_mut-block.ensures.value c.find-place.ensures.place c.remove-item.new.self within gone none in
    omega (arith, ap length all, length-remove (joined bs) c.args.at c.requires.at, c.requires.small)

pub recount-requires-clause-starts : goal.recount-requires-clause-starts
recount-requires-clause-starts g c =
    let bs = c.args.rest.now.items in
    let ss = c.args.starts.now in
    let k = c.find-place.result.block in
    let left = c.remove-item.new.self in
    let long : length (set bs k left) ≡ length bs = length-set bs k left in
    let read : (n d : ℕ) → n < k → get_or c.pop.new.self.items n d ≡ get_or ss.items n d = λ n d below.
    ap (λ (l : List ℕ). get_or l n d) c.pop.ensures.rest ∙ get_or-take (vec_len ss - 1) ss.items n d (omega (arith, below, c.find-place.ensures.block, c.requires.each)) in
    starts_same (vec_len c.args.rest.now) k ss.items c.pop.new.self.items bs c.remove.new.self.items (omega (arith, c.find-place.ensures.block)) c.requires.starts read
    (λ n below. ap (λ (l : List (VecDeque g.row.T.Denot _)). take n l) c.remove.ensures.items
    ∙ front_remove (set bs k left) k n (omega (arith, below)) (omega (arith, long, c.args.rest.now.ok, c.find-place.ensures.block)) ∙ take-set-le n bs k left (omega (arith, below)))

pub lower-requires : goal.lower-requires
lower-requires g c = λ n d above less.
    let bs = c.args.rest.now.items in
    let b = c.index_mut-block.result.now in
    let k = c.find-place.result.block in
    let here : k < length bs = omega (arith, c.args.rest.now.ok, c.find-place.ensures.block) in
    let inside : c.find-place.result.offset < deque_len b = as_read (λ d. c.find-place.result.offset < deque_len d) bs k b c.index_mut-block.ensures.value c.find-place.ensures.offset in
    let some = start_some bs k n b (omega (arith, above)) here c.index_mut-block.ensures.value (omega (arith, b.ok, inside)) in
    let within : n < vec_len c.args.rest.now = omega (arith, less, c.deref_mut.ensures.len, c.requires.each) in
    let read : get_or c.deref_mut.result.now n d ≡ length (joined (take n bs)) = ap (λ (l : List ℕ). get_or l n d) c.deref_mut.ensures.value ∙ c.requires.starts n d within in
    omega (arith, some, read)

pub returns-else-is_empty-clause-starts : goal.returns-else-is_empty-clause-starts
returns-else-is_empty-clause-starts g c = λ n d within.
    let bs = c.args.rest.now.items in
    let ss = c.args.starts.now in
    let m = vec_len c.args.rest.now in
    let b = c.index_mut-block.result.now in
    let k = c.find-place.result.block in
    let less : k < length bs = omega (arith, c.args.rest.now.ok, c.find-place.ensures.block) in
    let inside : c.find-place.result.offset < deque_len b = as_read (λ d. c.find-place.result.offset < deque_len d) bs k b c.index_mut-block.ensures.value c.find-place.ensures.offset in
    let there : c.find-place.result.offset < length b.items = omega (arith, b.ok, inside) in
    let gone : c.remove-item.new.self.items ≡ remove b.items c.find-place.result.offset = when_some c.remove-item.result _ (c.remove-item.ensures.variant.1 inside) c.remove-item.ensures.items in
    let long = ap length gone in
    let one = length-remove b.items c.find-place.result.offset there in
    let fewer : length c.remove-item.new.self.items + 1 ≡ length b.items = omega (arith, long, one) in
    let old : AreStarts m c.deref_mut.result.now bs = subst (λ (l : List ℕ). AreStarts m l bs) (sym c.deref_mut.ensures.value) c.requires.starts in
    let each : length c.deref_mut.result.now ≡ m = omega (arith, c.deref_mut.ensures.len, c.requires.each) in
    let lowered = starts_lowered m k c.deref_mut.result.now c.lower.new.starts bs b c.remove-item.new.self less c.index_mut-block.ensures.value each old c.lower.ensures.before fewer c.lower.ensures.later in
    read_front (vec_len ss) c.lower.new.starts _ n d (omega (arith, within, c.requires.each)) (omega (arith, within, c.lower.ensures.len, each)) ∙ lowered n d within

pub recount-requires-clause-before : goal.recount-requires-clause-before
recount-requires-clause-before g c = grind (arith, common_steps)

pub returns-then-is_empty-clause-blocks : goal.returns-then-is_empty-clause-blocks
returns-then-is_empty-clause-blocks g c = grind (arith, common_steps)
