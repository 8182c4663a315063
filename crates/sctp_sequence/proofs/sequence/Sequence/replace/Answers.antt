use Rattle.std.proofs.Common.{◌≡◌, ◌-◌, ◌<◌, ◌++◌, List, length, get_or, set, refl, sym, ap, subst, ◌∙◌, arith}
use Rattle.std.proofs.lemmas.Grind.{common_steps}
use Rattle.std.specs.VecDeque.{deque_len, deque_with_item}
use Rattle.std.proofs.lemmas.List.{get_or-append_right}
use Rattle.sctp_sequence.specs.Blocks.{joined}
use Rattle.std.proofs.lemmas.List.{set-append_left, set-append_right}
use Rattle.sctp_sequence.proofs.PlaceLemmas.{item_there, set_there, as_read}
use Rattle.sctp_sequence.proofs.WriteLemmas.{written}
use Rattle.sctp_sequence.proofs.sequence.Sequence.replace.Goals as goal

pub returns-then-at-before-clause-items : goal.returns-then-at-before-clause-items
returns-then-at-before-clause-items g c =
    let s = c.self.inside in
    let within : c.args.at < length s.first.items = omega (arith, s.first.ok, c.len-before.ensures, c.if-at-before.true) in
    rw (← c.self.view_is) (ap (λ (x : g.row.T.Denot). set s.first.items c.args.at x ++ joined s.rest.items) c.replace.ensures.after ∙ sym (set-append_left s.first.items (joined s.rest.items) c.args.at c.args.item within))

pub invariant_of-self-2 : goal.invariant_of-self-2
invariant_of-self-2 g c =
    let s = c.self.inside in
    let bs = s.rest.items in
    let b = c.index_mut-block.result.now in
    let k = c.find-place.result.block in
    let offset = c.find-place.result.offset in
    let less : k < length bs = omega (arith, s.rest.ok, c.find-place.ensures.block) in
    let within : offset < length b.items = omega (arith, b.ok, as_read (λ d. offset < deque_len d) bs k b c.index_mut-block.ensures.value c.find-place.ensures.offset) in
    written s.count s.first s.rest s.starts s.spare k _ offset b (deque_with_item b offset c.replace-2.new.dest) c.replace-2.new.dest c.self.invariant less c.index_mut-block.ensures.value c.find-place.ensures.place within refl refl refl

pub returns-clause-value : goal.returns-clause-value
returns-clause-value g c =
    let s = c.self.inside in
    let bs = s.rest.items in
    let b = c.index_mut-block.result.now in
    let k = c.find-place.result.block in
    let offset = c.find-place.result.offset in
    let n = c.len-before.result in
    let item = c.index_mut-2.result.now in
    let less : k < length bs = omega (arith, s.rest.ok, c.find-place.ensures.block) in
    let within : offset < length b.items = omega (arith, b.ok, as_read (λ d. offset < deque_len d) bs k b c.index_mut-block.ensures.value c.find-place.ensures.offset) in
    let there = item_there bs k (c.args.at - n) offset b less c.index_mut-block.ensures.value c.find-place.ensures.place item within in
    let long : length s.first.items ≡ n = omega (arith, s.first.ok, c.len-before.ensures) in
    let here : item ≡ get_or (s.first.items ++ joined bs) c.args.at item = c.index_mut-2.ensures.value ∙ there ∙ sym (get_or-append_right s.first.items (joined bs) n c.args.at item long c.if-at-before.false) in
    rw (← c.self.view_is) (subst (λ (x : g.row.T.Denot). x ≡ get_or (s.first.items ++ joined bs) c.args.at x) (sym c.replace-2.ensures.value) here)

pub returns-clause-items : goal.returns-clause-items
returns-clause-items g c =
    let s = c.self.inside in
    let bs = s.rest.items in
    let b = c.index_mut-block.result.now in
    let k = c.find-place.result.block in
    let offset = c.find-place.result.offset in
    let n = c.len-before.result in
    let less : k < length bs = omega (arith, s.rest.ok, c.find-place.ensures.block) in
    let within : offset < length b.items = omega (arith, b.ok, as_read (λ d. offset < deque_len d) bs k b c.index_mut-block.ensures.value c.find-place.ensures.offset) in
    let long : length s.first.items ≡ n = omega (arith, s.first.ok, c.len-before.ensures) in
    let x = c.replace-2.new.dest in
    let there = set_there bs k (c.args.at - n) offset b less c.index_mut-block.ensures.value c.find-place.ensures.place x (deque_with_item b offset x) within refl in
    rw (← c.self.view_is) (ap (λ (l : List g.row.T.Denot). s.first.items ++ l) there ∙ sym (set-append_right s.first.items (joined bs) n c.args.at x long c.if-at-before.false) ∙ ap (λ (y : g.row.T.Denot). set (s.first.items ++ joined bs) c.args.at y) c.replace-2.ensures.after)

pub invariant_of-self : goal.invariant_of-self
invariant_of-self g c = grind (arith, common_steps)

pub returns-then-at-before-clause-value : goal.returns-then-at-before-clause-value
returns-then-at-before-clause-value g c = grind (arith, common_steps)

pub find-place-requires-clause-at : goal.find-place-requires-clause-at
find-place-requires-clause-at g c = grind (arith, common_steps)
