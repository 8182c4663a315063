use Rattle.std.proofs.Common.{◌≡◌, ◌-◌, ◌<◌, ◌++◌, List, length, refl, sym, ap, ◌∙◌, arith}
use Rattle.std.proofs.lemmas.Grind.{common_steps}
use Rattle.std.specs.VecDeque.{deque_len, deque_with_item}
use Rattle.std.proofs.lemmas.List.{get_or_append_left, get_or-append_right}
use Rattle.sctp_sequence.specs.Blocks.{joined, has_room}
use Rattle.std.proofs.lemmas.List.{set-append_left, set-append_right}
use Rattle.sctp_sequence.proofs.PlaceLemmas.{item_there, set_there, as_read}
use Rattle.sctp_sequence.proofs.WriteLemmas.{written}
use Rattle.sctp_sequence.proofs.sequence.Sequence.get_mut.Goals as goal

pub returns-then-at-before : goal.returns-then-at-before
returns-then-at-before g c =
    let s = c.self.inside in
    let item = c.index_mut.result.now in
    let within : c.args.at < length s.first.items = omega (arith, s.first.ok, c.len-before.ensures, c.if-at-before.true) in
    rw (← c.self.view_is) (
      (refl, λ w i. record { items = sym (set-append_left s.first.items (joined s.rest.items) c.args.at w within) i; room = has_room s.count s.first s.rest s.starts s.spare }),
      record { writes_back = tt; value = c.index_mut.ensures.value ∙ sym (get_or_append_left s.first.items (joined s.rest.items) item c.args.at within) },
    )

pub invariant_of-self-lent-2 : goal.invariant_of-self-lent-2
invariant_of-self-lent-2 g c w =
    let s = c.self.inside in
    let bs = s.rest.items in
    let b = c.index_mut-2.result.now in
    let k = c.find-place.result.block in
    let offset = c.find-place.result.offset in
    let less : k < length bs = omega (arith, s.rest.ok, c.find-place.ensures.block) in
    let within : offset < length b.items = omega (arith, b.ok, as_read (λ d. offset < deque_len d) bs k b c.index_mut-2.ensures.value c.find-place.ensures.offset) in
    written s.count s.first s.rest s.starts s.spare k _ offset b (deque_with_item b offset w) w c.self.invariant less c.index_mut-2.ensures.value c.find-place.ensures.place within refl refl refl

pub returns : goal.returns
returns g c =
    let s = c.self.inside in
    let bs = s.rest.items in
    let b = c.index_mut-2.result.now in
    let k = c.find-place.result.block in
    let offset = c.find-place.result.offset in
    let n = c.len-before.result in
    let item = c.index_mut-3.result.now in
    let less : k < length bs = omega (arith, s.rest.ok, c.find-place.ensures.block) in
    let within : offset < length b.items = omega (arith, b.ok, as_read (λ d. offset < deque_len d) bs k b c.index_mut-2.ensures.value c.find-place.ensures.offset) in
    let long : length s.first.items ≡ n = omega (arith, s.first.ok, c.len-before.ensures) in
    let there = item_there bs k (c.args.at - n) offset b less c.index_mut-2.ensures.value c.find-place.ensures.place item within in
    let set = λ (w : g.row.T.Denot). set_there bs k (c.args.at - n) offset b less c.index_mut-2.ensures.value c.find-place.ensures.place w (deque_with_item b offset w) within refl in
    rw (← c.self.view_is) (
      (refl, λ w i. record { items = (ap (λ (l : List g.row.T.Denot). s.first.items ++ l) (set w) ∙ sym (set-append_right s.first.items (joined bs) n c.args.at w long c.if-at-before.false)) i; room = has_room s.count s.first s.rest s.starts s.spare }),
      record { writes_back = tt; value = c.index_mut-3.ensures.value ∙ there ∙ sym (get_or-append_right s.first.items (joined bs) n c.args.at item long c.if-at-before.false) },
    )

pub invariant_of-self-lent : goal.invariant_of-self-lent
invariant_of-self-lent g c w = grind (arith, common_steps)

pub find-place-requires-clause-at : goal.find-place-requires-clause-at
find-place-requires-clause-at g c = grind (arith, common_steps)
