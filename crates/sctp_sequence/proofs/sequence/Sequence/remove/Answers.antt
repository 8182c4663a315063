use Rattle.std.proofs.Common.{◌≡◌, ◌-◌, ◌<◌, ◌≤◌, ◌++◌, List, is_some, length, sym, ap, ◌∙◌, arith}
use Rattle.std.proofs.lemmas.Grind.{common_steps}
use Rattle.std.specs.Vec.{vec_len, vec_capacity}
use Rattle.std.specs.VecDeque.{deque_len, deque_capacity}
use Rattle.std.proofs.lemmas.List.Edits.{remove-append_right}
use Rattle.sctp_sequence.specs.Blocks.{joined}
use Rattle.sctp_sequence.proofs.RoomLemmas.{room_kept, so_some, when_some}
use Rattle.sctp_sequence.proofs.sequence.Sequence.remove.Goals as goal

pub returns-then-before-at-clause-items : goal.returns-then-before-at-clause-items
returns-then-before-at-clause-items g c =
    let s = c.self.inside in
    let n = c.len-before.result in
    let long : length s.first.items ≡ n = omega (arith, s.first.ok, c.len-before.ensures) in
    so_some c.remove_later.result _
    (rw (← c.self.view_is) (ap (λ (l : List g.row.T.Denot). s.first.items ++ l) c.remove_later.ensures.items ∙ sym (remove-append_right s.first.items (joined s.rest.items) n c.args.at long c.if-before-at.true)))

pub returns-clause-room : goal.returns-clause-room
returns-clause-room g c = λ room.
    let s = c.self.inside in
    let f = c.move_up.new.first in
    let r = c.move_up.new.rest in
    let gone = c.remove-item.new.self in
    let less : c.args.at < deque_len s.first = omega (arith, c.len-before.ensures, c.if-before-at.false) in
    let one = when_some c.remove-item.result _ (c.remove-item.ensures.variant.1 less) c.remove-item.ensures.len in
    let wide : 0 < vec_len s.rest → 512 ≤ deque_capacity f = λ more. let w = c.self.invariant.wide more in c.move_up.ensures.wide (omega (arith, w, c.remove-item.ensures.capacity)) in
    let short : vec_len s.rest ≡ 0 → deque_len f ≤ deque_len s.first = λ none. let same = ap deque_len (c.move_up.ensures.alone none) in omega (arith, same, one) in
    let memory : vec_len s.rest ≡ 0 → deque_capacity f ≡ deque_capacity s.first = λ none. ap deque_capacity (c.move_up.ensures.alone none) ∙ c.remove-item.ensures.capacity in
    room_kept (deque_len s.first) (deque_capacity s.first) (vec_len s.rest) (vec_capacity s.rest) (vec_capacity s.starts) s.count (deque_len f) (deque_capacity f) (vec_len r) (vec_capacity r) (vec_capacity c.move_up.new.starts) (s.count - 1) (is_some s.spare)
    s.first.small.1 c.move_up.ensures.capacity c.move_up.ensures.starts_capacity c.move_up.ensures.len (omega arith) wide short memory (rw (← c.self.view_is) at room)

pub invariant_of-self : goal.invariant_of-self
invariant_of-self g c = grind (arith, common_steps)

pub invariant_of-self-2 : goal.invariant_of-self-2
invariant_of-self-2 g c = grind (arith, common_steps)

pub returns-then-before-at-clause-room : goal.returns-then-before-at-clause-room
returns-then-before-at-clause-room g c = grind (arith, common_steps)

pub returns-then-before-at-clause-value : goal.returns-then-before-at-clause-value
returns-then-before-at-clause-value g c = grind (arith, common_steps)

pub returns-clause-items : goal.returns-clause-items
returns-clause-items g c = grind (arith, common_steps)

pub returns-clause-value : goal.returns-clause-value
returns-clause-value g c = grind (arith, common_steps)

pub remove_later-requires-clause-at : goal.remove_later-requires-clause-at
remove_later-requires-clause-at g c = grind (arith, common_steps)

pub remove_later-requires-clause-small : goal.remove_later-requires-clause-small
remove_later-requires-clause-small g c = grind (arith, common_steps)

pub move_up-requires-clause-small : goal.move_up-requires-clause-small
move_up-requires-clause-small g c = grind (arith, common_steps)
