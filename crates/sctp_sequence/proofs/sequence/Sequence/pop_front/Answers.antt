use Rattle.std.proofs.Common.{◌≡◌, ◌-◌, ◌<◌, ◌≤◌, is_some, ap, ◌∙◌, arith}
use Rattle.std.proofs.lemmas.Grind.{common_steps}
use Rattle.std.specs.Vec.{vec_len, vec_capacity}
use Rattle.std.specs.VecDeque.{deque_len, deque_capacity}
use Rattle.sctp_sequence.proofs.RoomLemmas.{room_kept}
use Rattle.sctp_sequence.proofs.sequence.Sequence.pop_front.Goals as goal

pub returns-else-is_some-clause-variant : goal.returns-else-is_some-clause-variant
returns-else-is_some-clause-variant g c = grind (arith, common_steps)

pub move_up-requires-clause-small : goal.move_up-requires-clause-small
move_up-requires-clause-small g c = grind (arith, common_steps)

pub returns-else-is_some-clause-rest : goal.returns-else-is_some-clause-rest
returns-else-is_some-clause-rest g c = grind (arith, common_steps)

pub returns-then-is_some-clause-room : goal.returns-then-is_some-clause-room
returns-then-is_some-clause-room g c = λ room.
    let s = c.self.inside in
    let f = c.move_up.new.first in
    let r = c.move_up.new.rest in
    let wide : 0 < vec_len s.rest → 512 ≤ deque_capacity f = λ more. let w = c.self.invariant.wide more in c.move_up.ensures.wide (omega (arith, w, c.pop_front-item.ensures.capacity)) in
    let short : vec_len s.rest ≡ 0 → deque_len f ≤ deque_len s.first = λ none. let same = ap deque_len (c.move_up.ensures.alone none) in omega (arith, same, c.pop_front-item.ensures.len) in
    let memory : vec_len s.rest ≡ 0 → deque_capacity f ≡ deque_capacity s.first = λ none. ap deque_capacity (c.move_up.ensures.alone none) ∙ c.pop_front-item.ensures.capacity in
    room_kept (deque_len s.first) (deque_capacity s.first) (vec_len s.rest) (vec_capacity s.rest) (vec_capacity s.starts) s.count (deque_len f) (deque_capacity f) (vec_len r) (vec_capacity r) (vec_capacity c.move_up.new.starts) (s.count - 1) (is_some s.spare)
    s.first.small.1 c.move_up.ensures.capacity c.move_up.ensures.starts_capacity c.move_up.ensures.len (omega arith) wide short memory (rw (← c.self.view_is) at room)
