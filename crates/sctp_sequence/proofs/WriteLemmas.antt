-- An item is written in its block: the blocks are as sound as before.
use Rattle.std.proofs.Common.{◌≡◌, ℕ, ◌+◌, ◌<◌, length, get_or, set, take, ap, ◌∙◌, length-set, length-append, arith}
use Rattle.std.specs.Prelude.{Option}
use Rattle.std.specs.Vec.{with_item, vec_len}
use Rattle.std.specs.VecDeque.{deque_len, deque_capacity}
use Rattle.std.specs.declared.vec.Vec.{Vec}
use Rattle.std.specs.declared.collections.VecDeque.{VecDeque}
use Rattle.sctp_sequence.specs.Blocks.{joined, IsBlock, AreBlocks}
use Rattle.sctp_sequence.proofs.BlockLemmas.{all-at, all-set}
use Rattle.sctp_sequence.proofs.StartLemmas.{starts_kept}
use Rattle.sctp_sequence.proofs.PlaceLemmas.{set_there, as_read}

-- the same of what it has and of its memory
pub as_sound : {X Z : Type 0} (b c : VecDeque X Z) → deque_len c ≡ deque_len b → deque_capacity c ≡ deque_capacity b → IsBlock b → IsBlock c
as_sound b c len cap h =
    let some = h.some in
    let short = h.short in
    let wide = h.wide in
    record { some = omega arith; short = omega arith; wide = omega arith }

pub written : {X Z Y W : Type 0} (n : ℕ) (f : VecDeque X Z) (r : Vec (VecDeque X Z) Y) (t : Vec ℕ W) (s : Option (VecDeque X Z)) (k at offset : ℕ) (b c : VecDeque X Z) (x : X) → AreBlocks n f r t s
    → k < length r.items → b ≡ get_or r.items k b → at ≡ length (joined (take k r.items)) + offset → offset < length b.items
    → c.items ≡ set b.items offset x → deque_len c ≡ deque_len b → deque_capacity c ≡ deque_capacity b → AreBlocks n f (with_item r k c) t s
written {X} n f r t s k at offset b c x h less is place within new len cap =
    let there = set_there r.items k at offset b less is place x c within new in
    let long : length (joined (set r.items k c)) ≡ length (joined r.items) = ap length there ∙ length-set (joined r.items) at x in
    let all = length-append f.items (joined r.items) in
    let all' = length-append f.items (joined (set r.items k c)) in
    let sound = as_read IsBlock r.items k b is (λ d. all-at IsBlock r.items k d less h.rest) in
    record {
      count = omega (arith, h.count, long, all, all');
      short = h.short;
      some = h.some;
      wide = h.wide;
      rest = all-set IsBlock r.items k c (as_sound b c len cap sound) h.rest;
      each = h.each;
      starts = starts_kept (vec_len r) k t.items r.items b c less is h.starts (omega (arith, b.ok, c.ok, len));
      spare = h.spare;
    }
