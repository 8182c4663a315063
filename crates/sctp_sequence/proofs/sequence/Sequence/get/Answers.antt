use Rattle.std.proofs.Common.{◌≡◌, ◌-◌, ◌<◌, ◌≤◌, length, sym, ◌∙◌, arith}
use Rattle.std.specs.VecDeque.{deque_len}
use Rattle.std.proofs.lemmas.List.{get_or-append_right}
use Rattle.sctp_sequence.specs.Blocks.{joined}
use Rattle.sctp_sequence.proofs.PlaceLemmas.{item_there, as_read}
use Rattle.sctp_sequence.proofs.sequence.Sequence.get.Goals as goal

pub returns : goal.returns
returns g c =
    let s = c.self.inside in
    let bs = s.rest.items in
    let b = c.index-2.result.now in
    let k = c.find-place.result.block in
    let offset = c.find-place.result.offset in
    let item = c.index-3.result.now in
    let n = c.len-2.result in
    let less : k < length bs = omega (arith, s.rest.ok, c.find-place.ensures.block) in
    let within : offset < length b.items = omega (arith, b.ok, as_read (λ d. offset < deque_len d) bs k b c.index-2.ensures c.find-place.ensures.offset) in
    let there = item_there bs k (c.args.at - n) offset b less c.index-2.ensures c.find-place.ensures.place item within in
    let long : length s.first.items ≡ n = omega (arith, s.first.ok, c.len-2.ensures) in
    let from : n ≤ c.args.at = omega (arith, c.len.ensures, c.len-2.ensures, c.if-at-len.false) in
    rw (← c.self.view_is) (c.index-3.ensures ∙ there ∙ sym (get_or-append_right s.first.items (joined bs) n c.args.at item long from))
