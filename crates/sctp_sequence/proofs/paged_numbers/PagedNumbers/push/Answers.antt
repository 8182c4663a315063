use Rattle.std.proofs.Common.{◌≡◌, ◌<◌, ◌%◌, length, arith}
use Rattle.sctp_sequence.proofs.PageLemmas.{pages_begun, pages_lower, pages_under}
use Rattle.sctp_sequence.proofs.paged_numbers.PagedNumbers.push.Goals.{then-many-eq0, else-many-eq0+then-number-index, else-many-eq0+else-number-index}
use Rattle.sctp_sequence.proofs.paged_numbers.PagedNumbers.push.Goals as goal

pub invariant_of-self : goal.invariant_of-self
invariant_of-self c =
    let s = c.self.inside in
    let n = c.args.number in
    let many : c.len-many.result ≡ length s.numbers.items = omega (arith, c.len-many.ensures, s.numbers.ok) in
    elim c.if-many-eq0.branch [
      | then-many-eq0 w ↦
          let begins : length s.numbers.items % 64 ≡ 0 = omega (arith, many, w.if-many-eq0.true) in
          rw (c.push_back_reserved.ensures.items, w.self-inside-is, w.min-self-inside.ensures, w.push_reserved.ensures.items) (pages_begun s.numbers.items s.leasts.items s.lowest n c.self.invariant begins)
      | else-many-eq0+then-number-index w ↦
          let goes_on : 0 < length s.numbers.items % 64 = omega (arith, many, w.if-many-eq0.false) in
          rw (c.push_back_reserved.ensures.items, w.self-inside-is, w.min-self-inside-then-number-index.ensures, many)
          (pages_lower s.numbers.items s.leasts.items s.lowest n w.index.result.now c.self.invariant goes_on (rw many at w.index.ensures) w.if-number-index.true)
      | else-many-eq0+else-number-index w ↦
          let goes_on : 0 < length s.numbers.items % 64 = omega (arith, many, w.if-many-eq0.false) in
          rw (c.push_back_reserved.ensures.items, w.self-inside-is) (pages_under s.numbers.items s.leasts.items s.lowest n w.index.result.now c.self.invariant goes_on (rw many at w.index.ensures) w.if-number-index.false)
    ]
