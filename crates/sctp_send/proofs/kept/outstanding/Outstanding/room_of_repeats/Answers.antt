use Rattle.std.proofs.Common.{◌≡◌, ◌∙◌, ◌+◌, ◌-◌, ◌<◌, ◌≤◌, suc, length, map, sym, ap, arith}
use Rattle.sctp_send.specs.OutstandingFields.{item_meaning}
use Rattle.sctp_send.specs.PartsKept.{OutstandingKept}
use Rattle.sctp_send.specs.inner.Weighing.{item_room}
use Rattle.sctp_send.proofs.pace.HereLemmas.{item_read}
use Rattle.sctp_send.proofs.pace.RepeatLemmas.{repeats_behind, repeats_fit, repeats_full, repeats_past}
use Rattle.sctp_send.proofs.kept.outstanding.Outstanding.room_of_repeats.Goals.{then-is_repeat+else-taken-from, else-is_repeat}
use Rattle.sctp_send.proofs.kept.outstanding.Outstanding.room_of_repeats.Goals as goal

pub loop-at-init : goal.loop-at-init
loop-at-init g c =
    let xs = map (item_meaning c.args.self.now.size) c.args.self.now.items in
    let none : c.args.room - c.args.room ≡ 0 = omega arith in
    record {
      size = ap (λ (w : OutstandingKept). w.size) c.self.view_is;
      less = omega arith;
      end = c.len-at-end.ensures;
      rest = repeats_behind g.F.Framing.format c.args.room c.first_repeat-at.result xs c.first_repeat-at.ensures.none ∙ rw none (omega arith);
    }

pub returns-then-taken-from-clause-count : goal.returns-then-taken-from-clause-count
returns-then-taken-from-clause-count g c =
    let h = c.loop-at.invariant in
    let es = c.args.self.now.items in
    let x = item_meaning c.args.self.now.size c.get-entry.result.now in
    let lt : c.loop-at.at < length es = omega (arith, h.end, c.loop-at-test.true) in
    let read = item_read c.args.self.now.size es c.loop-at.at c.get-entry.result.now lt c.get-entry.ensures in
    let taken : c.room_of-taken.result ≡ item_room g.F.Framing.format x = rw (← h.size) c.room_of-taken.ensures in
    let full = repeats_full g.F.Framing.format c.loop-at.left c.loop-at.at (map (item_meaning c.args.self.now.size) es) x read (sym (c.is_repeat.ensures c.args.self.now.size) ∙ c.if-is_repeat.true) (omega (arith, taken, c.from.ensures, c.if-taken-from.true)) in
    omega (arith, h.rest, full)

pub loop-at-preserved : goal.loop-at-preserved
loop-at-preserved g c =
    let h = c.loop-at.invariant in
    let f = g.F.Framing.format in
    let es = c.args.self.now.items in
    let xs = map (item_meaning c.args.self.now.size) es in
    let x = item_meaning c.args.self.now.size c.get-entry.result.now in
    let lt : c.loop-at.at < length es = omega (arith, h.end, c.loop-at-test.true) in
    let read = item_read c.args.self.now.size es c.loop-at.at c.get-entry.result.now lt c.get-entry.ensures in
    let rest = h.rest in
    let less = h.less in
    let one : suc c.loop-at.at ≡ c.loop-at.at + 1 = omega arith in
    elim c.if-is_repeat.branch [
      | then-is_repeat+else-taken-from w ↦
          let taken : w.room_of-taken.result ≡ item_room f x = rw (← h.size) w.room_of-taken.ensures in
          let fits : item_room f x ≤ c.loop-at.left = omega (arith, taken, w.from.ensures, w.if-taken-from.false) in
          let left : c.if-is_repeat.left ≡ c.loop-at.left - item_room f x = omega (arith, w.left-is, taken) in
          let step = rw one at (repeats_fit f c.loop-at.left c.loop-at.at xs x read (sym (c.is_repeat.ensures c.args.self.now.size) ∙ w.if-is_repeat.true) fits) in
          record { size = h.size; less = omega (arith, less, left); end = h.end; rest = rw left (omega (arith, rest, step, fits, less)) }
      | else-is_repeat w ↦
          let left = w.left-is in
          let step = rw one at (repeats_past f c.loop-at.left c.loop-at.at xs x read (sym (c.is_repeat.ensures c.args.self.now.size) ∙ w.if-is_repeat.false)) in
          record { size = h.size; less = omega (arith, less, left); end = h.end; rest = rw left (omega (arith, rest, step)) }
    ]
