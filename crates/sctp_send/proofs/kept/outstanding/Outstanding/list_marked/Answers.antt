use Rattle.std.proofs.Common.{◌≡◌, ◌∙◌, ◌+◌, ◌-◌, ◌<◌, ◌≤◌, ◌++◌, ◌∷◌, [], List, ℕ, suc, length, map, drop, refl, sym, ap, arith, append_assoc, append-nil}
use Rattle.sctp_send.specs.OutstandingFields.{item_meaning}
use Rattle.sctp_send.specs.PartsKept.{OutstandingKept}
use Rattle.sctp_send.specs.inner.Testing.{index_of}
use Rattle.sctp_send.specs.inner.Weighing.{item_room, repeats_from}
use Rattle.sctp_send.proofs.pace.HereLemmas.{item_read}
use Rattle.sctp_send.proofs.pace.AgainLemmas.{listed_behind, listed_fit, listed_full, listed_past}
use Rattle.sctp_send.proofs.kept.outstanding.Outstanding.list_marked.Goals.{then-is_repeat+else-taken-left+else-is_err, else-is_repeat}
use Rattle.sctp_send.proofs.kept.outstanding.Outstanding.list_marked.Goals as goal

pub loop-at-init : goal.loop-at-init
loop-at-init g c =
    let xs = map (item_meaning c.args.self.now.size) c.args.self.now.items in
    let zeroed : 0 + c.first_repeat-at.result ≡ c.first_repeat-at.result = omega arith in
    record {
      size = ap (λ (w : OutstandingKept). w.size) c.self.view_is;
      less = omega arith;
      end = c.len-at-end.ensures;
      rest = ap (λ (ks : List ℕ). c.args.list.now.items ++ map (index_of c.args.cum) ks) (sym (listed_behind g.F.Framing.format c.args.room 0 c.first_repeat-at.result xs c.first_repeat-at.ensures.none
          ∙ ap (λ (n : ℕ). repeats_from g.F.Framing.format c.args.room n (drop c.first_repeat-at.result xs)) zeroed));
    }

pub returns-then-taken-left : goal.returns-then-taken-left
returns-then-taken-left g c =
    let h = c.loop-at.invariant in
    let es = c.args.self.now.items in
    let x = item_meaning c.args.self.now.size c.get-entry.result.now in
    let lt : c.loop-at.at < length es = omega (arith, h.end, c.loop-at-test.true) in
    let read = item_read c.args.self.now.size es c.loop-at.at c.get-entry.result.now lt c.get-entry.ensures in
    let taken : c.room_of-taken.result ≡ item_room g.F.Framing.format x = rw (← h.size) c.room_of-taken.ensures in
    let full = listed_full g.F.Framing.format c.loop-at.left c.loop-at.at c.loop-at.at (map (item_meaning c.args.self.now.size) es) x read (sym (c.is_repeat.ensures c.args.self.now.size) ∙ c.if-is_repeat.true) (omega (arith, taken, c.if-taken-left.true)) in
    sym (append-nil c.loop-at.list.items) ∙ ap (λ (ks : List ℕ). c.loop-at.list.items ++ map (index_of c.args.cum) ks) (sym full) ∙ h.rest

pub loop-at-preserved : goal.loop-at-preserved
loop-at-preserved g c =
    let h = c.loop-at.invariant in
    let f = g.F.Framing.format in
    let es = c.args.self.now.items in
    let xs = map (item_meaning c.args.self.now.size) es in
    let x = item_meaning c.args.self.now.size c.get-entry.result.now in
    let lt : c.loop-at.at < length es = omega (arith, h.end, c.loop-at-test.true) in
    let read = item_read c.args.self.now.size es c.loop-at.at c.get-entry.result.now lt c.get-entry.ensures in
    let rest = h.rest in
    let less = h.less in
    let one : suc c.loop-at.at ≡ c.loop-at.at + 1 = omega arith in
    elim c.if-is_repeat.branch [
      | then-is_repeat+else-taken-left+else-is_err w ↦
          let taken : w.room_of-taken.result ≡ item_room f x = rw (← h.size) w.room_of-taken.ensures in
          let fits : item_room f x ≤ c.loop-at.left = omega (arith, taken, w.if-taken-left.false) in
          let left : c.if-is_repeat.left ≡ c.loop-at.left - item_room f x = omega (arith, w.left-is, taken) in
          let step = rw one at (listed_fit f c.loop-at.left c.loop-at.at c.loop-at.at xs x read (sym (c.is_repeat.ensures c.args.self.now.size) ∙ w.if-is_repeat.true) fits) in
          let before = c.loop-at.list.items in
          let more = repeats_from f (c.loop-at.left - item_room f x) (c.loop-at.at + 1) (drop (c.loop-at.at + 1) xs) in
          let pushed : w.push.new.self.items ≡ before ++ w.index_at.result ∷ [] = rw (w.push.ensures.items, w.is_err.ensures.negation, w.if-is_err.false) refl in
          record {
            size = h.size;
            less = omega (arith, less, left);
            end = h.end;
            rest = rw (w.list-is, left, pushed) (append_assoc before (w.index_at.result ∷ []) (map (index_of c.args.cum) more)
                ∙ ap (λ (i : ℕ). before ++ i ∷ map (index_of c.args.cum) more) w.index_at.ensures ∙ ap (λ (ks : List ℕ). before ++ map (index_of c.args.cum) ks) (sym step) ∙ rest);
          }
      | else-is_repeat w ↦
          let left = w.left-is in
          let step = rw one at (listed_past f c.loop-at.left c.loop-at.at c.loop-at.at xs x read (sym (c.is_repeat.ensures c.args.self.now.size) ∙ w.if-is_repeat.false)) in
          record {
            size = h.size;
            less = omega (arith, less, left);
            end = h.end;
            rest = rw (w.list-is, left) (ap (λ (ks : List ℕ). c.loop-at.list.items ++ map (index_of c.args.cum) ks) (sym step) ∙ rest);
          }
    ]
