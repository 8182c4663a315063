use Rattle.std.proofs.Common.{◌≡◌, ◌∙◌, ◌<◌, ◌≤◌, Bool, true, None, Option, ℕ, length, map, refl, sym, ap, arith}
use Rattle.std.specs.Prelude.{nat_lt, ◌||◌, is_some}
use Rattle.sctp_send.specs.OutstandingFields.{item_meaning}
use Rattle.sctp_send.specs.inner.Wishing.{first_offset, is_item_marked, is_item_unsent, some_pending}
use Rattle.sctp_send.specs.PartsKept.{OutstandingKept}
use Rattle.sctp_send.proofs.kept.CursorLemmas.{none_found, search_found}
use Rattle.sctp_send.proofs.kept.outstanding.Outstanding.finds_pending.Goals as goal

pub returns-then-first_from-len : goal.returns-then-first_from-len
returns-then-first_from-len c =
    let s = c.self.inside in
    let lt : c.first_from.result < length s.entries.items = omega (arith, c.len.ensures, s.entries.ok.0, c.if-first_from-len.true) in
    let there = c.first_from.ensures.found s.size c.self.invariant.counted.marked lt in
    rw (← c.self.view_is, ← there) refl

pub returns : goal.returns
returns c =
    let s = c.self.inside in
    let xs = map (item_meaning s.size) s.entries.items in
    let le : length s.entries.items ≤ c.first_from.result = omega (arith, c.len.ensures, s.entries.ok.0, c.if-first_from-len.false) in
    let none : None ≡ first_offset is_item_marked xs = none_found is_item_marked s.size s.entries.items c.first_from.result le (c.first_from.ensures.none s.size c.self.invariant.counted.marked) in
    let e = c.first_from-2.ensures in
    let unsent = search_found is_item_unsent s.size s.entries.items c.first_from-2.result (e.none s.size c.self.invariant.counted.unsent) (e.found s.size c.self.invariant.counted.unsent) in
    let last : c.len-2.result ≡ length s.entries.items = omega (arith, c.len-2.ensures, s.entries.ok.0) in
    rw (← c.self.view_is) (ap (nat_lt c.first_from-2.result) last ∙ unsent ∙ ap (λ (o : Option ℕ). is_some o || is_some (first_offset is_item_unsent xs)) none)
