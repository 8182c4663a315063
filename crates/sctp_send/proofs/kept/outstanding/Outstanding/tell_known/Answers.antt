use Rattle.std.proofs.Common.{◌≡◌, ◌+◌, ◌≤◌, ◌%◌, ℕ, Bool, List, length, Some, refl, sym, ap, ◌∙◌, subst, arith}
use Rattle.std.specs.Prelude.{slice_get}
use Rattle.sctp_send.specs.PartsKept.{OutstandingKept}
use Rattle.sctp_send.specs.inner.Changes.{told}
use Rattle.sctp_send.specs.inner.Stretching.{AreAlike, told_run, index_at, slot_at, AreKnown}
use Rattle.sctp_send.specs.inner.TicketOrder.{IsOrderOf, tickets_of}
use Rattle.sctp_send.specs.declared.kept.entry.Entry.{Entry as EntryFields}
use Rattle.sctp_send.specs.declared.kept.stretches.Stretch.{Stretch}
use Rattle.sctp_send.proofs.kept.StretchLemmas.{flag_on, flags_same, flags_differ, run_same, length-run_changed}
use Rattle.sctp_send.proofs.kept.TurnedLemmas.{same_ticket, same_tickets}
use Rattle.sctp_send.proofs.kept.KnownLemmas.{SayTheSame, known_turned}
use Rattle.sctp_send.proofs.kept.outstanding.Outstanding.tell_known.Goals as goal

pub turn_stretch-requires : goal.turn_stretch-requires
turn_stretch-requires c =
    let s = c.self.inside in
    let h = c.self.invariant in
    let es = s.entries.items in
    let at = c.args.at in
    let known = c.stretch_of-known.result in
    let long : length es ≡ length c.args.self.now.items = ap (λ (k : OutstandingKept). length k.items) c.self.view_is in
    let within : at + 64 ≤ length es = omega (arith, long, c.requires.within, c.requires.order, c.if-to-at-lt-STRETCH.false) in
    let begins : index_at s.by_ticket.first at % 64 ≡ 0 = omega (arith, c.index-index.ensures, c.if-index-ne0.false) in
    let read : slice_get s.stretches.items (slot_at (index_at s.by_ticket.first at)) ≡ Some known =
    ap (λ (ss : List Stretch). slice_get ss (slot_at (index_at s.by_ticket.first at))) (sym c.deref.ensures.value) ∙ ap (λ (i : ℕ). slice_get c.deref.result.now (slot_at i)) (sym c.index-index.ensures) ∙ c.stretch_of-known.ensures (flag_on c.stretch_of-known.result.is_known c.if-not-known.false) in
    let alike = h.known at known within begins read (flag_on c.stretch_of-known.result.is_known c.if-not-known.false) in
    record {
      alike = subst (λ (b : Bool). AreAlike s.counts.header s.size b known.bytes known.chunks known.plain at 64 es) (flags_differ known.covered c.args.covered c.if-known-covered.false) alike;
      counted = h.counted;
    }

pub returns-then-known-covered-clause-told : goal.returns-then-known-covered-clause-told
returns-then-known-covered-clause-told c = λ on.
    let s = c.self.inside in
    let h = c.self.invariant in
    let es = s.entries.items in
    let w = c.args.self.now in
    let at = c.args.at in
    let known = c.stretch_of-known.result in
    let long : length es ≡ length w.items = ap (λ (k : OutstandingKept). length k.items) c.self.view_is in
    let within : at + 64 ≤ length es = omega (arith, long, c.requires.within, c.requires.order, c.if-to-at-lt-STRETCH.false) in
    let begins : index_at s.by_ticket.first at % 64 ≡ 0 = omega (arith, c.index-index.ensures, c.if-index-ne0.false) in
    let read : slice_get s.stretches.items (slot_at (index_at s.by_ticket.first at)) ≡ Some known =
    ap (λ (ss : List Stretch). slice_get ss (slot_at (index_at s.by_ticket.first at))) (sym c.deref.ensures.value) ∙ ap (λ (i : ℕ). slice_get c.deref.result.now (slot_at i)) (sym c.index-index.ensures) ∙ c.stretch_of-known.ensures (flag_on c.stretch_of-known.result.is_known c.if-not-known.false) in
    let alike = h.known at known within begins read (flag_on c.stretch_of-known.result.is_known c.if-not-known.false) in
    let told = subst (λ (b : Bool). AreAlike s.counts.header s.size b known.bytes known.chunks known.plain at 64 es) (flags_same known.covered c.args.covered c.if-known-covered.true) alike in
    let same : told_run c.args.covered at 64 w.items ≡ w.items = subst (λ (xs : List EntryFields). told_run c.args.covered at 64 xs ≡ xs) (ap (λ (k : OutstandingKept). k.items) c.self.view_is) (run_same s.counts.header s.size c.args.covered known.bytes known.chunks known.plain at 64 es told) in
    ap (λ (xs : List EntryFields). record w { items = xs }) (sym same)

pub invariant_of-self : goal.invariant_of-self
invariant_of-self c =
    let s = c.self.inside in
    let h = c.self.invariant in
    let es = s.entries.items in
    let at = c.args.at in
    let b = c.args.covered in
    let first = s.by_ticket.first in
    let known = c.stretch_of-known.result in
    let items = c.turn_stretch.ensures.items in
    let now = c.put_stretch.new.stretches.items in
    let viewed : length es ≡ length c.args.self.now.items = ap (λ (k : OutstandingKept). length k.items) c.self.view_is in
    let within : at + 64 ≤ length es = omega (arith, viewed, c.requires.within, c.requires.order, c.if-to-at-lt-STRETCH.false) in
    let few : length es ≤ 32768 = omega (arith, c.len.ensures, s.entries.ok.0, c.if-len-gt-MOST_KNOWN.false) in
    let begins : index_at first at % 64 ≡ 0 = omega (arith, c.index-index.ensures, c.if-index-ne0.false) in
    let read : slice_get s.stretches.items (slot_at (index_at first at)) ≡ Some known =
    ap (λ (ss : List Stretch). slice_get ss (slot_at (index_at first at))) (sym c.deref.ensures.value) ∙ ap (λ (i : ℕ). slice_get c.deref.result.now (slot_at i)) (sym c.index-index.ensures) ∙ c.stretch_of-known.ensures (flag_on c.stretch_of-known.result.is_known c.if-not-known.false) in
    let alike = h.known at known within begins read (flag_on c.stretch_of-known.result.is_known c.if-not-known.false) in
    let long : length c.turn_stretch.new.entries.items ≡ length es = ap (λ (xs : List EntryFields). length xs) items ∙ length-run_changed (told b) at 64 es in
    record {
      counted = c.turn_stretch.ensures.counted;
      order = subst (λ (ts : List ℕ). IsOrderOf ts s.by_ticket) (sym (ap tickets_of items ∙ same_tickets (told b) at 64 es (same_ticket b))) h.order;
      within = let le = h.within in omega (arith, long, le);
      here = let le = h.here in omega (arith, c.turn_stretch.ensures.capacity, le);
      there = h.there;
      known = subst (λ (n : ℕ). AreKnown n s.size first now c.turn_stretch.new.entries.items) (sym c.turn_stretch.ensures.header)
          (subst (λ (xs : List EntryFields). AreKnown s.counts.header s.size first now xs) (sym items)
          (known_turned s.counts.header s.size first at known.covered b known.bytes known.chunks known.plain s.stretches.items now _ es few within begins
          (subst (λ (i : ℕ). SayTheSame i now s.stretches.items) c.index-index.ensures c.put_stretch.ensures.others)
          (λ r there. c.put_stretch.ensures.here r (ap (λ (i : ℕ). slice_get now (slot_at i)) c.index-index.ensures ∙ there)) refl refl refl refl alike h.known));
    }
