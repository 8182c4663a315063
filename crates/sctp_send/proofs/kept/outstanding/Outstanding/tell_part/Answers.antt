use Rattle.std.proofs.Common.{◌≡◌, ◌+◌, ◌-◌, ◌≤◌, ℕ, List, length, sym, ap, ◌∙◌, subst, arith}
use Rattle.std.specs.Prelude.{slice_get}
use Rattle.sctp_send.specs.PartsKept.{OutstandingKept}
use Rattle.sctp_send.specs.inner.Changes.{told, told_where, is_between}
use Rattle.sctp_send.specs.inner.Stretching.{AreKnown, told_run, slot_at}
use Rattle.sctp_send.specs.inner.TicketOrder.{IsOrderOf, tickets_of}
use Rattle.sctp_send.specs.declared.kept.entry.Entry.{Entry as EntryFields}
use Rattle.sctp_send.specs.declared.kept.stretches.Stretch.{Stretch}
use Rattle.sctp_send.proofs.kept.StretchLemmas.{run_where, length-run_changed}
use Rattle.sctp_send.proofs.kept.TurnedLemmas.{same_ticket, same_tickets}
use Rattle.sctp_send.proofs.kept.KnownLemmas.{SayTheSame, known_part}
use Rattle.sctp_send.proofs.kept.outstanding.Outstanding.tell_part.Goals as goal

pub invariant_of-self : goal.invariant_of-self
invariant_of-self c =
    let s = c.self.inside in
    let h = c.self.invariant in
    let es = s.entries.items in
    let at = c.args.at in
    let b = c.args.covered in
    let end = c.stretch_end-end.result in
    let many = end - at in
    let first = s.by_ticket.first in
    let now = c.put_stretch.new.stretches.items in
    let viewed : length es ≡ length c.args.self.now.items = ap (λ (k : OutstandingKept). length k.items) c.self.view_is in
    let upto : at + many ≡ end = omega (arith, c.stretch_end-end.ensures.further) in
    let within : at + many ≤ length es = omega (arith, viewed, upto, c.requires.within, c.stretch_end-end.ensures.upto) in
    let items : c.tell_entries.new.entries.items ≡ told_run b at many es = c.tell_entries.ensures.items ∙ ap (λ (n : ℕ). told_where b (is_between at n) 1 es) (sym upto) ∙ sym (run_where b at many es within) in
    let long : length c.tell_entries.new.entries.items ≡ length es = ap (λ (xs : List EntryFields). length xs) items ∙ length-run_changed (told b) at many es in
    record {
      counted = c.tell_entries.ensures.counted;
      order = subst (λ (ts : List ℕ). IsOrderOf ts s.by_ticket) (sym (ap tickets_of items ∙ same_tickets (told b) at many es (same_ticket b))) h.order;
      within = let le = h.within in omega (arith, long, le);
      here = let le = h.here in omega (arith, c.tell_entries.ensures.capacity, le);
      there = h.there;
      known = subst (λ (n : ℕ). AreKnown n s.size first now c.tell_entries.new.entries.items) (sym c.tell_entries.ensures.header)
          (subst (λ (xs : List EntryFields). AreKnown s.counts.header s.size first now xs) (sym items)
          (known_part s.counts.header s.size first at many b s.stretches.items now es c.stretch_end-end.ensures.stretch (subst (λ (i : ℕ). SayTheSame i now s.stretches.items) c.index.ensures c.put_stretch.ensures.others)
          (λ r there. ap (λ (x : Stretch). x.is_known) (c.put_stretch.ensures.here r (ap (λ (i : ℕ). slice_get now (slot_at i)) c.index.ensures ∙ there))) h.known));
    }
