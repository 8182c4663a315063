use Rattle.std.proofs.Common.{◌≡◌, ◌∷◌, ℕ, suc, List, length, sym, subst, ap, ◌∙◌, arith}
use Rattle.std.proofs.lemmas.List.{length-map}
use Rattle.sctp_send.specs.OutstandingFields.{item_meaning}
use Rattle.sctp_send.specs.declared.kept.counts.Counts.{Counts}
use Rattle.sctp_send.specs.declared.kept.message.Message.{Message as MessageFields}
use Rattle.sctp_send.specs.declared.kept.entry.Entry.{Entry as EntryFields}
use Rattle.sctp_send.specs.inner.Counting.{IsCounted}
use Rattle.sctp_send.specs.inner.TicketOrder.{IsOrderOf, ticket_of, tickets_of}
use Rattle.sctp_send.proofs.kept.CountLemmas.{counts_behind}
use Rattle.sctp_send.specs.inner.Stretching.{AreKnown}
use Rattle.sctp_send.proofs.kept.KnownLemmas.{known_behind}
use Rattle.sctp_send.proofs.kept.outstanding.Outstanding.pop_front.Goals as goal

pub invariant_of-self : goal.invariant_of-self
invariant_of-self c =
    let s = c.self.inside in
    let h = c.self.invariant in
    let o = s.by_ticket in
    let items = c.in-Some.ensures.items in
    let counted = subst (λ (es : List EntryFields). IsCounted s.size es s.counts) items h.counted in
    let rest = c.pop_front.new.self.items in
    let before : c.leave.new.self.front ≡ s.counts.front = ap (λ (n : Counts). n.front) c.leave.ensures in
    let front = c.front_behind-self-inside.ensures s.size (item_meaning s.size c.in-Some.entry) (before ∙ counted.front) in
    let ticket = ap (λ (m : MessageFields). m.ticket) c.deref.ensures in
    let order = subst (λ (es : List EntryFields). IsOrderOf (tickets_of es) o) items h.order in
    record {
      counted = rw (c.saturating_sub-self-inside.ensures, c.saturating_sub-self-inside-in-Some.ensures, c.leave.ensures)
          (counts_behind s.size c.in-Some.entry rest s.counts c.front_behind-self-inside.result counted front);
      order = c.pop_front-in-Some.ensures.order (tickets_of rest) (c.len.ensures ∙ c.pop_front.new.self.ok.0 ∙ sym (length-map rest ticket_of)) (subst (λ (t : ℕ). IsOrderOf (t ∷ tickets_of rest) o) (sym ticket) order);
      within =
          let long : length s.entries.items ≡ suc (length rest) = ap (λ (es : List EntryFields). length es) items in
          let le = h.within in
          omega (arith, long, le);
      here = let le = h.here in omega (arith, c.pop_front.ensures.capacity, le);
      there = let le = h.there in omega (arith, c.pop_front-in-Some.ensures.capacity, le);
      known = subst (λ (n : ℕ). AreKnown n s.size c.pop_front-in-Some.new.self.first s.stretches.items rest) (sym (ap (λ (n : Counts). n.header) c.leave.ensures))
          (known_behind s.counts.header s.size o.first c.pop_front-in-Some.new.self.first s.stretches.items c.in-Some.entry rest c.pop_front-in-Some.ensures.first (subst (λ (es : List EntryFields). AreKnown s.counts.header s.size o.first s.stretches.items es) items h.known));
    }
