use Rattle.std.proofs.Common.{◌≡◌, ◌<◌, ◌∷◌, [], ◌++◌, List, ℕ, length, sym, ◌∙◌, ap, subst, arith, length-append}
use Rattle.std.proofs.lemmas.List.{length-map, map-append}
use Rattle.sctp_send.specs.PartsKept.{OutstandingKept}
use Rattle.sctp_send.specs.inner.TicketOrder.{IsOrderOf, ticket_of, tickets_of}
use Rattle.sctp_send.specs.declared.kept.counts.Counts.{Counts}
use Rattle.sctp_send.specs.declared.kept.message.Message.{Message as MessageFields}
use Rattle.sctp_send.specs.declared.kept.entry.Entry.{Entry as EntryFields}
use Rattle.sctp_send.proofs.kept.CountLemmas.{counts_pushed}
use Rattle.sctp_send.specs.inner.Stretching.{index_at, AreKnown}
use Rattle.sctp_send.proofs.kept.KnownLemmas.{SayTheSame, SayNothing, known_pushed}
use Rattle.sctp_send.proofs.kept.outstanding.Outstanding.put.Goals as goal

pub push-requires : goal.push-requires
push-requires c =
    let s = c.self.inside in
    let h = c.self.invariant in
    let lt = subst (λ (w : OutstandingKept). length w.items < w.capacity) (sym c.self.view_is) c.requires in
    let whole = h.order.whole in
    omega (arith, lt, h.there, whole, length-map s.entries.items ticket_of)

pub push_back_reserved-requires : goal.push_back_reserved-requires
push_back_reserved-requires c =
    let s = c.self.inside in
    let h = c.self.invariant in
    let lt = subst (λ (w : OutstandingKept). length w.items < w.capacity) (sym c.self.view_is) c.requires in
    omega (arith, lt, h.here, s.entries.ok)

pub invariant_of-self : goal.invariant_of-self
invariant_of-self c =
    let s = c.self.inside in
    let h = c.self.invariant in
    let e = c.args.entry in
    let es = s.entries.items in
    let items = c.push_back_reserved.ensures.items in
    let lt = subst (λ (w : OutstandingKept). length w.items < w.capacity) (sym c.self.view_is) c.requires in
    let long : c.len-others.result ≡ length es = c.len-others.ensures ∙ s.entries.ok.0 in
    let ticket = ap (λ (m : MessageFields). m.ticket) c.deref.ensures in
    let more : tickets_of (es ++ e ∷ []) ≡ tickets_of es ++ ticket_of e ∷ [] = map-append ticket_of es (e ∷ []) in
    let order = subst (λ (t : ℕ). IsOrderOf (tickets_of es ++ t ∷ []) c.push.new.self) ticket (c.push.ensures.order (tickets_of es) (long ∙ sym (length-map es ticket_of)) h.order) in
    record {
      counted = rw (items, c.add.ensures, long) (counts_pushed s.size es e s.counts h.counted);
      order = subst (λ (ts : List ℕ). IsOrderOf ts c.push.new.self) (sym (ap tickets_of items ∙ more)) order;
      within = let n = ap (λ (xs : List EntryFields). length xs) items in let m = length-append es (e ∷ []) in omega (arith, n, m, lt);
      here = let le = h.here in omega (arith, le, c.push_back_reserved.ensures.capacity);
      there = let le = h.there in omega (arith, le, c.push.ensures.capacity);
      known =
          let here = ap (index_at s.by_ticket.first) long in
          let now = c.forget_added.new.stretches.items in
          subst (λ (n : ℕ). AreKnown n s.size c.push.new.self.first now c.push_back_reserved.new.self.items) (sym (ap (λ (n : Counts). n.header) c.add.ensures))
          (subst (λ (xs : List EntryFields). AreKnown s.counts.header s.size c.push.new.self.first now xs) (sym items)
          (subst (λ (n : ℕ). AreKnown s.counts.header s.size n now (es ++ e ∷ [])) (sym c.push.ensures.first)
          (known_pushed s.counts.header s.size s.by_ticket.first s.stretches.items now es e
          (subst (λ (i : ℕ). SayTheSame i now s.stretches.items) here c.forget_added.ensures.others)
          (subst (λ (i : ℕ). SayNothing i now) here c.forget_added.ensures.here)
          h.known)));
    }
