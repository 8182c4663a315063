use Rattle.std.proofs.Common.{◌+◌, ℕ, List, refl, sym, ◌∙◌, ap, subst, arith}
use Rattle.std.proofs.lemmas.List.{length-map}
use Rattle.sctp_send.specs.declared.kept.entry.Entry.{Entry as EntryFields}
use Rattle.sctp_send.specs.inner.Changes.{as_abandoned, all_abandoned}
use Rattle.sctp_send.specs.inner.TicketHeads.{IsOwn}
use Rattle.sctp_send.specs.inner.TicketOrder.{ticket_of, tickets_of}
use Rattle.sctp_send.proofs.kept.StoodLemmas.{abandoned_other}
use Rattle.sctp_send.proofs.kept.TicketWalks.{WerePassed, IsAbandonedAlready, own_passed, own_within, entry_changed, changed_tickets, abandoned_ticket, changed_abandoned, abandoned_more, all_are_abandoned}
use Rattle.sctp_send.proofs.kept.outstanding.Outstanding.abandon.Goals as goal

pub loop-rank-init : goal.loop-rank-init
loop-rank-init c = record {
  kept = c.self.invariant;
  size = refl;
  header = refl;
  room = refl;
  own = c.own-own.ensures;
  abandoned = refl;
  fixed = λ k e upto read. absurd (omega (arith, upto));
}

pub own_offset-at-requires : goal.own_offset-at-requires
own_offset-at-requires c =
    let s = c.loop-rank.self-inside in
    let own = c.loop-rank.invariant.own in
    let within = own.within in
    record { within = c.loop-rank-test.true; ranks = own.ranks; small = omega (arith, within, length-map s.entries.items ticket_of, s.entries.ok) }

pub abandon_one-requires : goal.abandon_one-requires
abandon_one-requires c =
    let h = c.loop-rank.invariant in
    record { within = own_within c.loop-rank.self-inside.entries.items c.loop-rank.rank c.own_offset-at.result h.own c.loop-rank-test.true c.own_offset-at.ensures; counted = h.kept.counted }

pub loop-rank-preserved : goal.loop-rank-preserved
loop-rank-preserved c =
    let s = c.loop-rank.self-inside in
    let h = c.loop-rank.invariant in
    let t = c.args.ticket in
    let es = s.entries.items in
    let first = s.by_ticket.first in
    let ps = s.by_ticket.pairs.items in
    let own = c.own-own.result in
    let at = c.own_offset-at.result in
    let items = c.abandon_one.ensures.items in
    record {
      kept = entry_changed at (as_abandoned t) (abandoned_ticket t) items c.abandon_one.ensures.counted c.abandon_one.ensures.header c.abandon_one.ensures.capacity c.index.ensures c.forget_stretch.ensures.others c.forget_stretch.ensures.here h.kept;
      size = h.size;
      header = c.abandon_one.ensures.header ∙ h.header;
      room = h.room;
      own = subst (λ (ts : List ℕ). IsOwn t ts first ps own) (sym (ap tickets_of items ∙ changed_tickets (as_abandoned t) (abandoned_ticket t) at es)) h.own;
      abandoned = ap (all_abandoned t) items ∙ changed_abandoned t at es ∙ h.abandoned;
      fixed = subst (λ (xs : List EntryFields). WerePassed xs first ps own (IsAbandonedAlready t) (c.loop-rank.rank + 1)) (sym items) (abandoned_more t first ps own es c.loop-rank.rank at c.own_offset-at.ensures h.fixed);
    }

pub invariant_of-self : goal.invariant_of-self
invariant_of-self c = c.loop-rank.invariant.kept

pub returns : goal.returns
returns c =
    let s = c.loop-rank.self-inside in
    let h = c.loop-rank.invariant in
    let t = c.args.ticket in
    let es = s.entries.items in
    let all = all_are_abandoned t es (own_passed es s.by_ticket.first s.by_ticket.pairs.items c.own-own.result (IsAbandonedAlready t) t h.own (abandoned_other t)
    (λ k e upto read. h.fixed k e (omega (arith, upto, c.loop-rank-test.false)) read)) in
    rw (← c.self.view_is) (record { items = sym all ∙ h.abandoned; kept = record { size = h.size; header = h.header; capacity = h.room } })
