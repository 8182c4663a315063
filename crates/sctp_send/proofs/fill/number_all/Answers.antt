use Rattle.std.proofs.Common.{◌≡◌, ℕ, ◌-◌, ◌<◌, ◌≤◌, List, length, get_or, arith, ◌∙◌}
use Rattle.sctp_values.specs.declared.ticket.Ticket.{Ticket}
use Rattle.sctp_send.specs.inner.Stocking.{numbers_of, AreOpen}
use Rattle.sctp_send.proofs.fill.EnterLemmas.{numbered_more, numbered_end, open_at}
use Rattle.sctp_send.proofs.fill.number_all.Goals as goal

-- where the fate of a ticket that isn't over stands
open_place : (ended : ℕ) (ts : List Ticket) (i at : ℕ) (d : Ticket) → AreOpen ended (numbers_of ts) → i < length ts → at ≡ (get_or ts i d).0 - 1 → ended ≤ at
open_place ended ts i at d are lt is = let behind = open_at ended ts i d are lt in omega (arith, behind, is)

pub loop-ticket-preserved : goal.loop-ticket-preserved
loop-ticket-preserved c = record {
  ended = c.set.ensures.ended ∙ c.loop-ticket.invariant.ended;
  abandoned = c.set.ensures.abandoned ∙ c.loop-ticket.invariant.abandoned;
  done = λ are.
      let behind = open_place c.args.fates.now.ended c.args.tickets.now c.loop-ticket.ticket-index c.saturating_sub-at.result _ are (omega arith) c.saturating_sub-at.ensures in
      let now = c.set.ensures.items (omega (arith, behind, c.loop-ticket.invariant.ended)) in
      numbered_more c.args.tickets.now c.loop-ticket.ticket-index c.saturating_sub-at.result c.loop-ticket.fates.items _ _ _ (omega arith) c.saturating_sub-at.ensures now (c.loop-ticket.invariant.done are);
}

pub returns-clause-items : goal.returns-clause-items
returns-clause-items c = λ are. numbered_end c.args.tickets.now c.loop-ticket.ticket-index c.loop-ticket.fates.items _ (omega arith) (c.loop-ticket.invariant.done are)
