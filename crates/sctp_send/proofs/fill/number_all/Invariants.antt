use Rattle.std.proofs.Common.{◌≡◌, drop}
use Rattle.sctp_send.specs.inner.Stocking.{numbers_of, all_numbered, AreOpen}
use Rattle.sctp_send.proofs.fill.number_all.Given as goal

abbrev pub invariant-loop-ticket : goal.invariant-loop-ticket
invariant-loop-ticket l = record {
  ended : l.fates.ended ≡ l.initial.fates.ended;
  abandoned : l.fates.abandoned ≡ l.initial.fates.abandoned;
  done : AreOpen l.initial.fates.ended (numbers_of l.tickets) → all_numbered l.initial.fates.items (numbers_of l.tickets) ≡ all_numbered l.fates.items (drop l.ticket-index (numbers_of l.tickets));
}
