use Rattle.std.proofs.Common.{◌≡◌, ℕ, ◌+◌, ◌<◌, false}
use Rattle.std.specs.Prelude.{slice_get, Some}
use Rattle.sctp_send.specs.declared.kept.entry.Entry.{Entry as EntryFields}
use Rattle.sctp_send.specs.inner.TicketHeads.{AreHeads, AreLeft, IsPassed}
use Rattle.sctp_send.specs.inner.TicketOrder.{ticket_of, tickets_of}
use Rattle.sctp_send.specs.inner.Wearing.{SaysSpent}
use Rattle.sctp_send.proofs.kept.outstanding.Outstanding.next_spent.Given as goal

abbrev pub invariant-loop-passed : goal.invariant-loop-passed
invariant-loop-passed l =
    let s = l.self-inside in
    let ps = s.by_ticket.pairs.items in
    record {
      heads : AreHeads (tickets_of s.entries.items) ps l.heads;
      left : AreLeft l.last (tickets_of s.entries.items) ps l.heads;
      at : l.heads.front + l.heads.rank ≡ l._passed;
      passed : (n : ℕ) (e : EntryFields) → slice_get s.entries.items n ≡ Some e → IsPassed s.by_ticket.first ps l.heads n → l.last < ticket_of e → SaysSpent l.partial e false;
    }
