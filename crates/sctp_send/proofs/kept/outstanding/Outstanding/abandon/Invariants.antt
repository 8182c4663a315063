use Rattle.std.proofs.Common.{◌≡◌}
use Rattle.std.specs.VecDeque.{deque_capacity}
use Rattle.sctp_send.specs.inner.Changes.{all_abandoned}
use Rattle.sctp_send.specs.inner.TicketHeads.{IsOwn}
use Rattle.sctp_send.specs.inner.TicketOrder.{IsInOrder, tickets_of}
use Rattle.sctp_send.proofs.kept.TicketWalks.{WerePassed, IsAbandonedAlready}
use Rattle.sctp_send.proofs.kept.outstanding.Outstanding.abandon.Given as goal

abbrev pub invariant-loop-rank : goal.invariant-loop-rank
invariant-loop-rank l =
    let s = l.self-inside in
    let t = l.initial.self-inside in
    record {
      kept : IsInOrder s.size s.entries.items (deque_capacity s.entries) s.counts s.by_ticket s.room s.stretches.items;
      size : s.size ≡ t.size;
      header : s.counts.header ≡ t.counts.header;
      room : s.room ≡ t.room;
      own : IsOwn l.ticket (tickets_of s.entries.items) s.by_ticket.first s.by_ticket.pairs.items l.own;
      abandoned : all_abandoned l.ticket s.entries.items ≡ all_abandoned l.ticket t.entries.items;
      fixed : WerePassed s.entries.items s.by_ticket.first s.by_ticket.pairs.items l.own (IsAbandonedAlready l.ticket) l.rank;
    }
