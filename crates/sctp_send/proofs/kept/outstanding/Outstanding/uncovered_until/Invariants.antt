use Rattle.std.proofs.Common.{◌≡◌, ℕ, false}
use Rattle.sctp_send.specs.OutstandingFields.{item_meaning}
use Rattle.sctp_send.specs.inner.Walks.{is_item_uncovered}
use Rattle.sctp_send.proofs.kept.TicketWalks.{WerePassed}
use Rattle.sctp_send.proofs.kept.outstanding.Outstanding.uncovered_until.Given as goal

abbrev pub invariant-loop-at : goal.invariant-loop-at
invariant-loop-at l =
    let s = l.self-inside in
    (size : ℕ) → WerePassed s.entries.items s.by_ticket.first s.by_ticket.pairs.items l.own (λ e. is_item_uncovered l.ticket (item_meaning size e) ≡ false) l.at
