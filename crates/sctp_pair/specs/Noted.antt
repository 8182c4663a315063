-- What a pair notes of a user beside the packets: the tickets that were numbered, those that were abandoned, and the messages taken.
use Rattle.std.specs.Prelude.{◌≡◌, ℕ, Bool, if◌then◌else◌, List, [], map, filter}
use Rattle.std.specs.List.{list_any}
use Rattle.std.specs.declared.vec.Vec.{Vec}
use Rattle.std.specs.declared.alloc.Global.{Global}
use Rattle.sctp_model.specs.numbers.Lists.{joined}
use Rattle.sctp_model.specs.sender.Words.{count_up}
use Rattle.sctp_model.specs.sender.Readers.{abandoned}
use Rattle.sctp_model.specs.end.EndView.{EndView}
use Rattle.sctp_model.specs.end.Clock.{at_moment}
use Rattle.sctp_model.specs.end.Moments.{ticked}
use Rattle.sctp_model.specs.world.World.{Log, newly_abandoned}
use Rattle.sctp_send.specs.SenderAnswers.{is_at_limit}
use Rattle.sctp_association.specs.GivenUp.{is_to_give_up}
use Rattle.sctp_outcomes.specs.Kept.{numbered}
use Rattle.sctp_script.specs.ReportText.{ticket_number}
use Rattle.sctp_values.specs.declared.ticket.Ticket.{Ticket}
use Rattle.sctp_pair.specs.Taken.{AreLogged}
use Rattle.sctp_pair.specs.declared.taken.StreamLog.{StreamLog}

-- the tickets that were given TSNs, packet by packet
abbrev pub tickets_noted : List (Vec Ticket Global) → List ℕ
tickets_noted packets = joined (map (λ tickets. map ticket_number tickets.items) packets)

-- These lists say of an endpoint and of its user's log what the world says.
pub record AreNoted (packets : List (Vec Ticket Global)) (gone : List Ticket) (logs : List StreamLog) (e : EndView) (l : Log) : Type 0 where
  pub numbers : tickets_noted packets ≡ numbered e
  pub order : map ticket_number gone ≡ l.order
  pub taken : AreLogged logs e.receiver.taken

-- ---- what a packet abandons

-- the tickets of the messages at their limit of retransmissions, rising
abbrev pub tickets_at_limit : EndView → List ℕ
tickets_at_limit e = filter (is_at_limit e.sender) (count_up 1 e.sender.tickets)

-- those that a packet may abandon: with fast retransmit these, else none
abbrev pub tickets_to_watch : EndView → List ℕ
tickets_to_watch e = if e.configuration.fast_retransmit then tickets_at_limit e else []

-- ---- what a time abandons

-- the tickets of the messages that a time may abandon, rising: past their lifetime, or at their limit of retransmissions if the data timer is due
abbrev pub tickets_to_give_up : EndView → (now : ℕ) → List ℕ
tickets_to_give_up e now = filter (is_to_give_up (at_moment e now)) (count_up 1 e.sender.tickets)

-- there is one
abbrev pub has_to_give_up : EndView → (now : ℕ) → Bool
has_to_give_up e now = list_any (is_to_give_up (at_moment e now)) (count_up 1 e.sender.tickets)

-- All that the time abandons is among these tickets, in its order, and of these nothing else is abandoned after it.
abbrev pub IsWatched : EndView → (now : ℕ) → List Ticket → Type 0
IsWatched e now tickets =
    newly_abandoned e.sender (ticked e now).sender (ticked e now).sender.tickets ≡ filter (λ k. abandoned (ticked e now).sender k) (map ticket_number tickets)
