-- What a sender reports of a message by its ticket, as relations on its plan: that it was acknowledged or abandoned, and what `abandon` answers
-- (RFC 9260, 6.2.1; RFC 3758, 3.5).
use Rattle.std.specs.Prelude.{◌≡◌, ◌↔◌, ℕ, ◌<◌, ◌≤◌, true, false, Some}
use Rattle.sctp_model.specs.messages.Format.{Format, Lane}
use Rattle.sctp_model.specs.messages.Plan.{Message, Part, entry_at, message_at, IsComplete}
use Rattle.sctp_model.specs.sender.SenderView.{SenderView}
use Rattle.sctp_model.specs.sender.Abandoning.{AbandonAnswer, Withdrawn, Abandoned, Acknowledged, Unknown, Reliable, abandon_answer}
use Rattle.sctp_model.specs.sender.Readers.{acknowledged, abandoned}
use Rattle.sctp_model.specs.sender.Reached.{IsReached}

-- a message with this ticket has this number in this lane
pub record HasNumber (v : SenderView) (t : ℕ) : Type 0 where
  pub lane : Lane
  pub number : ℕ
  pub message : Message
  pub named : message_at v.plan lane number ≡ Some message
  pub ticket : message.ticket ≡ t

-- such a message was abandoned
pub record WasAbandoned (v : SenderView) (t : ℕ) : Type 0 where
  pub has : HasNumber v t
  pub given : v.abandoned has.lane has.number ≡ true

-- Such a message was not, and all its fragments have indexes, each of which is covered.
pub record WasAcknowledged (v : SenderView) (t : ℕ) : Type 0 where
  pub has : HasNumber v t
  pub kept : v.abandoned has.lane has.number ≡ false
  pub complete : IsComplete v.plan has.lane has.number has.message
  pub covered : (i k : ℕ) → entry_at v.plan i ≡ Some (Part has.lane has.number k) → v.covered i ≡ true

-- What `abandon` answers for a ticket. One that was given, and whose message has no number, is withdrawn; without a number there is no other message.
-- With one it was abandoned before, or it was acknowledged; or else it is abandoned now, if that is allowed.
pub data IsAnswered (v : SenderView) (t : ℕ) : AbandonAnswer → Type 0 where
  Has_none : (HasNumber v t → ⊥) → 0 < t → t ≤ v.tickets → IsAnswered v t Withdrawn
  Was_not_given : (HasNumber v t → ⊥) → ((0 < t) × (t ≤ v.tickets) → ⊥) → IsAnswered v t Unknown
  Was_abandoned : WasAbandoned v t → IsAnswered v t Abandoned
  Was_acknowledged : WasAcknowledged v t → IsAnswered v t Acknowledged
  Is_abandoned : HasNumber v t → (WasAbandoned v t → ⊥) → (WasAcknowledged v t → ⊥) → v.partial ≡ true → IsAnswered v t Abandoned
  Must_be_kept : HasNumber v t → (WasAbandoned v t → ⊥) → (WasAcknowledged v t → ⊥) → v.partial ≡ false → IsAnswered v t Reliable

-- ---- of every view that calls reach

-- acknowledged is reported exactly if it was
abbrev pub AcknowledgedIsTold : Type 0
AcknowledgedIsTold = (f : Format) (v : SenderView) (t : ℕ) → IsReached f v → (acknowledged v t ≡ true) ↔ WasAcknowledged v t

-- and abandoned exactly if it was
abbrev pub AbandonedIsTold : Type 0
AbandonedIsTold = (f : Format) (v : SenderView) (t : ℕ) → IsReached f v → (abandoned v t ≡ true) ↔ WasAbandoned v t

-- and each ticket is answered so
abbrev pub AnswerIsTold : Type 0
AnswerIsTold = (f : Format) (v : SenderView) (t : ℕ) → IsReached f v → IsAnswered v t (abandon_answer v t)
