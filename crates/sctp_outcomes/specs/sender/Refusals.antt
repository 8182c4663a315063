-- A message that the user sends, refused or accepted, as a relation: of six reasons each counts if none before it holds.
use Rattle.std.specs.Prelude.{◌≡◌, ◌↔◌, ℕ, suc, ◌+◌, ◌<◌, ◌≤◌, List, [], length, Some, None, true, false}
use Rattle.sctp_model.specs.numbers.Limits.{QUEUE_LIMIT, TICKET_LIMIT, TSN_LIMIT}
use Rattle.sctp_model.specs.sender.SenderView.{SenderView}
use Rattle.sctp_model.specs.sender.Queueing.{Refusal, NoSuchStream, Empty, TooLong, QueueFull, Spent, refusal, promised, Resetting, queued_bytes}
use Rattle.sctp_outcomes.specs.sender.Cuts.{IsCut}
use Rattle.sctp_model.specs.sender.Outgoing.{is_sending}

-- ---- what is looked at, in turn

-- there is such a stream, it takes messages, and the message has a byte, and no more bytes than it may have
pub record IsSendable (v : SenderView) (stream : ℕ) (bytes : List ℕ) : Type 0 where
  pub there : stream < v.streams
  pub sends : is_sending (v.resets.sending stream) ≡ true
  pub some : 0 < length bytes
  pub short : length bytes ≤ v.limits.message

-- and one message more may wait, and as many bytes more
pub record MayWait (v : SenderView) (stream : ℕ) (bytes : List ℕ) : Type 0 where
  pub sendable : IsSendable v stream bytes
  pub place : length v.queue < QUEUE_LIMIT
  pub space : (most : ℕ) → v.limits.queue ≡ Some most → queued_bytes v.queue + length bytes ≤ most

-- The bytes of the messages that wait are limited, and with this one they would be more.
pub record IsOver (v : SenderView) (bytes : List ℕ) : Type 0 where
  pub most : ℕ
  pub limited : v.limits.queue ≡ Some most
  pub more : most < queued_bytes v.queue + length bytes

-- Its TSNs are too many: those that are promised, one for each of its fragments, and one for an end mark.
pub record IsTooMuch (v : SenderView) (bytes : List ℕ) : Type 0 where
  pub fragments : List (List ℕ)
  pub cut : IsCut v.fragment bytes fragments
  pub more : TSN_LIMIT < promised v + suc (length fragments)

-- ---- refused

-- the stream doesn't exist; it is being reset, or the peer refused to; the message is empty; it is too long; too many messages wait, or too many
-- bytes; tickets or TSNs would run out
pub data IsRefused (v : SenderView) (stream : ℕ) (bytes : List ℕ) : Refusal → Type 0 where
  Has_no_stream : v.streams ≤ stream → IsRefused v stream bytes NoSuchStream
  Is_reset : stream < v.streams → is_sending (v.resets.sending stream) ≡ false → IsRefused v stream bytes Resetting
  Has_no_byte : stream < v.streams → is_sending (v.resets.sending stream) ≡ true → bytes ≡ [] → IsRefused v stream bytes Empty
  Has_too_many : stream < v.streams → is_sending (v.resets.sending stream) ≡ true → v.limits.message < length bytes → IsRefused v stream bytes TooLong
  Has_no_place : IsSendable v stream bytes → QUEUE_LIMIT ≤ length v.queue → IsRefused v stream bytes QueueFull
  Has_no_space : IsSendable v stream bytes → IsOver v bytes → IsRefused v stream bytes QueueFull
  Has_no_ticket : MayWait v stream bytes → TICKET_LIMIT ≤ v.tickets → IsRefused v stream bytes Spent
  Has_no_numbers : MayWait v stream bytes → IsTooMuch v bytes → IsRefused v stream bytes Spent

-- ---- accepted

-- nothing of this holds
pub record IsAccepted (v : SenderView) (stream : ℕ) (bytes : List ℕ) : Type 0 where
  pub waits : MayWait v stream bytes
  pub ticket : v.tickets < TICKET_LIMIT
  pub numbers : IsTooMuch v bytes → ⊥

-- ---- laws, if a fragment may have a byte

-- the reason that is reported is the one that there is
abbrev pub RefusalIsTold : Type 0
RefusalIsTold = (v : SenderView) (stream : ℕ) (bytes : List ℕ) (a : Refusal) → 0 < v.fragment → (refusal v stream bytes ≡ Some a) ↔ IsRefused v stream bytes a

-- a message without a reason is accepted, and no other
abbrev pub AcceptedHasNoReason : Type 0
AcceptedHasNoReason = (v : SenderView) (stream : ℕ) (bytes : List ℕ) → 0 < v.fragment → (refusal v stream bytes ≡ None) ↔ IsAccepted v stream bytes
