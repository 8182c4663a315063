-- How much waits at a sender: the bytes of the messages that have no number yet.
use Rattle.std.specs.Prelude.{ℕ, ◌+◌, ◌==◌, Bool, ◌&&◌, List, [], ◌∷◌, length, filter}
use Rattle.std.specs.List.{list_any}
use Rattle.sctp_model.specs.numbers.Lists.{joined}
use Rattle.sctp_model.specs.sender.SenderView.{Queued, SenderView}
use Rattle.sctp_model.specs.sender.Assigning.{is_on}

-- the bytes of all these messages
abbrev pub waiting_bytes : List Queued → ℕ
waiting_bytes [] = 0
waiting_bytes (q ∷ qs) = length (joined q.message.fragments) + waiting_bytes qs

-- the bytes of the messages that have no number
abbrev pub queued_bytes : SenderView → ℕ
queued_bytes v = waiting_bytes v.queue

-- the message is on this stream, ordered or not, and one of these is its payload protocol identifier
abbrev pub is_on_with : (stream : ℕ) (payload_ids : List ℕ) → Queued → Bool
is_on_with s ids q = is_on s q && list_any (λ (id : ℕ). id == q.message.payload) ids

-- the bytes of the messages on a stream with one of these payload protocol identifiers that have no number
abbrev pub queued_bytes_on : (stream : ℕ) (payload_ids : List ℕ) → SenderView → ℕ
queued_bytes_on s ids v = waiting_bytes (filter (is_on_with s ids) v.queue)
