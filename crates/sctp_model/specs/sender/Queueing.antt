-- A message that the user sends: cut into fragments (RFC 9260, 6.9) and queued, or refused for the first reason that there is.
use Rattle.std.specs.Prelude.{ℕ, suc, ◌+◌, ◌*◌, ◌==◌, min, nat_lt, nat_le, not, ◌||◌, Bool, List, [], ◌∷◌, ◌++◌, length, map, take, drop, Option}
use Rattle.std.specs.Int.{div_ceil}
use Rattle.sctp_model.specs.numbers.Limits.{QUEUE_LIMIT, TICKET_LIMIT, TSN_LIMIT}
use Rattle.sctp_model.specs.messages.Format.{Lane}
use Rattle.sctp_model.specs.messages.Plan.{Message}
use Rattle.sctp_model.specs.sender.Outgoing.{is_sending}
use Rattle.sctp_model.specs.sender.SenderView.{Queued, SenderView}
use Rattle.sctp_model.specs.sender.Words.{when, first_there, some_passes, count_up}
use Rattle.sctp_model.specs.sender.Entries.{sum_below, continued, fragments_from}

-- ---- fragments

-- The fragment with this number, counted from 0: the bytes after those of the fragments before it, as many as the size says, or what is left.
abbrev pub fragment_of : (size : ℕ) → (bytes : List ℕ) → (number : ℕ) → List ℕ
fragment_of size bytes k = take size (drop (k * size) bytes)

-- all fragments of a message: as few as hold it
abbrev pub cut : (size : ℕ) → (bytes : List ℕ) → List (List ℕ)
cut size bytes = map (fragment_of size bytes) (count_up 0 (div_ceil (length bytes) size))

-- ---- TSNs that are promised

-- A message with this many fragments without a TSN may take one TSN for each and, given up half-way, one for its end mark.
abbrev pub owed_for : ℕ → ℕ
owed_for fragments = fragments + min 1 fragments

-- what the messages that wait may take
abbrev pub owed_by_queue : List Queued → ℕ
owed_by_queue [] = 0
owed_by_queue (q ∷ qs) = owed_for (length q.message.fragments) + owed_by_queue qs

-- what the messages in part may take
abbrev pub owed_by_parts : SenderView → ℕ
owed_by_parts v = sum_below (λ s. owed_for (fragments_from v.plan (continued v.plan s))) v.streams

-- the TSNs that are assigned, and those that the accepted messages may still take
abbrev pub promised : SenderView → ℕ
promised v = length v.plan.entries + (owed_by_queue v.queue + owed_by_parts v)

-- ---- accepted or refused

-- why a message is refused
pub data Refusal : Type 0 where
  -- the stream isn't below the number of streams; the message has no byte; or more than a message may have
  NoSuchStream Empty TooLong : Refusal
  -- the stream is being reset, or the peer refused to
  Resetting : Refusal
  -- no further message may wait, or no more of its bytes; tickets or TSNs would run out
  QueueFull Spent : Refusal

-- the bytes of these fragments
abbrev pub size_of_fragments : List (List ℕ) → ℕ
size_of_fragments [] = 0
size_of_fragments (x ∷ xs) = length x + size_of_fragments xs

-- the bytes of the messages that wait for TSNs
abbrev pub queued_bytes : List Queued → ℕ
queued_bytes [] = 0
queued_bytes (q ∷ qs) = size_of_fragments q.message.fragments + queued_bytes qs

-- with this message more bytes would wait than may
abbrev pub is_over : SenderView → (bytes : List ℕ) → Bool
is_over v bytes = some_passes (λ most. nat_lt most (queued_bytes v.queue + length bytes)) v.limits.queue

-- The first of these reasons that holds.
abbrev pub refusal : SenderView → (stream : ℕ) → (bytes : List ℕ) → Option Refusal
refusal v stream bytes = first_there (
    when (nat_le v.streams stream) NoSuchStream
    ∷ when (not (is_sending (v.resets.sending stream))) Resetting
    ∷ when (length bytes == 0) Empty
    ∷ when (nat_lt v.limits.message (length bytes)) TooLong
    ∷ when (nat_le QUEUE_LIMIT (length v.queue) || is_over v bytes) QueueFull
    ∷ when (nat_le TICKET_LIMIT v.tickets || nat_lt TSN_LIMIT (promised v + owed_for (length (cut v.fragment bytes)))) Spent
    ∷ [])

-- the message of the next ticket: tickets are 1, 2, 3, ..
abbrev pub new_message : SenderView → (payload : ℕ) → (bytes : List ℕ) → (until limit : Option ℕ) → Message
new_message v payload bytes until limit =
    record { ticket = suc v.tickets; payload = payload; fragments = cut v.fragment bytes; until = until; limit = limit }

-- The view in which it waits after all others.
abbrev pub queued : SenderView → Lane → (payload : ℕ) → (bytes : List ℕ) → (until limit : Option ℕ) → SenderView
queued v lane payload bytes until limit = record v {
  queue = v.queue ++ record { lane = lane; message = new_message v payload bytes until limit } ∷ [];
  tickets = suc v.tickets;
}
