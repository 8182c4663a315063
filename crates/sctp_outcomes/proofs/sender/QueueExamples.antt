-- What is refused and in which order, computed: lengths at their limits, a full queue, tickets and TSNs that run out.
use Rattle.std.proofs.Common.{◌≡◌, ℕ, suc, true, List, [], ◌∷◌, ◌++◌, length, Some, None, refl, ap, arith, length-append, Option}
use Rattle.std.specs.Prelude.{◌+◌, ◌==◌, replicate}
use Rattle.std.specs.Option.{option_or}
use Rattle.sctp_model.specs.messages.Format.{ordered_lane}
use Rattle.sctp_model.specs.messages.Plan.{Message, Entry, Part}
use Rattle.sctp_model.specs.sender.SenderView.{Queued, SenderView, fresh_sender}
use Rattle.sctp_model.specs.sender.Words.{when}
use Rattle.sctp_model.specs.sender.Entries.{latest, entry_lane}
use Rattle.sctp_model.specs.sender.Queueing.{refusal, cut, promised, NoSuchStream, Empty, TooLong, QueueFull, Spent}
use Rattle.sctp_model.proofs.sender.CutLaws.{length-cut}
use Rattle.sctp_outcomes.proofs.sender.Makers.{plain_limits}

-- one stream, fragments of 4 bytes
abbrev fresh : SenderView
fresh = fresh_sender 1 1 4 100 true plain_limits

-- ---- lengths

-- a message has a byte at least, and 65,536 at most
none_is_empty : refusal fresh 0 [] ≡ Some Empty
none_is_empty = refl

most_is_taken : (bytes : List ℕ) → length bytes ≡ 65536 → refusal fresh 0 bytes ≡ None
most_is_taken bytes long = rw (length-cut 4 bytes) (rw long refl)

one_more_is_too_long : (bytes : List ℕ) → length bytes ≡ 65537 → refusal fresh 0 bytes ≡ Some TooLong
one_more_is_too_long bytes long = rw long refl

-- in fragments of 4 bytes the longest message takes 16,384 TSNs
many_fragments : (bytes : List ℕ) → length bytes ≡ 65536 → length (cut 4 bytes) ≡ 16384
many_fragments bytes long = rw (length-cut 4 bytes) (rw long refl)

-- ---- the order

-- nothing more may wait, and tickets have run out
abbrev full : List Queued → SenderView
full qs = record fresh { queue = qs; tickets = 18446744073709551615 }

-- each reason counts before those after it
order : (qs : List Queued) (long : List ℕ) → length qs ≡ 1024 → length long ≡ 65537
    → refusal (full qs) 1 [] ∷ refusal (full qs) 1 long ∷ refusal (full qs) 0 [] ∷ refusal (full qs) 0 long ∷ refusal (full qs) 0 (1 ∷ []) ∷ refusal (full []) 0 (1 ∷ []) ∷ []
    ≡ Some NoSuchStream ∷ Some NoSuchStream ∷ Some Empty ∷ Some TooLong ∷ Some QueueFull ∷ Some Spent ∷ []
order qs long many much = rw many (rw much refl)

-- the last ticket is 2 ^ 64 - 1, and the last place in the queue the 1,024th
abbrev waiting : Queued
waiting = record { lane = ordered_lane 0; message = record { ticket = 1; payload = 0; fragments = (1 ∷ []) ∷ []; until = None; limit = None } }

last_ticket : refusal (record fresh { tickets = 18446744073709551614 }) 0 (1 ∷ []) ≡ None
last_ticket = refl

last_place : refusal (record fresh { queue = replicate 1023 waiting }) 0 (1 ∷ []) ≡ None
last_place = refl

-- the bytes that wait may be as many as their limit, if there is one, and no more
abbrev limited : Option ℕ → SenderView
limited most = record fresh { limits = record { message = 65536; queue = most }; queue = replicate 9 waiting }

last_byte : refusal (limited (Some 10)) 0 (1 ∷ []) ∷ refusal (limited (Some 10)) 0 (1 ∷ 2 ∷ []) ∷ refusal (limited None) 0 (1 ∷ 2 ∷ []) ∷ [] ≡ None ∷ Some QueueFull ∷ None ∷ []
last_byte = refl

-- ---- TSNs that run out by fragments still owed

-- a message of three fragments, of which one has an index
abbrev three : Message
three = record { ticket = 1; payload = 0; fragments = (1 ∷ []) ∷ (2 ∷ []) ∷ (3 ∷ []) ∷ []; until = None; limit = None }

abbrev begun : Entry
begun = Part (ordered_lane 0) 0 0

-- and one of two fragments waits
abbrev two_wait : Queued
two_wait = record { lane = ordered_lane 0; message = record { ticket = 2; payload = 0; fragments = (1 ∷ []) ∷ (2 ∷ []) ∷ []; until = None; limit = None } }

-- before it this many indexes were assigned
abbrev busy : List Entry → SenderView
busy es = record fresh { plan = record { messages = λ l. three ∷ []; entries = es ++ begun ∷ [] }; queue = two_wait ∷ [] }

-- the last entry of a stream
latest_last : (es : List Entry) → latest 0 (es ++ begun ∷ []) ≡ Some begun
latest_last [] = refl
latest_last (e ∷ es) = ap (λ o. option_or o (when ((entry_lane e).stream == 0) e)) (latest_last es)

-- of the one two fragments and an end mark are owed, of the other all: 3 and 3 beside what is assigned
owed : (es : List Entry) → promised (busy es) ≡ suc (length es) + 6
owed es = rw (latest_last es) (rw (length-append es (begun ∷ [])) (omega arith))

-- a message of 9 bytes takes three TSNs, and an end mark: with it 2 ^ 63 - 1 may be promised, and no more
fills_up : (es : List Entry) → length es ≡ 9223372036854775796 → refusal (busy es) 0 (1 ∷ 2 ∷ 3 ∷ 4 ∷ 5 ∷ 6 ∷ 7 ∷ 8 ∷ 9 ∷ []) ≡ None
fills_up es many = rw (owed es) (rw many refl)

is_spent : (es : List Entry) → length es ≡ 9223372036854775797 → refusal (busy es) 0 (1 ∷ 2 ∷ 3 ∷ 4 ∷ 5 ∷ 6 ∷ 7 ∷ 8 ∷ 9 ∷ []) ≡ Some Spent
is_spent es many = rw (owed es) (rw many refl)

-- a shorter one may still be promised
shorter_is_taken : (es : List Entry) → length es ≡ 9223372036854775797 → refusal (busy es) 0 (1 ∷ 2 ∷ 3 ∷ 4 ∷ 5 ∷ []) ≡ None
shorter_is_taken es many = rw (owed es) (rw many refl)
