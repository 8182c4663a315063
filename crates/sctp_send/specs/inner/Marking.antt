-- Entries marked for retransmission (RFC 9260, 6.3.3 and 7.2.4), unless they were retransmitted as often as their messages' limits allow (RFC 7496, 3.1).
use Rattle.std.specs.Prelude.{◌≡◌, ℕ, suc, min, nat_le, Bool, true, false, not, ◌&&◌, if◌then◌else◌, List, [], ◌∷◌, slice_index_or}
use Rattle.sctp_model.specs.sender.Words.{some_passes}
use Rattle.sctp_send.specs.inner.Changes.{each_changed}
use Rattle.sctp_send.specs.declared.kept.entry.Standing.{Standing}
use Rattle.sctp_send.specs.declared.kept.entry.Standing.TheVariants.{Unsent, Sent, Marked}
use Rattle.sctp_send.specs.declared.kept.entry.Entry.{Entry as EntryFields}

-- ---- how often an entry was retransmitted

-- The entry says so of a number: 65535 says that it is so large or larger.
abbrev pub IsCapped : (repeats : ℕ) → EntryFields → Type 0
IsCapped r e = e.repeats ≡ min r 65535

-- the entry at an offset does
abbrev pub IsCappedAt : (repeats at : ℕ) → List EntryFields → Type 0
IsCappedAt r at es = (e : EntryFields) → e ≡ slice_index_or es at e → IsCapped r e

-- each of these entries, which stand from an offset on, does of the number of its offset
abbrev pub AreCapped : (ℕ → ℕ) → ℕ → List EntryFields → Type 0
AreCapped rs i [] = Unit {0}
AreCapped rs i (e ∷ es) = IsCapped (rs i) e × AreCapped rs (suc i) es

-- a fragment that was retransmitted so often may not be again, by the limit of its message, if it has one and messages may be abandoned
abbrev pub is_spent : (partial : Bool) → (repeats : ℕ) → EntryFields → Bool
is_spent p r e = p && some_passes (λ limit. nat_le limit r) e.message.value.limit

-- ---- marks

-- it went out, and isn't to go out again
abbrev pub is_just_sent : Standing → Bool
is_just_sent Unsent = false
is_just_sent Sent = true
is_just_sent Marked = false

-- the entry went out, the peer may still need it, and it may be retransmitted
abbrev pub is_to_mark : (partial : Bool) → (repeats : ℕ) → EntryFields → Bool
is_to_mark p r e = is_just_sent e.standing && (not e.covered && (not e.abandoned && not (is_spent p r e)))

-- then it is marked
abbrev pub timed : (partial : Bool) → (repeats : ℕ) → EntryFields → EntryFields
timed p r e = record e { standing = if is_to_mark p r e then Marked else e.standing }

-- if it passes
abbrev pub timed_if : (passes partial : Bool) → (repeats : ℕ) → EntryFields → EntryFields
timed_if b p r e = if b then timed p r e else e

-- an entry at one of the offsets that pass is marked
abbrev pub timed_at : (partial : Bool) → (ℕ → ℕ) → (ℕ → Bool) → ℕ → EntryFields → EntryFields
timed_at p rs passes i e = timed_if (passes i) p (rs i) e

-- the entries at those offsets are
abbrev pub all_timed : (partial : Bool) → (ℕ → ℕ) → (ℕ → Bool) → List EntryFields → List EntryFields
all_timed p rs passes es = each_changed (timed_at p rs passes) 0 es
