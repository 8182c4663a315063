-- What is known of stretches: of 64 entries in a row, the first of which has an index that 64 divides.
use Rattle.std.specs.Prelude.{◌≡◌, ℕ, zero, suc, ◌+◌, ◌-◌, ◌/◌, ◌%◌, ◌^◌, ◌≤◌, Bool, true, false, if◌then◌else◌, List, [], ◌∷◌, length, slice_get, Some}
use Rattle.sctp_model.specs.end.Control.{whole}
use Rattle.sctp_send.specs.OutstandingFields.{item_meaning}
use Rattle.sctp_send.specs.inner.Wishing.{item_bytes}
use Rattle.sctp_send.specs.inner.Changes.{unmarked, told}
use Rattle.sctp_send.specs.declared.kept.counts.Counts.{Counts}
use Rattle.sctp_send.specs.declared.kept.entry.Entry.{Entry as EntryFields}
use Rattle.sctp_send.specs.declared.kept.entry.Standing.TheVariants.{Sent}
use Rattle.sctp_send.specs.declared.kept.stretches.Stretch.{Stretch}

-- The entry went out and isn't marked for retransmission, is acknowledged by the last SACK or not, as said, and isn't abandoned.
pub record IsPlain (covered : Bool) (e : EntryFields) : Type 0 where
  pub out : e.standing ≡ Sent
  pub covers : e.covered ≡ covered
  pub kept : e.abandoned ≡ false

-- how many bytes of data an entry has
abbrev pub entry_bytes : (size : ℕ) → EntryFields → ℕ
entry_bytes size e = length (item_bytes (item_meaning size e))

-- The entry is quiet: a SACK changes nothing of it but whether it is acknowledged, since it isn't marked for retransmission, and went out unless it is abandoned.
pub record IsQuiet (covered : Bool) (e : EntryFields) : Type 0 where
  pub out : e.abandoned ≡ false → e.standing ≡ Sent
  pub mark : unmarked e.standing ≡ e.standing
  pub covers : e.covered ≡ covered

-- the bytes of data of an entry, 0 if it is abandoned
abbrev pub plain_bytes : (size : ℕ) → EntryFields → ℕ
plain_bytes size e = if e.abandoned then 0 else entry_bytes size e

-- 1 for an entry that isn't abandoned
abbrev pub plain_one : EntryFields → ℕ
plain_one e = if e.abandoned then 0 else 1

-- the bytes of its chunk
abbrev pub plain_chunk : (header size : ℕ) → EntryFields → ℕ
plain_chunk header size e = whole header (plain_bytes size e)

-- There are n entries from an offset on, all of them quiet and acknowledged or all of them quiet and not; those that aren't abandoned have so many bytes, their
-- chunks have so many, and they are so many.
abbrev pub AreAlike : (header size : ℕ) → (covered : Bool) → (bytes chunks plain at many : ℕ) → List EntryFields → Type 0
AreAlike header size c n q p (suc at) k [] = ⊥
AreAlike header size c n q p (suc at) k (e ∷ es) = AreAlike header size c n q p at k es
AreAlike header size c n q p zero zero es = (n ≡ 0) × (q ≡ 0) × (p ≡ 0)
AreAlike header size c n q p zero (suc k) [] = ⊥
AreAlike header size c n q p zero (suc k) (e ∷ es) =
    IsQuiet c e × (plain_bytes size e ≤ n) × (plain_chunk header size e ≤ q) × (plain_one e ≤ p)
    × AreAlike header size c (n - plain_bytes size e) (q - plain_chunk header size e) (p - plain_one e) zero k es

-- so many entries from an offset on are changed
abbrev pub run_changed : (EntryFields → EntryFields) → (at many : ℕ) → List EntryFields → List EntryFields
run_changed g (suc at) k [] = []
run_changed g (suc at) k (e ∷ es) = e ∷ run_changed g at k es
run_changed g zero zero es = es
run_changed g zero (suc k) [] = []
run_changed g zero (suc k) (e ∷ es) = g e ∷ run_changed g zero k es

-- told covered, or not
abbrev pub told_run : Bool → (at many : ℕ) → List EntryFields → List EntryFields
told_run c at k es = run_changed (told c) at k es

-- it is noted that an entry is covered, or not
abbrev pub noted : Bool → EntryFields → EntryFields
noted c e = record e { covered = c }

-- noted as covered, or not
abbrev pub covered_run : Bool → (at many : ℕ) → List EntryFields → List EntryFields
covered_run c at k es = run_changed (noted c) at k es

-- the counts once a stretch, of whose entries so many aren't abandoned and have so many bytes, and so many with their chunks, is acknowledged, or not
abbrev pub turned_counts : (bytes chunks plain : ℕ) → Bool → Counts → Counts
turned_counts n q p true c = record c {
  flight = (c.flight + (2 ^ 64 - n)) % 2 ^ 64;
  chunks = (c.chunks + (2 ^ 64 - q)) % 2 ^ 64;
  unsettled = (c.unsettled + (2 ^ 64 - p)) % 2 ^ 64;
}
turned_counts n q p false c = record c { flight = (c.flight + n) % 2 ^ 64; chunks = (c.chunks + q) % 2 ^ 64; unsettled = (c.unsettled + p) % 2 ^ 64 }

-- the index of an offset, modulo 2^32, where the first entry has this one
abbrev pub index_at : (first offset : ℕ) → ℕ
index_at first n = (first + n) % 2 ^ 32

-- the slot of the stretch with an index: those that lie 512 apart share one
abbrev pub slot_at : (index : ℕ) → ℕ
slot_at i = i / 64 % 512

-- What is known of each whole stretch is so.
abbrev pub AreKnown : (header size first : ℕ) → List Stretch → List EntryFields → Type 0
AreKnown header size first ss es = (n : ℕ) (s : Stretch) → n + 64 ≤ length es → index_at first n % 64 ≡ 0 → slice_get ss (slot_at (index_at first n)) ≡ Some s → s.is_known ≡ true
    → AreAlike header size s.covered s.bytes s.chunks s.plain n 64 es
