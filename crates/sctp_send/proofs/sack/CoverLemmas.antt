-- What the gap blocks of a SACK acknowledge: set block by block, the entries are those of the definition.
use Rattle.std.proofs.Common.{◌≡◌, ℕ, ◌+◌, ◌-◌, ◌<◌, ◌≤◌, List, [], ◌∷◌, map, Bool, true, false, None, refl, ap, arith}
use Rattle.std.specs.Prelude.{nat_lt, nat_le, not, ◌&&◌}
use Rattle.std.proofs.lemmas.Bool.Decides.{nat_tests}
use Rattle.sctp_model.specs.wire.Chunk.{BlockMeaning}
use Rattle.sctp_model.specs.sender.Words.{when, first_there}
use Rattle.sctp_model.specs.sender.SackTaken as taken
use Rattle.sctp_model.specs.sender.SackTaken.{some_is_bad, some_ends_past}
use Rattle.sctp_send.specs.SenderKept.{Item}
use Rattle.sctp_send.specs.OutstandingFields.{item_meaning}
use Rattle.sctp_send.specs.inner.Changes.{unmarked, told, each_changed, all_told, is_between}
use Rattle.sctp_send.specs.inner.Acknowledging.{block_fault}
use Rattle.sctp_send.specs.declared.kept.entry.Standing.{Standing}
use Rattle.sctp_send.specs.declared.kept.entry.Standing.TheVariants.{Unsent, Sent, Marked}
use Rattle.sctp_send.specs.declared.kept.entry.Entry.{Entry as EntryFields}
use Rattle.sctp_send.proofs.sack.EachLemmas.{each_same, each_mapped}

-- tests that agree from the first index on tell the same
pub told_same : (test other : ℕ → Bool) (es : List EntryFields) (i : ℕ) → ((j : ℕ) → i ≤ j → test j ≡ other j) → all_told test i es ≡ all_told other i es
told_same test other es i same = each_same (λ j. told (test j)) (λ j. told (other j)) i es (λ j e lo hi. ap (λ (b : Bool). told b e) (same j lo))

-- ---- blocks

-- a block that isn't bad begins behind the one before it
pub good_block : (last : ℕ) (b : BlockMeaning) (bs : List BlockMeaning) → some_is_bad last (b ∷ bs) ≡ false → (last < b.start) × (b.start ≤ b.end) × (some_is_bad b.end bs ≡ false)
good_block last b bs good = (grind (arith, nat_tests), grind (arith, nat_tests), grind (arith, nat_tests))

-- one that is inside ends there
pub short_block : (entries : ℕ) (b : BlockMeaning) (bs : List BlockMeaning) → some_ends_past entries 0 (b ∷ bs) ≡ false → (b.end ≤ entries) × (some_ends_past entries 0 bs ≡ false)
short_block entries b bs short = (grind (arith, nat_tests), grind (arith, nat_tests))

-- a block's run is what it covers
pub block_run : (b : BlockMeaning) (i : ℕ) → 0 < i → is_between (b.start - 1) b.end i ≡ (nat_le (0 + b.start) i && nat_le i (0 + b.end))
block_run b i some =
    let from : nat_lt (b.start - 1) i ≡ nat_le (0 + b.start) i = grind (arith, nat_tests) in
    let to : nat_le i b.end ≡ nat_le i (0 + b.end) = grind (arith, nat_tests) in
    rw (from, to) refl

-- blocks without a fault are in order, and inside
pub no_fault : (entries : ℕ) (bs : List BlockMeaning) → block_fault entries bs ≡ None → (some_ends_past entries 0 bs ≡ false) × (some_is_bad 0 bs ≡ false)
no_fault entries bs none = by_past (some_ends_past entries 0 bs) (some_is_bad 0 bs) none
  where
    by_past : (b c : Bool) → first_there (when b taken.Beyond ∷ when c taken.BadBlock ∷ []) ≡ None → (b ≡ false) × (c ≡ false)
    by_past true c is = absurd (cc)
    by_past false true is = absurd (cc)
    by_past false false is = (refl, refl)

-- ---- as clauses see it

-- an item covered or not; a covered one has no mark
abbrev pub item_told : Bool → Item → Item
item_told b x = record x { covered = b; marked = x.marked && not b }

-- items told by their indexes
abbrev pub items_told : (ℕ → Bool) → ℕ → List Item → List Item
items_told test i xs = each_changed (λ k. item_told (test k)) i xs

told_meaning : (size : ℕ) (b : Bool) (e : EntryFields) → item_meaning size (told b e) ≡ item_told b (item_meaning size e)
told_meaning size true e = by_standing e.standing
  where
    by_standing : (s : Standing) → item_meaning size (record e { covered = true; standing = unmarked s }) ≡ item_told true (item_meaning size (record e { standing = s }))
    by_standing Unsent = refl
    by_standing Sent = refl
    by_standing Marked = refl
told_meaning size false e = by_standing e.standing
  where
    by_standing : (s : Standing) → item_meaning size (record e { covered = false; standing = s }) ≡ item_told false (item_meaning size (record e { standing = s }))
    by_standing Unsent = refl
    by_standing Sent = refl
    by_standing Marked = refl

pub all_told_meaning : (size : ℕ) (test : ℕ → Bool) (es : List EntryFields) (i : ℕ) → map (item_meaning size) (all_told test i es) ≡ items_told test i (map (item_meaning size) es)
all_told_meaning size test es i = each_mapped (item_meaning size) (λ k. told (test k)) (λ k. item_told (test k)) i es (λ k e. told_meaning size (test k) e)
