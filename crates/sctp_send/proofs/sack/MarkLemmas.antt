-- Entries marked for retransmission one by one, and the items that they are.
use Rattle.std.proofs.Common.{◌≡◌, ℕ, zero, suc, ◌+◌, ◌<◌, ◌≤◌, List, [], ◌∷◌, length, map, Bool, true, false, refl, sym, ap, ◌∙◌, arith}
use Rattle.std.specs.Prelude.{not, ◌&&◌, ◌||◌, min, nat_le, nat_lt, if◌then◌else◌}
use Rattle.std.proofs.lemmas.Bool.Decides.{nat_tests}
use Rattle.sctp_model.specs.sender.Words.{some_passes}
use Rattle.sctp_model.specs.sender.Abandoning.{is_used_up}
use Rattle.sctp_send.specs.PartsKept.{changed_at}
use Rattle.sctp_send.specs.SenderKept.{Item}
use Rattle.sctp_send.specs.OutstandingFields.{was_sent, is_marked, item_meaning}
use Rattle.sctp_send.specs.inner.Changes.{stood, each_changed}
use Rattle.sctp_send.specs.inner.Marking.{IsCappedAt, AreCapped, is_spent, is_just_sent, is_to_mark, timed, timed_if, timed_at, all_timed}
use Rattle.sctp_send.specs.declared.kept.entry.Standing.{Standing}
use Rattle.sctp_send.specs.declared.kept.entry.Standing.TheVariants.{Unsent, Sent, Marked}
use Rattle.sctp_send.specs.declared.kept.entry.Entry.{Entry as EntryFields}
use Rattle.sctp_send.proofs.sack.EachLemmas.{each_same, each_none, each_step, each_mapped}

-- ---- each by its offset

-- what says how often it was retransmitted says so still
pub capped_there : (g : ℕ → EntryFields → EntryFields) (rs : ℕ → ℕ) (at i : ℕ) (es : List EntryFields) → ((k : ℕ) (e : EntryFields) → (g k e).repeats ≡ e.repeats) → at < length es → AreCapped rs i es → IsCappedAt (rs (i + at)) at (each_changed g i es)
capped_there g rs at i [] same lt capped = absurd (omega arith)
capped_there g rs zero i (e ∷ es) same lt capped = λ x read. let zeroed : i + 0 ≡ i = omega arith in rw (zeroed, read) (same i e ∙ capped.0)
capped_there g rs (suc at) i (e ∷ es) same lt capped = λ x read. let next : suc i + at ≡ i + suc at = omega arith in rw (← next) (capped_there g rs at (suc i) es same (omega arith) capped.1 x read)

-- ---- one entry

pub marked_then : (p : Bool) (r : ℕ) (x : EntryFields) → is_to_mark p r x ≡ true → stood (record { standing = Marked; covered = x.covered; abandoned = x.abandoned; repeats = x.repeats }) x ≡ timed p r x
marked_then p r x on = ap (λ (b : Bool). record x { standing = if b then Marked else x.standing }) (sym on)

pub marked_not : (p : Bool) (r : ℕ) (x : EntryFields) → is_to_mark p r x ≡ false → timed p r x ≡ x
marked_not p r x off = ap (λ (b : Bool). record x { standing = if b then Marked else x.standing }) off

-- whether it passes or not
pub not_marked : (b p : Bool) (r : ℕ) (x : EntryFields) → is_to_mark p r x ≡ false → timed_if b p r x ≡ x
not_marked true p r x off = marked_not p r x off
not_marked false p r x off = refl

-- ---- the entries at some offsets

timed_repeats : (p : Bool) (rs : ℕ → ℕ) (t : ℕ → Bool) (k : ℕ) (e : EntryFields) → (timed_at p rs t k e).repeats ≡ e.repeats
timed_repeats p rs t k e = by_test (t k)
  where
    by_test : (b : Bool) → (timed_if b p (rs k) e).repeats ≡ e.repeats
    by_test true = refl
    by_test false = refl

-- of an entry that wasn't looked at yet
pub capped_next : (p : Bool) (rs : ℕ → ℕ) (t : ℕ → Bool) (at : ℕ) (first now : List EntryFields) → AreCapped rs 0 first → now ≡ all_timed p rs t first → at < length first → IsCappedAt (rs at) at now
capped_next p rs t at first now capped is lt = let zeroed : 0 + at ≡ at = omega arith in rw is (rw zeroed at (capped_there (timed_at p rs t) rs at 0 first (timed_repeats p rs t) lt capped))

-- the offsets of a range that pass
abbrev pub in_range : (s : ℕ → Bool) → (from to : ℕ) → ℕ → Bool
in_range s from to k = (nat_le from k && nat_lt k to) && s k

pub timed_none : (p : Bool) (rs : ℕ → ℕ) (s : ℕ → Bool) (from : ℕ) (es : List EntryFields) → es ≡ all_timed p rs (in_range s from from) es
timed_none p rs s from es = each_none (timed_at p rs (in_range s from from)) 0 es none
  where
    none : (k : ℕ) (e : EntryFields) → 0 ≤ k → timed_at p rs (in_range s from from) k e ≡ e
    none k e le = let off : (nat_le from k && nat_lt k from) ≡ false = grind (arith, nat_tests) in rw off refl

pub timed_more : (p : Bool) (rs : ℕ → ℕ) (s : ℕ → Bool) (from at : ℕ) (first now next : List EntryFields) → from ≤ at → now ≡ all_timed p rs (in_range s from at) first
    → next ≡ changed_at (timed_if (s at) p (rs at)) at now → next ≡ all_timed p rs (in_range s from (at + 1)) first
timed_more p rs s from at first now next order is went =
    went ∙ ap (changed_at (timed_if (s at) p (rs at)) at) is
    ∙ each_step (timed_at p rs (in_range s from at)) (timed_at p rs (in_range s from (at + 1))) (timed_if (s at) p (rs at)) at 0 first other here
  where
    other : (k : ℕ) (e : EntryFields) → (k ≡ 0 + at → ⊥) → timed_at p rs (in_range s from at) k e ≡ timed_at p rs (in_range s from (at + 1)) k e
    other k e apart = let same : nat_lt k at ≡ nat_lt k (at + 1) = grind (arith, nat_tests) in rw same refl

    here : (e : EntryFields) → timed_if (s at) p (rs at) (timed_at p rs (in_range s from at) (0 + at) e) ≡ timed_at p rs (in_range s from (at + 1)) (0 + at) e
    here e =
        let zeroed : 0 + at ≡ at = omega arith in
        let off : (nat_le from at && nat_lt at at) ≡ false = grind (arith, nat_tests) in
        let on : (nat_le from at && nat_lt at (at + 1)) ≡ true = grind (arith, nat_tests) in
        rw (zeroed, off, on) refl

-- no entry stands behind the last
pub timed_within : (p : Bool) (rs : ℕ → ℕ) (s : ℕ → Bool) (from to last first : ℕ) (es : List EntryFields) → last ≡ min to (length es) → first ≡ min from last
    → all_timed p rs (in_range s first last) es ≡ all_timed p rs (in_range s from to) es
timed_within p rs s from to last first es ends begins = each_same (timed_at p rs (in_range s first last)) (timed_at p rs (in_range s from to)) 0 es same
  where
    same : (k : ℕ) (e : EntryFields) → 0 ≤ k → k < 0 + length es → timed_at p rs (in_range s first last) k e ≡ timed_at p rs (in_range s from to) k e
    same k e lo hi = let ranges : (nat_le first k && nat_lt k last) ≡ (nat_le from k && nat_lt k to) = grind (arith, nat_tests) in rw ranges refl

-- ---- as items

-- an item marked where it is unsettled, and may be retransmitted
abbrev pub timed_item : (partial : Bool) → (repeats : ℕ) → Item → Item
timed_item p r x = record x { marked = x.marked || ((x.sent && (not x.covered && not x.abandoned)) && not (p && some_passes (is_used_up r) x.message)) }

-- those that pass, by their offsets, the first of which is i
abbrev pub timed_items : (partial : Bool) → (ℕ → ℕ) → (ℕ → Bool) → ℕ → List Item → List Item
timed_items p rs test i xs = each_changed (λ k x. if test k then timed_item p (rs k) x else x) i xs

item-timed : (size : ℕ) (p : Bool) (r : ℕ) (e : EntryFields) → item_meaning size (timed p r e) ≡ timed_item p r (item_meaning size e)
item-timed size p r e = by_standing e.standing
  where
    w : Bool
    w = is_spent p r e

    by_mark : (b : Bool) → record (item_meaning size (record e { standing = Sent })) { marked = b } ≡ item_meaning size (record e { standing = if b then Marked else Sent })
    by_mark true = refl
    by_mark false = refl

    by_standing : (s : Standing) → item_meaning size (record e { standing = if is_just_sent s && (not e.covered && (not e.abandoned && not w)) then Marked else s })
        ≡ record (item_meaning size (record e { standing = s })) { marked = is_marked s || ((was_sent s && (not e.covered && not e.abandoned)) && not w) }
    by_standing Unsent = refl
    by_standing Sent =
        let grouped : (not e.covered && (not e.abandoned && not w)) ≡ ((not e.covered && not e.abandoned) && not w) = grind (arith, nat_tests) in
        rw grouped (sym (by_mark ((not e.covered && not e.abandoned) && not w)))
    by_standing Marked = refl

pub items-timed : (size : ℕ) (p : Bool) (rs : ℕ → ℕ) (t : ℕ → Bool) (i : ℕ) (es : List EntryFields)
    → map (item_meaning size) (each_changed (timed_at p rs t) i es) ≡ timed_items p rs t i (map (item_meaning size) es)
items-timed size p rs t i es =
    each_mapped (item_meaning size) (timed_at p rs t) (λ k x. if t k then timed_item p (rs k) x else x) i es (λ k e. one k e (t k))
  where
    one : (k : ℕ) (e : EntryFields) (b : Bool) → item_meaning size (timed_if b p (rs k) e) ≡ (if b then timed_item p (rs k) (item_meaning size e) else item_meaning size e)
    one k e true = item-timed size p (rs k) e
    one k e false = refl
