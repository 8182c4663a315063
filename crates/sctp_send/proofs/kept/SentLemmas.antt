-- What is counted of the entries above CUM, as one goes out for the first time.
use Rattle.std.proofs.Common.{◌≡◌, ℕ, suc, ◌+◌, ◌<◌, List, length, map, take, get_or, set, Bool, true, false, None, refl, sym, ap, ◌∙◌, subst, arith}
use Rattle.std.specs.Prelude.{not, ◌&&◌, ◌==◌, if◌then◌else◌}
use Rattle.std.proofs.lemmas.Bool.Decides.{nat_tests}
use Rattle.std.proofs.lemmas.List.{length-map, length-set, map-set, get_or-set_same, get_or_default}
use Rattle.sctp_model.specs.end.Control.{whole}
use Rattle.sctp_send.specs.OutstandingFields.{was_sent, item_meaning}
use Rattle.sctp_send.specs.inner.Wishing.{first_offset, is_item_unsent, item_weight, item_chunk}
use Rattle.sctp_send.specs.inner.Walks.{abandoned_items}
use Rattle.sctp_send.specs.inner.Counting.{entered, furthest, IsCounted}
use Rattle.sctp_send.specs.inner.Newcomers.{repeats_after}
use Rattle.sctp_send.specs.inner.Stocking.{went_out}
use Rattle.sctp_send.specs.inner.Stretching.{IsPlain}
use Rattle.sctp_send.specs.declared.kept.counts.Counts.{Counts}
use Rattle.sctp_send.specs.declared.kept.entry.Standing.{Standing}
use Rattle.sctp_send.specs.declared.kept.entry.Standing.TheVariants.{Unsent, Sent, Marked}
use Rattle.sctp_send.specs.declared.kept.entry.Entry.{Entry as EntryFields}
use Rattle.sctp_send.proofs.kept.ItemLemmas.{item_read}
use Rattle.sctp_send.proofs.kept.WeightLemmas.{unsettled_one}
use Rattle.sctp_send.proofs.kept.CursorLemmas.{reach_within, none_more}
use Rattle.sctp_send.proofs.kept.FrontLemmas.{front_stays}
use Rattle.sctp_send.proofs.kept.CountLemmas.{counts_set}

-- an entry that is read twice
pub read_twice : (es : List EntryFields) (n : ℕ) (e f : EntryFields) → n < length es → e ≡ get_or es n e → f ≡ get_or es n f → e ≡ f
read_twice es n e f lt one two = one ∙ get_or_default es n e f lt ∙ sym two

-- An entry never went out, and the peer may need it.
pub record IsFirst (e : EntryFields) : Type 0 where
  pub out : e.standing ≡ Unsent
  pub covers : e.covered ≡ false
  pub kept : e.abandoned ≡ false

-- as its item says
pub is_first : (size : ℕ) (e : EntryFields) → is_item_unsent (item_meaning size e) ≡ true → IsFirst e
is_first size e on = by_cases e.standing refl e.covered refl e.abandoned refl on
  where
    by_cases : (s : Standing) → e.standing ≡ s → (a : Bool) → e.covered ≡ a → (b : Bool) → e.abandoned ≡ b → (not (was_sent s) && (not a && not b)) ≡ true → IsFirst e
    by_cases Unsent out false covers false kept is = record { out = out; covers = covers; kept = kept }
    by_cases Unsent out false covers true kept is = absurd (cc)
    by_cases Unsent out true covers b kept is = absurd (cc)
    by_cases Sent out a covers b kept is = absurd (cc)
    by_cases Marked out a covers b kept is = absurd (cc)

-- what becomes of it
pub first_out : (e : EntryFields) → IsFirst e → went_out e ≡ record e { standing = Sent }
first_out e h = ap (λ (n : ℕ). record e { standing = Sent; repeats = n }) (ap (λ (s : Standing). repeats_after (was_sent s) e.repeats) h.out)

pub first_plain : (e : EntryFields) → IsFirst e → IsPlain false (record e { standing = Sent })
first_plain e h = record { out = refl; covers = h.covers; kept = h.kept }

weightless : (size : ℕ) (e : EntryFields) → IsFirst e → item_weight (item_meaning size e) ≡ 0
weightless size e h = rw h.out refl

chunkless : (header size : ℕ) (e : EntryFields) → IsFirst e → item_chunk header (item_meaning size e) ≡ 0
chunkless header size e h = ap (whole header) (weightless size e h)

uncounted : (size : ℕ) (e : EntryFields) → IsFirst e → unsettled_one (item_meaning size e) ≡ 0
uncounted size e h = rw h.out refl

-- it enters the counts, and the search for further ones goes on behind it
pub counts_sent : (size : ℕ) (es : List EntryFields) (at : ℕ) (e : EntryFields) (c : Counts) → at < length es → e ≡ get_or es at e → IsFirst e → IsCounted size es c
    → IsCounted size (set es at (record e { standing = Sent })) (record (entered (item_meaning size (record e { standing = Sent })) c) { unsent = furthest at false c.unsent })
counts_sent size es at e c lt read is h =
    let new : EntryFields = record e { standing = Sent } in
    let x = item_meaning size e in
    let y = item_meaning size new in
    let items = map (item_meaning size) es in
    let now = set es at new in
    let more : map (item_meaning size) now ≡ set items at y = map-set (item_meaning size) es at new in
    let long = length-set es at new in
    let within : at < length items = omega (arith, length-map es (item_meaning size)) in
    let there : x ≡ get_or items at x = sym (item_read size es at e read) in
    let front : c.front ≡ abandoned_items (map (item_meaning size) now) = rw more (h.front ∙ sym (front_stays items at x y within there refl)) in
    let all = counts_set size es at e new c c.front lt read h front in
    let low : at < length now = omega (arith, long, lt) in
    let here : new ≡ get_or now at new = sym (get_or-set_same es at new new lt) in
    record {
      some = h.some;
      small = h.small;
      low = h.low;
      marked = all.marked;
      marked_within = all.marked_within;
      unsent = further now new low here refl c.unsent all.unsent;
      unsent_within = let le = h.unsent_within in reach_within false c.unsent at (length now) (omega (arith, le, long)) (omega (arith, low));
      flight = let sum = all.flight in omega (arith, sum, weightless size e is);
      chunks = let sum = all.chunks in omega (arith, sum, chunkless c.header size e is);
      unsettled = let sum = all.unsettled in omega (arith, sum, uncounted size e is);
      front = front;
    }
  where
    further : (fs : List EntryFields) (f : EntryFields) → at < length fs → f ≡ get_or fs at f → is_item_unsent (item_meaning size f) ≡ false → (k : ℕ)
        → first_offset is_item_unsent (take k (map (item_meaning size) fs)) ≡ None → first_offset is_item_unsent (take (furthest at false k) (map (item_meaning size) fs)) ≡ None
    further fs f low here off k none = by_near (k == at) refl
      where
        by_near : (b : Bool) → (k == at) ≡ b → first_offset is_item_unsent (take (if b && true then suc at else k) (map (item_meaning size) fs)) ≡ None
        by_near false far = none
        by_near true near =
            let same : k ≡ at = grind (arith, nat_tests) in
            let next : suc at ≡ at + 1 = omega arith in
            rw next (none_more is_item_unsent size fs at f low here off (subst (λ (n : ℕ). first_offset is_item_unsent (take n (map (item_meaning size) fs)) ≡ None) same none))
