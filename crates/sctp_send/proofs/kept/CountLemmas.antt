-- What is counted of the entries above CUM, as one comes, goes or changes.
use Rattle.std.proofs.Common.{◌≡◌, ℕ, suc, ◌+◌, ◌-◌, ◌%◌, ◌^◌, ◌<◌, ◌≤◌, min, List, [], ◌∷◌, ◌++◌, length, map, take, get_or, set, Bool, true, false, None, refl, sym, ap, ◌∙◌, subst, arith, length-append}
use Rattle.std.specs.Prelude.{not, ◌&&◌, if◌then◌else◌}
use Rattle.std.specs.List.{sum_by}
use Rattle.std.proofs.lemmas.List.{length-map, length-set, map-append, map-set}
use Rattle.std.proofs.lemmas.List.Sums.{sum_by-cons, sum_by_push, sum_by-set}
use Rattle.sctp_model.specs.end.Control.{whole}
use Rattle.sctp_send.specs.SenderKept.{Item}
use Rattle.sctp_send.specs.OutstandingFields.{is_marked, item_meaning}
use Rattle.sctp_send.specs.inner.Wishing.{first_offset, is_item_marked, is_item_unsent, item_bytes, item_weight, item_flight, item_chunk, item_chunks}
use Rattle.sctp_send.specs.inner.Walks.{abandoned_items, is_item_unsettled}
use Rattle.sctp_send.specs.inner.Changes.{unmarked, as_covered, as_uncovered}
use Rattle.sctp_send.specs.inner.Newcomers.{one_if}
use Rattle.sctp_send.specs.inner.Counting.{count_unsettled, entered, left, lowered, reached, IsCounted}
use Rattle.sctp_send.specs.declared.kept.counts.Counts.{Counts}
use Rattle.sctp_send.specs.declared.kept.entry.Standing.{Standing}
use Rattle.sctp_send.specs.declared.kept.entry.Standing.TheVariants.{Unsent, Sent, Marked}
use Rattle.sctp_send.specs.declared.kept.entry.Entry.{Entry as EntryFields}
use Rattle.sctp_send.proofs.kept.ItemLemmas.{item_read}
use Rattle.sctp_send.proofs.kept.WeightLemmas.{weight_small, chunk_small, one_small, flight_sum, chunk_sum, unsettled_one, unsettled_sum}
use Rattle.sctp_send.proofs.kept.CursorLemmas.{lower_within, reach_within, none_reached, none_behind_first, none_set}
use Rattle.sctp_send.proofs.kept.FrontLemmas.{front_pushed, front_stays}

-- ---- sums modulo 2^64

module _ (weight : Item → ℕ) (total : List Item → ℕ) (is : (xs : List Item) → total xs ≡ sum_by weight xs) where
  sum_pushed : (xs : List Item) (x : Item) (n : ℕ) → n ≡ total xs % 2 ^ 64 → (n + weight x) % 2 ^ 64 ≡ total (xs ++ x ∷ []) % 2 ^ 64
  sum_pushed xs x n counts = omega (arith, counts, is xs, is (xs ++ x ∷ []), sum_by_push weight xs x)

  sum_behind : (x : Item) (xs : List Item) (n : ℕ) → weight x ≤ 2 ^ 64 → n ≡ total (x ∷ xs) % 2 ^ 64 → (n + (2 ^ 64 - weight x)) % 2 ^ 64 ≡ total xs % 2 ^ 64
  sum_behind x xs n small counts = omega (arith, small, counts, is xs, is (x ∷ xs), sum_by-cons weight x xs)

  sum_set : (xs : List Item) (i : ℕ) (x y : Item) (n : ℕ) → i < length xs → x ≡ get_or xs i x → weight x ≤ 2 ^ 64 → n ≡ total xs % 2 ^ 64
      → ((n + (2 ^ 64 - weight x)) % 2 ^ 64 + weight y) % 2 ^ 64 ≡ total (set xs i y) % 2 ^ 64
  sum_set xs i x y n lt read small counts =
      let same : weight x ≡ weight (get_or xs i x) = ap weight read in
      omega (arith, small, counts, same, is xs, is (set xs i y), sum_by-set weight xs i y x lt)

-- ---- an entry more

pub counts_pushed : (size : ℕ) (es : List EntryFields) (e : EntryFields) (c : Counts) → IsCounted size es c
    → IsCounted size (es ++ e ∷ []) (reached (length es) (item_meaning size e) (entered (item_meaning size e) c))
counts_pushed size es e c h =
    let x = item_meaning size e in
    let items = map (item_meaning size) es in
    let more : map (item_meaning size) (es ++ e ∷ []) ≡ items ++ x ∷ [] = map-append (item_meaning size) es (e ∷ []) in
    let long : length es ≡ length items = sym (length-map es (item_meaning size)) in
    let longer = length-append es (e ∷ []) in
    record {
      some = h.some;
      small = h.small;
      low = h.low;
      marked = rw more (none_reached is_item_marked items x c.marked (length es) long h.marked_within h.marked);
      marked_within = reach_within (is_item_marked x) c.marked (length es) (length (es ++ e ∷ [])) (let le = h.marked_within in omega arith) (omega (arith, longer));
      unsent = rw more (none_reached is_item_unsent items x c.unsent (length es) long h.unsent_within h.unsent);
      unsent_within = reach_within (is_item_unsent x) c.unsent (length es) (length (es ++ e ∷ [])) (let le = h.unsent_within in omega arith) (omega (arith, longer));
      flight = rw more (sum_pushed item_weight item_flight flight_sum items x c.flight h.flight);
      chunks = rw more (sum_pushed (item_chunk c.header) (item_chunks c.header) (chunk_sum c.header) items x c.chunks h.chunks);
      unsettled = rw more (sum_pushed unsettled_one count_unsettled unsettled_sum items x c.unsettled h.unsettled);
      front = rw more (front_pushed items x c.front (length es) long h.front);
    }

-- ---- an entry less

pub counts_behind : (size : ℕ) (e : EntryFields) (es : List EntryFields) (c : Counts) (front : ℕ) → IsCounted size (e ∷ es) c → front ≡ abandoned_items (map (item_meaning size) es)
    → IsCounted size es (record (left (item_meaning size e) c) { marked = c.marked - 1; unsent = c.unsent - 1; front = front })
counts_behind size e es c front h is =
    let x = item_meaning size e in
    let items = map (item_meaning size) es in
    record {
      some = h.some;
      small = h.small;
      low = h.low;
      marked = none_behind_first is_item_marked x items c.marked h.marked;
      marked_within = let le : c.marked ≤ suc (length es) = h.marked_within in omega arith;
      unsent = none_behind_first is_item_unsent x items c.unsent h.unsent;
      unsent_within = let le : c.unsent ≤ suc (length es) = h.unsent_within in omega arith;
      flight = sum_behind item_weight item_flight flight_sum x items c.flight (weight_small size e h.some h.small) h.flight;
      chunks = sum_behind (item_chunk c.header) (item_chunks c.header) (chunk_sum c.header) x items c.chunks (chunk_small c.header size e h.low h.some h.small) h.chunks;
      unsettled = sum_behind unsettled_one count_unsettled unsettled_sum x items c.unsettled (one_small (is_item_unsettled x)) h.unsettled;
      front = is;
    }

-- ---- an entry becomes another

pub counts_set : (size : ℕ) (es : List EntryFields) (at : ℕ) (e new : EntryFields) (c : Counts) (front : ℕ) → at < length es → e ≡ get_or es at e → IsCounted size es c
    → front ≡ abandoned_items (map (item_meaning size) (set es at new))
    → IsCounted size (set es at new) (record (lowered at (item_meaning size new) (entered (item_meaning size new) (left (item_meaning size e) c))) { front = front })
counts_set size es at e new c front lt read h is =
    let x = item_meaning size e in
    let y = item_meaning size new in
    let items = map (item_meaning size) es in
    let more : map (item_meaning size) (set es at new) ≡ set items at y = map-set (item_meaning size) es at new in
    let long = length-set es at new in
    let within : at < length items = omega (arith, length-map es (item_meaning size)) in
    let there : x ≡ get_or items at x = sym (item_read size es at e read) in
    record {
      some = h.some;
      small = h.small;
      low = h.low;
      marked = rw more (none_set is_item_marked items at c.marked y h.marked);
      marked_within = lower_within (is_item_marked y) c.marked at (length (set es at new)) (let le = h.marked_within in omega arith);
      unsent = rw more (none_set is_item_unsent items at c.unsent y h.unsent);
      unsent_within = lower_within (is_item_unsent y) c.unsent at (length (set es at new)) (let le = h.unsent_within in omega arith);
      flight = rw more (sum_set item_weight item_flight flight_sum items at x y c.flight within there (weight_small size e h.some h.small) h.flight);
      chunks = rw more (sum_set (item_chunk c.header) (item_chunks c.header) (chunk_sum c.header) items at x y c.chunks within there (chunk_small c.header size e h.low h.some h.small) h.chunks);
      unsettled = rw more (sum_set unsettled_one count_unsettled unsettled_sum items at x y c.unsettled within there (one_small (is_item_unsettled x)) h.unsettled);
      front = is;
    }

-- ---- an entry is told covered, or uncovered

both_off : (a b : Bool) → (a && (b && false)) ≡ false
both_off true true = refl
both_off true false = refl
both_off false b = refl

-- what is covered has no weight
covered_weight : (x : Item) → x.covered ≡ true → item_weight x ≡ 0
covered_weight x on = ap (λ (b : Bool). if b then length (item_bytes x) else 0) off
  where
    off : (not x.marked && (x.sent && (not x.covered && not x.abandoned))) ≡ false
    off = rw on (both_off (not x.marked) x.sent)

covered_chunk : (header : ℕ) (x : Item) → x.covered ≡ true → item_chunk header x ≡ 0
covered_chunk header x on = ap (whole header) (covered_weight x on)

-- nor is it unsettled, or to go out
covered_settled : (x : Item) → x.covered ≡ true → unsettled_one x ≡ 0
covered_settled x on = ap one_if off
  where
    off : is_item_unsettled x ≡ false
    off = rw on (both_off true x.sent)

covered_waits : (x : Item) → x.covered ≡ true → is_item_unsent x ≡ false
covered_waits x on = rw on (both_off true (not x.sent))

never_marked : (s : Standing) → is_marked (unmarked s) ≡ false
never_marked Unsent = refl
never_marked Sent = refl
never_marked Marked = refl

pub counts_covered : (size : ℕ) (es : List EntryFields) (at : ℕ) (e : EntryFields) (c : Counts) → at < length es → e ≡ get_or es at e → IsCounted size es c
    → IsCounted size (set es at (as_covered e)) (left (item_meaning size e) c)
counts_covered size es at e c lt read h =
    let x = item_meaning size e in
    let y = item_meaning size (as_covered e) in
    let items = map (item_meaning size) es in
    let more : map (item_meaning size) (set es at (as_covered e)) ≡ set items at y = map-set (item_meaning size) es at (as_covered e) in
    let long = length-set es at (as_covered e) in
    let within : at < length items = omega (arith, length-map es (item_meaning size)) in
    let there : x ≡ get_or items at x = sym (item_read size es at e read) in
    let front : c.front ≡ abandoned_items (map (item_meaning size) (set es at (as_covered e))) = rw more (h.front ∙ sym (front_stays items at x y within there refl)) in
    let all = counts_set size es at e (as_covered e) c c.front lt read h front in
    record {
      some = h.some;
      small = h.small;
      low = h.low;
      marked = subst (λ (b : Bool). first_offset is_item_marked (take (if b then min c.marked at else c.marked) (map (item_meaning size) (set es at (as_covered e)))) ≡ None) (never_marked e.standing) all.marked;
      marked_within = let le = h.marked_within in omega (arith, long, le);
      unsent = subst (λ (b : Bool). first_offset is_item_unsent (take (if b then min c.unsent at else c.unsent) (map (item_meaning size) (set es at (as_covered e)))) ≡ None) (covered_waits y refl) all.unsent;
      unsent_within = let le = h.unsent_within in omega (arith, long, le);
      flight = let is = all.flight in omega (arith, is, covered_weight y refl);
      chunks = let is = all.chunks in omega (arith, is, covered_chunk c.header y refl);
      unsettled = let is = all.unsettled in omega (arith, is, covered_settled y refl);
      front = front;
    }

pub counts_uncovered : (size : ℕ) (es : List EntryFields) (at : ℕ) (e : EntryFields) (c : Counts) → at < length es → e ≡ get_or es at e → e.covered ≡ true → IsCounted size es c
    → IsCounted size (set es at (as_uncovered e)) (lowered at (item_meaning size (as_uncovered e)) (entered (item_meaning size (as_uncovered e)) c))
counts_uncovered size es at e c lt read on h =
    let x = item_meaning size e in
    let y = item_meaning size (as_uncovered e) in
    let items = map (item_meaning size) es in
    let more : map (item_meaning size) (set es at (as_uncovered e)) ≡ set items at y = map-set (item_meaning size) es at (as_uncovered e) in
    let within : at < length items = omega (arith, length-map es (item_meaning size)) in
    let there : x ≡ get_or items at x = sym (item_read size es at e read) in
    let front : c.front ≡ abandoned_items (map (item_meaning size) (set es at (as_uncovered e))) = rw more (h.front ∙ sym (front_stays items at x y within there refl)) in
    let all = counts_set size es at e (as_uncovered e) c c.front lt read h front in
    record {
      some = h.some;
      small = h.small;
      low = h.low;
      marked = all.marked;
      marked_within = all.marked_within;
      unsent = all.unsent;
      unsent_within = all.unsent_within;
      flight = let is = all.flight in omega (arith, is, covered_weight x on);
      chunks = let is = all.chunks in omega (arith, is, covered_chunk c.header x on);
      unsettled = let is = all.unsettled in omega (arith, is, covered_settled x on);
      front = front;
    }

-- ---- a search went further

pub counts_marked : (size : ℕ) (es : List EntryFields) (c : Counts) (at : ℕ) → at ≤ length es → first_offset is_item_marked (take at (map (item_meaning size) es)) ≡ None → IsCounted size es c
    → IsCounted size es (record c { marked = at })
counts_marked size es c at within none h =
    record { some = h.some; small = h.small; low = h.low; marked = none; marked_within = within; unsent = h.unsent; unsent_within = h.unsent_within; flight = h.flight; chunks = h.chunks; unsettled = h.unsettled; front = h.front }

pub counts_unsent : (size : ℕ) (es : List EntryFields) (c : Counts) (at : ℕ) → at ≤ length es → first_offset is_item_unsent (take at (map (item_meaning size) es)) ≡ None → IsCounted size es c
    → IsCounted size es (record c { unsent = at })
counts_unsent size es c at within none h =
    record { some = h.some; small = h.small; low = h.low; marked = h.marked; marked_within = h.marked_within; unsent = none; unsent_within = within; flight = h.flight; chunks = h.chunks; unsettled = h.unsettled; front = h.front }
