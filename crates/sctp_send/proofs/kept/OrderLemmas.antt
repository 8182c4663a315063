-- The order of entries by their tickets: which entry a pair leads to, and what the order is once an entry is added or removed.
use Rattle.std.proofs.Common.{◌≡◌, ℕ, zero, suc, ◌+◌, ◌-◌, ◌%◌, ◌^◌, ◌<◌, ◌≤◌, ◌⊎◌, List, [], ◌∷◌, ◌++◌, length, get_or, drop, Some, inl, inr, refl, sym, ◌∙◌, ap, subst, arith, length-append, length-drop}
use Rattle.std.specs.Prelude.{slice_get}
use Rattle.std.specs.List.{sum_by}
use Rattle.std.proofs.lemmas.List.{get_or_default, nil_from_length, drop_all, drop-append-le}
use Rattle.std.proofs.lemmas.Option.{slice_get_within}
use Rattle.sctp_sequence.specs.Pairs.{AreSame}
use Rattle.sctp_sequence.specs.declared.pairs.Pair.{Pair}
use Rattle.sctp_send.specs.declared.kept.by_ticket.ByTicket.{ByTicket}
use Rattle.sctp_send.specs.inner.TicketOrder.{offset_of, offset_at, no_pair, pair_at, pairs_from, ArePairsOf, AreRisingTo, IsOrderOf}
use Rattle.sctp_send.proofs.kept.PairLemmas.{pair_with, as_many, own_ticket, own_pair, order_pushed, order_behind}

-- ---- an entry more

-- what is read then was there, or is the last
pushed_read : (ts : List ℕ) (t n u : ℕ) → slice_get (ts ++ t ∷ []) n ≡ Some u → (slice_get ts n ≡ Some u) ⊎ ((n ≡ length ts) × (u ≡ t))
pushed_read [] t zero u read = inr (refl, cc)
pushed_read [] t (suc n) u read = absurd (cc)
pushed_read (x ∷ ts) t zero u read = inl read
pushed_read (x ∷ ts) t (suc n) u read = elim (pushed_read ts t n u read) [ inl there ↦ inl there | inr last ↦ inr (ap suc last.0, last.1) ]

-- one whose ticket is no lower than all others
pub order_risen : (ts : List ℕ) (o : ByTicket) (t : ℕ) → length o.pairs.items ≡ 0 → o.last ≤ t → IsOrderOf ts o → IsOrderOf (ts ++ t ∷ []) (record o { last = t })
order_risen ts o t none le h =
    let whole = h.whole in
    let long = length-append ts (t ∷ []) in
    record {
      unpaired = h.unpaired + 1;
      whole = omega (arith, whole, long);
      small = h.small;
      rising = rising;
      pairs = record {
        small = omega arith;
        same = λ f. ap (λ (ps : List Pair). sum_by f ps) (nil_from_length o.pairs.items none)
            ∙ ap (λ (us : List ℕ). sum_by f (pairs_from ((o.first + (h.unpaired + 1)) % 2 ^ 64) us)) (sym (drop_all (h.unpaired + 1) (ts ++ t ∷ []) (omega (arith, whole, long, none))));
      };
      last = λ empty k u read. elim (pushed_read ts t k u read) [ inl there ↦ let low = h.last none k u there in omega (arith, low, le) | inr last ↦ omega (arith, last.1) ];
    }
  where
    rising : AreRisingTo (h.unpaired + 1) (ts ++ t ∷ [])
    rising i j a b up lt one two = elim (pushed_read ts t i a one) [
      | inl there ↦ elim (pushed_read ts t j b two) [
        | inl later ↦ h.rising i j a b up (let whole = h.whole in let within = slice_get_within ts j b later in omega (arith, whole, none, within)) there later
        | inr last ↦ let low = h.last none i a there in omega (arith, low, le, last.1)
      ]
      | inr here ↦ elim (pushed_read ts t j b two) [
        | inl later ↦ absurd (let within = slice_get_within ts j b later in omega (arith, within, up, here.0))
        | inr last ↦ omega (arith, here.1, last.1)
      ]
    ]

-- one that gets a pair
pub order_paired : (ts : List ℕ) (o q : ByTicket) (t second : ℕ) → second ≡ (o.first + length ts) % 2 ^ 64 → AreSame q.pairs.items (pair_with t second ∷ o.pairs.items) → q.first ≡ o.first → IsOrderOf ts o → IsOrderOf (ts ++ t ∷ []) q
order_paired ts o q t second at more same h =
    let whole = h.whole in
    let small = h.small in
    let many = as_many q.pairs.items (pair_with t second ∷ o.pairs.items) more in
    let long = length-append ts (t ∷ []) in
    let rest = length-drop h.unpaired ts in
    let base : (o.first + h.unpaired) % 2 ^ 64 ≡ (q.first + h.unpaired) % 2 ^ 64 = omega (arith, same) in
    let behind : second ≡ ((o.first + h.unpaired) % 2 ^ 64 + length (drop h.unpaired ts)) % 2 ^ 64 = omega (arith, at, rest, whole) in
    let pairs = order_pushed (drop h.unpaired ts) ((o.first + h.unpaired) % 2 ^ 64) t second o.pairs.items q.pairs.items behind more h.pairs in
    record {
      unpaired = h.unpaired;
      whole = omega (arith, whole, long, many);
      small = omega (arith, small, same);
      rising = rising;
      pairs = subst (λ (us : List ℕ). ArePairsOf us ((q.first + h.unpaired) % 2 ^ 64) q.pairs.items) (sym (drop-append-le h.unpaired ts (t ∷ []) (omega (arith, whole))))
          (subst (λ (n : ℕ). ArePairsOf (drop h.unpaired ts ++ t ∷ []) n q.pairs.items) base pairs);
      last = λ none. absurd (omega (arith, none, many));
    }
  where
    rising : AreRisingTo h.unpaired (ts ++ t ∷ [])
    rising i j a b up lt one two = let whole = h.whole in elim (pushed_read ts t i a one) [
      | inl there ↦ elim (pushed_read ts t j b two) [ inl later ↦ h.rising i j a b up lt there later | inr last ↦ absurd (omega (arith, last.0, lt, whole)) ]
      | inr here ↦ absurd (omega (arith, here.0, up, lt, whole))
    ]

-- ---- an entry less

-- it rose
pub order_less : (ts : List ℕ) (t : ℕ) (o : ByTicket) (first : ℕ) → length o.pairs.items ≤ length ts → first ≡ (o.first + 1) % 2 ^ 64 → IsOrderOf (t ∷ ts) o → IsOrderOf ts (record o { first = first })
order_less ts t o first le at h = by_number (h.unpaired - 1) (let whole = h.whole in omega (arith, whole, le))
  where
    by_number : (u : ℕ) → h.unpaired ≡ suc u → IsOrderOf ts (record o { first = first })
    by_number u is = let whole = h.whole in record {
      unpaired = u;
      whole = omega (arith, whole, is);
      small = omega (arith, at);
      rising = λ i j a b up lt one two. h.rising (suc i) (suc j) a b (omega (arith, up)) (omega (arith, lt, is)) one two;
      pairs =
          let base : (o.first + h.unpaired) % 2 ^ 64 ≡ (first + u) % 2 ^ 64 = omega (arith, at, is) in
          subst (λ (n : ℕ). ArePairsOf (drop u ts) n o.pairs.items) base (subst (λ (k : ℕ). ArePairsOf (drop k (t ∷ ts)) ((o.first + h.unpaired) % 2 ^ 64) o.pairs.items) is h.pairs);
      last = λ none k u there. h.last none (suc k) u there;
    }

-- it had a pair, as all have
pub order_unpaired : (ts : List ℕ) (t : ℕ) (o q : ByTicket) → length ts < length o.pairs.items → q.first ≡ (o.first + 1) % 2 ^ 64 → AreSame o.pairs.items (pair_with t o.first ∷ q.pairs.items) → IsOrderOf (t ∷ ts) o → IsOrderOf ts q
order_unpaired ts t o q more at gone h =
    let whole = h.whole in
    let small = h.small in
    let many = as_many o.pairs.items (pair_with t o.first ∷ q.pairs.items) gone in
    let zeroed : h.unpaired ≡ 0 = omega (arith, whole, more) in
    let base : (o.first + h.unpaired) % 2 ^ 64 ≡ o.first = omega (arith, zeroed, small) in
    let all = subst (λ (n : ℕ). ArePairsOf (t ∷ ts) n o.pairs.items) base (subst (λ (k : ℕ). ArePairsOf (drop k (t ∷ ts)) ((o.first + h.unpaired) % 2 ^ 64) o.pairs.items) zeroed h.pairs) in
    let next : (o.first + 1) % 2 ^ 64 ≡ (q.first + 0) % 2 ^ 64 = omega (arith, at) in
    record {
      unpaired = 0;
      whole = omega (arith, whole, many, zeroed);
      small = omega (arith, at);
      rising = λ i j a b up lt one two. absurd (omega (arith, lt));
      pairs = subst (λ (n : ℕ). ArePairsOf ts n q.pairs.items) next (order_behind ts o.first t o.pairs.items q.pairs.items gone all);
      last = λ none k u there. absurd (let within = slice_get_within ts k u there in omega (arith, within, none, whole, many, zeroed));
    }

-- its pair is there
pub pair_in_front : (ts : List ℕ) (t : ℕ) (o : ByTicket) → length ts < length o.pairs.items → IsOrderOf (t ∷ ts) o → AreSame o.pairs.items (pairs_from o.first (t ∷ ts))
pair_in_front ts t o more h =
    let whole = h.whole in
    let small = h.small in
    let zeroed : h.unpaired ≡ 0 = omega (arith, whole, more) in
    let base : (o.first + h.unpaired) % 2 ^ 64 ≡ o.first = omega (arith, zeroed, small) in
    (subst (λ (n : ℕ). ArePairsOf (t ∷ ts) n o.pairs.items) base (subst (λ (k : ℕ). ArePairsOf (drop k (t ∷ ts)) ((o.first + h.unpaired) % 2 ^ 64) o.pairs.items) zeroed h.pairs)).same

-- no entries
pub order_none : (o : ByTicket) → o.first < 2 ^ 64 → o.pairs.items ≡ [] → IsOrderOf [] o
order_none o small none = record {
  unpaired = 0;
  whole = let empty = ap (λ (ps : List Pair). length ps) none in omega (arith, empty);
  small = small;
  rising = λ i j a b up lt one two. absurd (omega (arith, lt));
  pairs = record { small = omega arith; same = λ f. ap (λ (ps : List Pair). sum_by f ps) none };
  last = λ empty k u there. absurd (cc);
}

-- ---- the entries of pairs, the pairs of entries

get_drop : (n : ℕ) (ts : List ℕ) (m : ℕ) → slice_get (drop n ts) m ≡ slice_get ts (n + m)
get_drop zero ts m = let same : 0 + m ≡ m = omega arith in rw same refl
get_drop (suc n) [] m = refl
get_drop (suc n) (t ∷ ts) m = let same : suc n + m ≡ suc (n + m) = omega arith in rw same (get_drop n ts m)

module _ (ts : List ℕ) (o : ByTicket) (few : length ts < 2 ^ 64) (h : IsOrderOf ts o) where
  -- the ticket of a pair is the one at its offset
  pub pair_ticket : (k : ℕ) → k < length o.pairs.items → slice_get ts (offset_at o.first o.pairs.items k) ≡ Some (pair_at o.pairs.items k).first
  pair_ticket k lt =
      let p = pair_at o.pairs.items k in
      let base = (o.first + h.unpaired) % 2 ^ 64 in
      let whole = h.whole in
      let small = h.small in
      let long = length-drop h.unpaired ts in
      let mine = own_ticket (drop h.unpaired ts) base o.pairs.items p (omega (arith, long, few)) h.pairs (k, lt, get_or_default o.pairs.items k p no_pair lt) in
      let within = slice_get_within (drop h.unpaired ts) (offset_of base p) p.first mine in
      let at : h.unpaired + offset_of base p ≡ offset_of o.first p = omega (arith, within, long, few, small) in
      subst (λ (m : ℕ). slice_get ts m ≡ Some p.first) at (sym (get_drop h.unpaired ts (offset_of base p)) ∙ mine)

  -- an entry after those that rise has a pair
  pub entry_pair : (n t : ℕ) → slice_get ts n ≡ Some t → h.unpaired ≤ n → (k : ℕ) × (k < length o.pairs.items) × (offset_at o.first o.pairs.items k ≡ n) × ((pair_at o.pairs.items k).first ≡ t)
  entry_pair n t read le =
      let base = (o.first + h.unpaired) % 2 ^ 64 in
      let small = h.small in
      let within = slice_get_within ts n t read in
      let back : h.unpaired + (n - h.unpaired) ≡ n = omega (arith, le) in
      let there : slice_get (drop h.unpaired ts) (n - h.unpaired) ≡ Some t = get_drop h.unpaired ts (n - h.unpaired) ∙ ap (slice_get ts) back ∙ read in
      let mine = own_pair (drop h.unpaired ts) base o.pairs.items (n - h.unpaired) t (omega (arith, within, few)) h.pairs there in
      let k = mine.1.0 in
      let lt = mine.1.1 in
      let is : pair_at o.pairs.items k ≡ mine.0 = ◌∙◌ {b = get_or o.pairs.items k mine.0} (get_or_default o.pairs.items k no_pair mine.0 lt) mine.1.2 in
      let offset = mine.2 in
      let at : offset_of o.first mine.0 ≡ n = omega (arith, offset, within, few, small, le) in
      (k, lt, subst (λ (p : Pair). offset_of o.first p ≡ n) (sym is) at, subst (λ (p : Pair). p.first ≡ t) (sym is) mine.3)
