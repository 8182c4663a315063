-- The streams and the tickets of their messages in part: what the one says of the other, and that the lists stay theirs.
use Rattle.std.proofs.Common.{◌≡◌, ℕ, zero, suc, ◌<◌, ◌≤◌, ◌^◌, min, List, [], ◌∷◌, length, map, get_or, Bool, true, false, Option, Some, None, refl, sym, ap, ◌∙◌, arith, subst}
use Rattle.std.specs.Prelude.{◌||◌, set, replicate}
use Rattle.std.proofs.lemmas.Bool.Decides.{nat_tests}
use Rattle.std.proofs.lemmas.List.{length-map, map-set}
use Rattle.sctp_send.specs.SenderFields.{counts_meaning, rests_meaning, track_meaning}
use Rattle.sctp_send.specs.SenderKept.{Track}
use Rattle.sctp_send.specs.inner.Newcomers.{rest_at, has_rest, IsNextPart}
use Rattle.sctp_send.specs.inner.PartSeats.{ticket_left, tickets_left, IsStreamsOf}
use Rattle.sctp_sequence.specs.TwoWays.{value_of, IsMapOf, IsFirstKey}
use Rattle.sctp_send.specs.inner.Walks.{any_rest, rest_has, GoesOnAt}
use Rattle.sctp_sequence.specs.declared.pairs.Pair.{Pair}
use Rattle.sctp_sequence.specs.declared.two_way_map.TwoWayMap.{TwoWayMap}
use Rattle.sctp_send.specs.declared.kept.track.Rest.{Rest as RestFields}
use Rattle.sctp_send.specs.declared.kept.track.Track.{Track as TrackFields}
use Rattle.sctp_send.specs.inner.Owning.{AreRestsOwned}
use Rattle.sctp_send.proofs.kept.OwedLemmas.{fresh_fields, counted_fresh}
use Rattle.sctp_send.proofs.kept.OwnedLemmas.{rests_fresh}

-- ---- one stream

pub rest_off : (size j : ℕ) (ts : List TrackFields) → value_of j (tickets_left ts) ≡ None → has_rest (rest_at (map (track_meaning size) ts) j) ≡ false
rest_off size j [] is = refl
rest_off size zero (x ∷ ts) is = by_rest x.rest is
  where
    by_rest : (o : Option RestFields) → ticket_left o ≡ None → has_rest (rests_meaning size (counts_meaning x) o) ≡ false
    by_rest None there = refl
    by_rest (Some r) there = absurd (cc)
rest_off size (suc j) (x ∷ ts) is = rest_off size j ts is

pub rest_on : (size j t : ℕ) (ts : List TrackFields) → value_of j (tickets_left ts) ≡ Some t → has_rest (rest_at (map (track_meaning size) ts) j) ≡ true
rest_on size j t [] is = absurd (cc)
rest_on size zero t (x ∷ ts) is = by_rest x.rest is
  where
    by_rest : (o : Option RestFields) → ticket_left o ≡ Some t → has_rest (rests_meaning size (counts_meaning x) o) ≡ true
    by_rest None there = absurd (cc)
    by_rest (Some r) there = refl
rest_on size (suc j) t (x ∷ ts) is = rest_on size j t ts is

-- ---- the first stream from one on

pub next_found : (from below next size : ℕ) (ts : List TrackFields) (p : Pair) → IsFirstKey from (tickets_left ts) p → next ≡ min p.first below → IsNextPart from below (map (track_meaning size) ts) next
next_found from below next size ts p first is = record {
  before = λ j lo hi. rest_off size j ts (first.before j lo (omega (arith, hi, is)));
  here = λ lt. let same : next ≡ p.first = omega (arith, lt, is) in (let above = first.above in omega (arith, above, same), ap (λ (n : ℕ). has_rest (rest_at (map (track_meaning size) ts) n)) same ∙ rest_on size p.first p.second ts first.there);
  within = omega (arith, is);
}

pub next_none : (from below size : ℕ) (ts : List TrackFields) → ((j : ℕ) → from ≤ j → value_of j (tickets_left ts) ≡ None) → IsNextPart from below (map (track_meaning size) ts) below
next_none from below size ts none = record { before = λ j lo hi. rest_off size j ts (none j lo); here = λ lt. absurd (omega (arith, lt)); within = omega arith }

-- ---- a stream by its message's ticket

pub goes_on_there : (size at t : ℕ) (ts : List TrackFields) → value_of at (tickets_left ts) ≡ Some t → GoesOnAt t at (map (track_meaning size) ts)
goes_on_there size at t [] is = absurd (cc)
goes_on_there size zero t (x ∷ ts) is = record { track = track_meaning size x; there = refl; mine = by_rest x.rest is }
  where
    by_rest : (o : Option RestFields) → ticket_left o ≡ Some t → rest_has t (rests_meaning size (counts_meaning x) o) ≡ true
    by_rest None there = absurd (cc)
    by_rest (Some r) there = let same : r.message.value.ticket ≡ t = cc in grind (arith, nat_tests)
goes_on_there size (suc at) t (x ∷ ts) is = let rest = goes_on_there size at t ts is in record { track = rest.track; there = rest.there; mine = rest.mine }

pub none_goes_on_with : (size t : ℕ) (ts : List TrackFields) → ((j : ℕ) → value_of j (tickets_left ts) ≡ Some t → ⊥) → any_rest t (map (track_meaning size) ts) ≡ false
none_goes_on_with size t [] none = refl
none_goes_on_with size t (x ∷ ts) none = ap (λ (b : Bool). b || any_rest t (map (track_meaning size) ts)) (by_rest x.rest (none 0)) ∙ none_goes_on_with size t ts (λ j. none (suc j))
  where
    by_rest : (o : Option RestFields) → (ticket_left o ≡ Some t → ⊥) → rest_has t (rests_meaning size (counts_meaning x) o) ≡ false
    by_rest None other = refl
    by_rest (Some r) other =
        let apart : r.message.value.ticket ≡ t → ⊥ = λ same. other (ap (λ (n : ℕ). Some n) same) in
        grind (arith, nat_tests, apart)

-- where a stream goes on with a message, some does
pub there_goes_on : (t at : ℕ) (ts : List Track) → GoesOnAt t at ts → any_rest t ts ≡ true
there_goes_on t at [] g = absurd (let none = g.there in cc)
there_goes_on t zero (x ∷ ts) g =
    let there = g.there in
    let same : x ≡ g.track = cc in
    let mine : rest_has t x.rest ≡ true = ap (λ (y : Track). rest_has t y.rest) same ∙ g.mine in
    rw mine refl
there_goes_on t (suc at) (x ∷ ts) g = right_on (rest_has t x.rest) (any_rest t ts) (there_goes_on t at ts (record { track = g.track; there = g.there; mine = g.mine }))
  where
    right_on : (b c : Bool) → c ≡ true → (b || c) ≡ true
    right_on true c on = refl
    right_on false c on = on

-- ---- streams come and change

none_left : (n : ℕ) → tickets_left (replicate n fresh_fields) ≡ replicate n None
none_left zero = refl
none_left (suc n) = ap (λ (os : List (Option ℕ)). None ∷ os) (none_left n)

-- streams that have no message with a number
pub streams_fresh : (size n : ℕ) (ts : List TrackFields) (lists : TwoWayMap) → 0 < size → n < 2 ^ 16 → ts ≡ replicate n fresh_fields → IsMapOf (replicate n None) lists → IsStreamsOf size ts 0 0 lists
streams_fresh size n ts lists some few is h = record {
  counted = counted_fresh size n ts some few is;
  listed = subst (λ (os : List (Option ℕ)). IsMapOf os lists) (sym (ap tickets_left is ∙ none_left n)) h;
  owned = subst (AreRestsOwned size) (sym is) (rests_fresh size n);
}

left_read : (at : ℕ) (ts : List TrackFields) (x : TrackFields) → at < length ts → x ≡ get_or ts at x → value_of at (tickets_left ts) ≡ ticket_left x.rest
left_read at [] x lt read = absurd (omega (arith, lt))
left_read zero (y ∷ ts) x lt read = ap (λ (z : TrackFields). ticket_left z.rest) (sym read)
left_read (suc at) (y ∷ ts) x lt read = left_read at ts x (omega (arith, lt)) read

-- a stream goes on in another way
pub listed_replaced : (at : ℕ) (ts next : List TrackFields) (x y : TrackFields) (goes comes : Option ℕ) (old new : TwoWayMap) → at < length ts → x ≡ get_or ts at x → next ≡ set ts at y → goes ≡ ticket_left x.rest → comes ≡ ticket_left y.rest → IsMapOf (tickets_left ts) old
    → ((os : List (Option ℕ)) → at < length os → value_of at os ≡ goes → IsMapOf os old → IsMapOf (set os at comes) new) → IsMapOf (tickets_left next) new
listed_replaced at ts next x y goes comes old new lt read is gone come h step =
    let long = length-map ts (λ (t : TrackFields). ticket_left t.rest) in
    let changed = step (tickets_left ts) (omega (arith, long, lt)) (left_read at ts x lt read ∙ sym gone) h in
    let same : set (tickets_left ts) at comes ≡ tickets_left next = ap (set (tickets_left ts) at) come ∙ sym (map-set (λ (t : TrackFields). ticket_left t.rest) ts at y) ∙ ap tickets_left (sym is) in
    subst (λ (os : List (Option ℕ)). IsMapOf os new) same changed
