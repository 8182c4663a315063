-- What an acknowledgement does to a view, by what is tallied of the items above CUM.
use Rattle.std.proofs.Common.{◌≡◌, ℕ, zero, suc, ◌+◌, ◌-◌, ◌*◌, ◌%◌, ◌^◌, ◌<◌, ◌≤◌, ◌⊎◌, ◌∙◌, inl, inr, List, [], ◌∷◌, length, map, drop, Bool, true, false, Option, Some, None, refl, sym, ap, arith, length-drop}
use Rattle.std.specs.Prelude.{nat_lt, not, ◌&&◌, ◌||◌, if◌then◌else◌, slice_get, option_map, IfSome}
use Rattle.std.specs.Option.{option_map_or}
use Rattle.std.proofs.lemmas.Bool.{cases_lt}
use Rattle.std.proofs.lemmas.Bool.Decides.{nat_tests}
use Rattle.std.proofs.lemmas.Option.{slice_get_past}
use Rattle.sctp_model.specs.messages.Format.{Format}
use Rattle.sctp_model.specs.messages.Framing.{header_of}
use Rattle.sctp_model.specs.messages.Plan.{Entry, entry_at}
use Rattle.sctp_model.specs.sender.SenderView.{SenderView}
use Rattle.sctp_model.specs.sender.Words.{some_passes, sum_below, last_that}
use Rattle.sctp_model.specs.sender.Entries.{sum_from}
use Rattle.sctp_model.specs.end.Trips.{was_given_up}
use Rattle.sctp_model.specs.end.Misses.{moves, is_newly_covered, newest}
use Rattle.sctp_model.specs.end.Control.{acked_of, newly_acked}
use Rattle.sctp_model.proofs.sender.WordLaws.{sum-same}
use Rattle.sctp_model.proofs.sender.FlightLaws.{sum_from-drop}
use Rattle.sctp_model.proofs.sender.Bounds.{is_bounded}
use Rattle.sctp_model.proofs.sender.PointLaws.{get-drop}
use Rattle.sctp_model.proofs.sender.OwedLaws.{IsPromised, is_promised, is_windowed}
use Rattle.sctp_send.specs.SenderKept.{Item, Kept}
use Rattle.sctp_send.specs.SenderStands.{item_here, Keeps}
use Rattle.sctp_send.specs.PaceAnswers.{IsWeight}
use Rattle.sctp_send.specs.OutstandingFields.{item_meaning}
use Rattle.sctp_send.specs.declared.kept.entry.Entry.{Entry as EntryFields}
use Rattle.sctp_send.specs.declared.pace.tally.Tally.{Tally}
use Rattle.sctp_send.specs.declared.pace.weight.Weight.{Weight}
use Rattle.sctp_send.specs.inner.Weighing.{is_item_open, is_item_news, unsettled_bytes, unsettled_chunk, is_news, news_weight, IsIdle, IsTallied, IsAfter, index_above}
use Rattle.sctp_send.proofs.KeepLemmas.{kept_length}
use Rattle.sctp_send.proofs.kept.WeightLemmas.{bytes_short, whole_short}
use Rattle.sctp_send.proofs.pace.PaceViews.{kept_get, index_is}
use Rattle.sctp_send.proofs.pace.SentLemmas.{last_low}
use Rattle.sctp_send.proofs.pace.FlyingLemmas.{sum_shift}
use Rattle.sctp_send.proofs.pace.TallyLemmas.{idle_sum, idle_last, idle_off, idle_closed}

-- ---- sums over all items

-- beyond the items nothing is newly acknowledged
idle_past : (xs : List Item) (on : ℕ → Bool) (j : ℕ) → length xs < j → IsIdle xs on j
idle_past xs on j lt = idle_closed xs on j (ap (some_passes is_item_open) (slice_get_past xs (j - 1) (omega (arith, lt))))

-- the tally is that of all items
record IsAll (header : ℕ) (xs : List Item) (on : ℕ → Bool) (t : Tally) : Type 0 where
  bytes : t.bytes ≡ sum_below (news_weight header xs on) (length xs) % 2 ^ 64
  last : t.newest ≡ last_that (is_news xs on) (length xs)

all_tallied : (header : ℕ) (xs : List Item) (on : ℕ → Bool) (t : Tally) → IsTallied header xs on t → IsAll header xs on t
all_tallied header xs on t h = elim (cases_lt t.at (length xs)) [
  | inl less ↦
      let split : t.at + (length xs - t.at) ≡ length xs = omega (arith, less) in
      let idle : (j : ℕ) → t.at < j → j ≤ t.at + (length xs - t.at) → IsIdle xs on j = λ j lo hi. idle_off xs on j (h.beyond j lo) in
      record {
        bytes = h.tally.bytes ∙ ap (λ (n : ℕ). n % 2 ^ 64) (sym (idle_sum header xs on t.at (length xs - t.at) idle) ∙ ap (sum_below (news_weight header xs on)) split);
        last = h.tally.last ∙ sym (idle_last xs on t.at (length xs - t.at) idle) ∙ ap (last_that (is_news xs on)) split;
      }
  | inr more ↦
      let split : length xs + (t.at - length xs) ≡ t.at = omega (arith, more) in
      let idle : (j : ℕ) → length xs < j → j ≤ length xs + (t.at - length xs) → IsIdle xs on j = λ j lo hi. idle_past xs on j lo in
      record {
        bytes = h.tally.bytes ∙ ap (λ (n : ℕ). n % 2 ^ 64) (ap (sum_below (news_weight header xs on)) (sym split) ∙ idle_sum header xs on (length xs) (t.at - length xs) idle);
        last = h.tally.last ∙ ap (last_that (is_news xs on)) (sym split) ∙ idle_last xs on (length xs) (t.at - length xs) idle;
      }
]

-- the bytes are few
weight_few : (header size : ℕ) (es : List EntryFields) (on : ℕ → Bool) (k : ℕ) → header < 2 ^ 16 → 0 < size → size < 2 ^ 16 → news_weight header (map (item_meaning size) es) on k ≤ 131072
weight_few header size es on k low some small = grind (arith, short es k)
  where
    bytes_few : (e : EntryFields) → unsettled_bytes (item_meaning size e) < 2 ^ 16
    bytes_few e = let le = bytes_short size e some in grind (arith, le, small)

    short : (ds : List EntryFields) (n : ℕ) → option_map_or (unsettled_chunk header) (slice_get (map (item_meaning size) ds) n) 0 ≤ 131072
    short [] n = omega arith
    short (e ∷ ds) zero = whole_short header (unsettled_bytes (item_meaning size e)) low (bytes_few e)
    short (e ∷ ds) (suc n) = short ds n

pub weights_few : (header size : ℕ) (es : List EntryFields) (on : ℕ → Bool) (n : ℕ) → header < 2 ^ 16 → 0 < size → size < 2 ^ 16 → sum_below (news_weight header (map (item_meaning size) es) on) n ≤ n * 131072
weights_few header size es on zero low some small = omega arith
weights_few header size es on (suc n) low some small =
    let one = weight_few header size es on n low some small in
    let rest = weights_few header size es on n low some small in
    omega (arith, one, rest)

-- ---- sums over entries

sum_entries : (g : ℕ → Entry → ℕ) (i : ℕ) (es : List Entry) → sum_from g i es ≡ sum_below (λ k. option_map_or (g (i + k)) (slice_get es k) 0) (length es)
sum_entries g i [] = refl
sum_entries g i (e ∷ es) =
    let at = λ (k : ℕ). option_map_or (g (i + k)) (slice_get (e ∷ es) k) 0 in
    let here : at 0 ≡ g i e = ap (λ (n : ℕ). g n e) (let same : i + 0 ≡ i = omega arith in same) in
    let next = sum-same (λ k. option_map_or (g (suc i + k)) (slice_get es k) 0) (λ k. at (suc k)) (length es) (λ j lt. ap (λ (n : ℕ). option_map_or (g n) (slice_get es j) 0) (let same : suc i + j ≡ i + suc j = omega arith in same)) in
    let rest = sum_entries g (suc i) es ∙ next in
    let split = sum_shift at (length es) in
    omega (arith, here, rest, split)

-- ---- the last index that passes

last_none : (on : ℕ → Bool) (n : ℕ) → ((j : ℕ) → 0 < j → j ≤ n → on j ≡ false) → last_that on n ≡ 0
last_none on zero off = refl
last_none on (suc n) off = rw (off (suc n) (omega arith) (omega arith)) (last_none on n (λ j lo hi. off j lo (omega arith)))

last_at : (on : ℕ → Bool) (n m : ℕ) → 0 < m → m ≤ n → on m ≡ true → ((j : ℕ) → m < j → j ≤ n → on j ≡ false) → last_that on n ≡ m
last_at on zero m some le here off = absurd (omega (arith, some, le))
last_at on (suc n) m some le here off = grind (arith, off, last_at on n m)

last_same : (on other : ℕ → Bool) (n : ℕ) → ((j : ℕ) → on j ≡ other j) → last_that on n ≡ last_that other n
last_same on other zero same = refl
last_same on other (suc n) same = rw (same (suc n), last_same on other n same) refl

last_shift : (on above : ℕ → Bool) (c n : ℕ) → ((i : ℕ) → 0 < i → i ≤ c → on i ≡ false) → ((j : ℕ) → 0 < j → j ≤ n → on (c + j) ≡ above j) → last_that on (c + n) ≡ index_above c (last_that above n)
last_shift on above c zero off same = ap (last_that on) (let e : c + 0 ≡ c = omega arith in e) ∙ last_none on c off
last_shift on above c (suc n) off same =
    let next : c + suc n ≡ suc (c + n) = omega arith in
    grind (arith, next, same (suc n), last_shift on above c n off (λ j lo hi. same j lo (omega (arith, hi))))

-- ---- the bytes that are newly acknowledged

covered_weighs : (header : ℕ) (v u : SenderView) (i : ℕ) (e : Entry) → v.covered i ≡ true → acked_of header v u i e ≡ 0
covered_weighs header v u i e on = grind (arith, on)

acked_here : (f : Format) (s : Kept) (v u : SenderView) (on : ℕ → Bool) (passed k : ℕ) → Keeps f s v → IsAfter v u on passed
    → option_map_or (acked_of (header_of f) v u (suc v.cum + k)) (slice_get (drop v.cum v.plan.entries) k) 0 ≡ news_weight (header_of f) s.items on k
acked_here f s v u on passed k h a =
    ap (λ (n : ℕ). option_map_or (acked_of (header_of f) v u n) (slice_get (drop v.cum v.plan.entries) k) 0) (let same : suc v.cum + k ≡ suc (v.cum + k) = omega arith in same)
    ∙ ap (λ (o : Option Entry). option_map_or (acked_of (header_of f) v u (suc (v.cum + k))) o 0) (sym (get-drop v.cum v.plan.entries k))
    ∙ by_entry (entry_at v.plan (suc (v.cum + k)))
    ∙ ap (λ (o : Option Item). if on (suc k) then option_map_or (unsettled_chunk (header_of f)) o 0 else 0) (sym (kept_get f s v k h))
  where
    covered : u.covered (suc (v.cum + k)) ≡ on (suc k)
    covered = ap u.covered (let same : suc (v.cum + k) ≡ v.cum + suc k = omega arith in same) ∙ a.covered (suc k) (omega arith)

    by_entry : (o : Option Entry) → option_map_or (acked_of (header_of f) v u (suc (v.cum + k))) o 0 ≡ (if on (suc k) then option_map_or (unsettled_chunk (header_of f)) (option_map (item_here v (suc (v.cum + k))) o) 0 else 0)
    by_entry o = grind (arith, covered)

bytes_all : (f : Format) (s : Kept) (v u : SenderView) (on : ℕ → Bool) (passed : ℕ) → Keeps f s v → IsAfter v u on passed → newly_acked (header_of f) v u ≡ sum_below (news_weight (header_of f) s.items on) (length s.items)
bytes_all f s v u on passed h a =
    let b = is_bounded f v h.reached in
    let es = drop v.cum v.plan.entries in
    let long = kept_length f s v h in
    let count : length es ≡ length s.items = omega (arith, long, length-drop v.cum v.plan.entries) in
    let above = sum_from-drop (acked_of (header_of f) v u) 1 v.cum v.plan.entries (λ j e lo hi. covered_weighs (header_of f) v u j e (b.covered j (omega arith) (omega arith))) b.within in
    above ∙ ap (λ (n : ℕ). sum_from (acked_of (header_of f) v u) n es) (let one : 1 + v.cum ≡ suc v.cum = omega arith in one) ∙ sum_entries (acked_of (header_of f) v u) (suc v.cum) es
    ∙ sum-same (λ k. option_map_or (acked_of (header_of f) v u (suc v.cum + k)) (slice_get es k) 0) (news_weight (header_of f) s.items on) (length es) (λ j lt. acked_here f s v u on passed j h a) ∙ ap (sum_below (news_weight (header_of f) s.items on)) count

-- ---- the highest indexes

newest_below : (v u : SenderView) (i : ℕ) → v.covered i ≡ true → (is_newly_covered v u i || (false && (moves v u && u.covered i))) ≡ false
newest_below v u i on = grind (arith, on)

newest_above : (f : Format) (s : Kept) (v u : SenderView) (on : ℕ → Bool) (passed j : ℕ) → Keeps f s v → IsAfter v u on passed → 0 < j → j ≤ length s.items
    → (is_newly_covered v u (v.cum + j) || (false && (moves v u && u.covered (v.cum + j)))) ≡ is_news s.items on j
newest_above f s v u on passed j h a some le = grind (arith, a.covered j some, index_is f s v is_item_news (λ i. v.sent i && not (v.covered i)) j h some (λ i e. refl) unsent)
  where
    unsent : (i : ℕ) → length v.plan.entries < i → (v.sent i && not (v.covered i)) ≡ false
    unsent i past = rw ((is_bounded f v h.reached).unsent i past) refl

outside_is : (f : Format) (s : Kept) (v u : SenderView) (on : ℕ → Bool) (passed : ℕ) → Keeps f s v → IsAfter v u on passed → newest false v u ≡ index_above v.cum (last_that (is_news s.items on) (length s.items))
outside_is f s v u on passed h a =
    let b = is_bounded f v h.reached in
    let long = kept_length f s v h in
    let all : length v.plan.entries ≡ v.cum + length s.items = omega (arith, long) in
    ap (last_that (λ i. is_newly_covered v u i || (false && (moves v u && u.covered i)))) all
    ∙ last_shift (λ i. is_newly_covered v u i || (false && (moves v u && u.covered i))) (is_news s.items on) v.cum (length s.items) (λ i some le. newest_below v u i (b.covered i some le)) (λ j some le. newest_above f s v u on passed j h a some le)

-- it moves CUM
moves_is : (v u : SenderView) (on : ℕ → Bool) (passed : ℕ) → IsAfter v u on passed → nat_lt 0 passed ≡ moves v u
moves_is v u on passed a = shift v.cum passed ∙ ap (nat_lt v.cum) (sym a.cum)
  where
    shift : (c n : ℕ) → nat_lt 0 n ≡ nat_lt c (c + n)
    shift c n = grind (arith, nat_tests)

-- what is acknowledged has an index
within_plan : (v u : SenderView) (on : ℕ → Bool) (passed j : ℕ) → IsAfter v u on passed → 0 < j → on j ≡ true → v.cum + j ≤ length v.plan.entries
within_plan v u on passed j a some here = elim (cases_lt (length v.plan.entries) (v.cum + j)) [
  | inl beyond ↦ let off = a.within (v.cum + j) beyond in let same = a.covered j some in absurd (cc)
  | inr le ↦ le
]

reaches_passed : (header : ℕ) (xs : List Item) (v u : SenderView) (on : ℕ → Bool) (passed : ℕ) (t : Tally) → IsAfter v u on passed → IsTallied header xs on t → passed ≤ t.at
reaches_passed header xs v u on passed t a h = elim (cases_lt t.at passed) [
  | inl beyond ↦ let off = h.beyond passed beyond in let here = a.passes in absurd (cc)
  | inr le ↦ le
]

inside_moved : (f : Format) (s : Kept) (v u : SenderView) (on : ℕ → Bool) (passed : ℕ) (t : Tally) → Keeps f s v → IsAfter v u on passed → IsTallied (header_of f) s.items on t → 0 < passed → newest true v u ≡ v.cum + t.at
inside_moved f s v u on passed t k a h some =
    let reach = reaches_passed (header_of f) s.items v u on passed t a h in
    last_at (λ i. is_newly_covered v u i || (true && (moves v u && u.covered i))) (length v.plan.entries) (v.cum + t.at) (omega (arith, reach, some)) (within_plan v u on passed t.at a (omega (arith, reach, some)) h.here) here off
  where
    moved : moves v u ≡ true
    moved = let by : nat_lt 0 passed ≡ true = grind (arith, nat_tests) in sym (moves_is v u on passed a) ∙ by

    here : (is_newly_covered v u (v.cum + t.at) || (true && (moves v u && u.covered (v.cum + t.at)))) ≡ true
    here = let reach = reaches_passed (header_of f) s.items v u on passed t a h in grind (arith, moved, reach, some, a.covered t.at, h.here)

    off : (j : ℕ) → v.cum + t.at < j → j ≤ length v.plan.entries → (is_newly_covered v u j || (true && (moves v u && u.covered j))) ≡ false
    off j lo hi =
        let is : v.cum + (j - v.cum) ≡ j = omega (arith, lo) in
        let none : u.covered j ≡ false = ap u.covered (sym is) ∙ a.covered (j - v.cum) (omega (arith, lo)) ∙ h.beyond (j - v.cum) (omega (arith, lo)) in
        grind (arith, none)

inside_still : (v u : SenderView) (on : ℕ → Bool) (passed : ℕ) → IsAfter v u on passed → passed ≡ 0 → newest true v u ≡ newest false v u
inside_still v u on passed a none =
    let by : nat_lt 0 passed ≡ false = grind (arith, nat_tests) in
    let still : moves v u ≡ false = sym (moves_is v u on passed a) ∙ by in
    last_same (λ i. is_newly_covered v u i || (true && (moves v u && u.covered i))) (λ i. is_newly_covered v u i || (false && (moves v u && u.covered i))) (length v.plan.entries)
    (λ j. ap (λ (b : Bool). is_newly_covered v u j || (b && u.covered j)) still)

-- ---- all of it

index_low : (c n : ℕ) → index_above c n ≤ c + n
index_low c n = grind arith

pub weight_is : (f : Format) (s : Kept) (v u : SenderView) (on : ℕ → Bool) (timed : Option ℕ) (passed : ℕ) (t : Tally) (w : Weight) → Keeps f s v → IsAfter v u on passed → IsTallied (header_of f) s.items on t
    → sum_below (news_weight (header_of f) s.items on) (length s.items) ≤ length s.items * 131072 → w.moved ≡ nat_lt 0 passed → w.cum ≡ (s.cum + passed) % 2 ^ 64 → w.newest ≡ index_above s.cum t.newest % 2 ^ 64
    → (0 < passed → w.newest_in_recovery ≡ index_above s.cum t.at % 2 ^ 64) → (passed ≡ 0 → w.newest_in_recovery ≡ w.newest) → w.bytes ≡ t.bytes
    → IfSome timed (λ i. w.acked ≡ (nat_lt v.cum i && (on (i - v.cum) && not (was_given_up v i)))) → IsWeight f v u timed w
weight_is f s v u on timed passed t w k a h few moved cum newest_here inside_here still_here bytes acked = record {
  moved = moved ∙ moves_is v u on passed a;
  cum = cum ∙ cum_fits (cases_lt 0 passed);
  outside = outside;
  inside = inside (cases_lt 0 passed);
  bytes = bytes ∙ all.bytes ∙ bytes_fit ∙ sym (bytes_all f s v u on passed k a);
  acked = by_timed timed acked;
}
  where
    all : IsAll (header_of f) s.items on t
    all = all_tallied (header_of f) s.items on t h

    most : IsPromised v
    most = is_promised f v k.reached

    long : length s.items + v.cum ≡ length v.plan.entries
    long = kept_length f s v k

    fits : (n : ℕ) → n ≤ length v.plan.entries → n % 2 ^ 64 ≡ n
    fits n le = omega (arith, le, most)

    cum_fits : (0 < passed) ⊎ (passed ≤ 0) → (s.cum + passed) % 2 ^ 64 ≡ u.cum
    cum_fits (inl some) =
        let le = within_plan v u on passed passed a some a.passes in
        ap (λ (c : ℕ). (c + passed) % 2 ^ 64) k.holds.cum ∙ fits (v.cum + passed) le ∙ sym a.cum
    cum_fits (inr none) =
        let low = (is_bounded f v k.reached).within in
        ap (λ (c : ℕ). (c + passed) % 2 ^ 64) k.holds.cum ∙ fits (v.cum + passed) (omega (arith, none, low)) ∙ sym a.cum

    outside : w.newest ≡ newest false v u
    outside =
        let low = index_low v.cum (last_that (is_news s.items on) (length s.items)) in
        let within = last_low (is_news s.items on) (length s.items) in
        newest_here ∙ ap (λ (c : ℕ). index_above c t.newest % 2 ^ 64) k.holds.cum ∙ ap (λ (n : ℕ). index_above v.cum n % 2 ^ 64) all.last
        ∙ fits (index_above v.cum (last_that (is_news s.items on) (length s.items))) (omega (arith, low, within, long)) ∙ sym (outside_is f s v u on passed k a)

    above_some : (c n : ℕ) → 0 < n → index_above c n ≡ c + n
    above_some c zero some = absurd (omega (arith, some))
    above_some c (suc n) some = refl

    inside : (0 < passed) ⊎ (passed ≤ 0) → w.newest_in_recovery ≡ newest true v u
    inside (inl some) =
        let reach = reaches_passed (header_of f) s.items v u on passed t a h in
        let low = within_plan v u on passed t.at a (omega (arith, reach, some)) h.here in
        inside_here some ∙ ap (λ (c : ℕ). index_above c t.at % 2 ^ 64) k.holds.cum ∙ ap (λ (n : ℕ). n % 2 ^ 64) (above_some v.cum t.at (omega (arith, reach, some))) ∙ fits (v.cum + t.at) low
        ∙ sym (inside_moved f s v u on passed t k a h some)
    inside (inr none) = let zero_passed : passed ≡ 0 = omega (arith, none) in still_here zero_passed ∙ outside ∙ sym (inside_still v u on passed a zero_passed)

    bytes_fit : sum_below (news_weight (header_of f) s.items on) (length s.items) % 2 ^ 64 ≡ sum_below (news_weight (header_of f) s.items on) (length s.items)
    bytes_fit = let window = is_windowed f v k.reached in omega (arith, few, window, long)

    acked_at : (i : ℕ) (b : Bool) → nat_lt v.cum i ≡ b → (b && (on (i - v.cum) && not (was_given_up v i))) ≡ (b && (u.covered i && not (was_given_up v i)))
    acked_at i false is = refl
    acked_at i true is =
        let past : v.cum < i = grind (arith, nat_tests) in
        let at : v.cum + (i - v.cum) ≡ i = omega (arith, past) in
        ap (λ (b : Bool). b && not (was_given_up v i)) (sym (a.covered (i - v.cum) (omega (arith, past))) ∙ ap u.covered at)

    by_timed : (o : Option ℕ) → IfSome o (λ i. w.acked ≡ (nat_lt v.cum i && (on (i - v.cum) && not (was_given_up v i)))) → IfSome o (λ i. w.acked ≡ (nat_lt v.cum i && (u.covered i && not (was_given_up v i))))
    by_timed None is = tt
    by_timed (Some i) is = is ∙ acked_at i (nat_lt v.cum i) refl
