-- What marks leave of what is kept, and a sender that was given nothing.
use Rattle.std.proofs.Common.{◌≡◌, ℕ, zero, suc, ◌+◌, ◌-◌, ◌<◌, ◌≤◌, List, [], ◌∷◌, length, map, drop, Bool, true, false, Some, None, refl, sym, ap, ◌∙◌, arith}
use Rattle.std.specs.Prelude.{◌&&◌, ◌||◌, nat_le, nat_lt, if◌then◌else◌, slice_get, replicate}
use Rattle.std.proofs.lemmas.Bool.Decides.{nat_tests}
use Rattle.sctp_model.specs.messages.Format.{Format}
use Rattle.sctp_model.specs.messages.Plan.{Entry, entry_at}
use Rattle.sctp_model.specs.sender.SenderView.{SenderView, fresh_sender}
use Rattle.sctp_model.specs.sender.Words.{some_passes}
use Rattle.sctp_model.specs.sender.Entries.{is_in_flight, passes_at}
use Rattle.sctp_model.specs.sender.Abandoning.{is_to_repeat, marking}
use Rattle.sctp_model.specs.sender.Reached.{Begins, Repeats}
use Rattle.sctp_model.proofs.sender.OwedLaws.{sum-zero}
use Rattle.sctp_model.proofs.sender.PointLaws.{get-drop}
use Rattle.sctp_model.specs.sender.Queueing.{owed_by_queue, owed_by_parts}
use Rattle.sctp_send.specs.SenderKept.{Item, Kept}
use Rattle.sctp_send.specs.SenderStands.{table, track_here, item_here, items_from, Keeps, plain_limits}
use Rattle.sctp_send.specs.OutstandingFields.{item_meaning}
use Rattle.sctp_send.specs.inner.Dues.{some_late, standing_message, standing_messages, is_asleep}
use Rattle.sctp_send.specs.inner.Walks.{any_item}
use Rattle.sctp_send.specs.inner.Marking.{AreCapped}
use Rattle.sctp_send.specs.declared.kept.entry.Entry.{Entry as EntryFields}
use Rattle.sctp_send.proofs.TableLemmas.{table-replicate}
use Rattle.sctp_send.proofs.sack.MarkLemmas.{timed_item, timed_items}
use Rattle.sctp_send.proofs.OverLemmas.{no_rests}
use Rattle.sctp_send.proofs.DueLemmas.{late_no_rests}

-- ---- marks

-- each entry says how often its index was retransmitted
pub capped_from : (size : ℕ) (v : SenderView) (j : ℕ) (es : List EntryFields) (ds : List Entry) → map (item_meaning size) es ≡ items_from v (suc (v.cum + j)) ds → AreCapped (λ k. v.repeats (suc (v.cum + k))) j es
capped_from size v j [] ds is = tt
capped_from size v j (e ∷ es) [] is = absurd (cc)
capped_from size v j (e ∷ es) (d ∷ ds) is =
    let next : suc (suc (v.cum + j)) ≡ suc (v.cum + suc j) = omega arith in
    let head : item_meaning size e ≡ item_here v (suc (v.cum + j)) d = cc in
    let tail : map (item_meaning size) es ≡ items_from v (suc (suc (v.cum + j))) ds = cc in
    (ap (λ (x : Item). x.repeats) head, capped_from size v (suc j) es ds (tail ∙ ap (λ (i : ℕ). items_from v i ds) next))

pub kept_capped : (f : Format) (s : Kept) (v : SenderView) (size : ℕ) (es : List EntryFields) → Keeps f s v → s.items ≡ map (item_meaning size) es → AreCapped (λ k. v.repeats (suc (v.cum + k))) 0 es
kept_capped f s v size es k is = let zeroed : v.cum + 0 ≡ v.cum = omega arith in capped_from size v 0 es (drop v.cum v.plan.entries) (rw zeroed (sym is ∙ k.holds.items))

-- a mark leaves the message
marked_message : (p : Bool) (r : ℕ) (x : Item) (b : Bool) → (if b then timed_item p r x else x).message ≡ x.message
marked_message p r x true = refl
marked_message p r x false = refl

marked_standing : (a p : Bool) (r : ℕ) (x : Item) (b : Bool) → standing_message a (if b then timed_item p r x else x) ≡ standing_message a x
marked_standing a p r x true = refl
marked_standing a p r x false = refl

same_timed : (t : ℕ) (p : Bool) (rs : ℕ → ℕ) (test : ℕ → Bool) (i : ℕ) (xs : List Item) → any_item t (timed_items p rs test i xs) ≡ any_item t xs
same_timed t p rs test i [] = refl
same_timed t p rs test i (x ∷ xs) = rw (marked_message p (rs i) x (test i), same_timed t p rs test (suc i) xs) refl

late_timed : (now t : ℕ) (a p : Bool) (rs : ℕ → ℕ) (test : ℕ → Bool) (i : ℕ) (xs : List Item) → some_late now t (standing_messages a (timed_items p rs test i xs)) ≡ some_late now t (standing_messages a xs)
late_timed now t a p rs test i [] = refl
late_timed now t a p rs test i (x ∷ xs) = rw (marked_standing a p (rs i) x (test i), late_timed now t a p rs test (suc i) xs) refl

length-timed : (p : Bool) (rs : ℕ → ℕ) (test : ℕ → Bool) (i : ℕ) (xs : List Item) → length (timed_items p rs test i xs) ≡ length xs
length-timed p rs test i [] = refl
length-timed p rs test i (x ∷ xs) = ap suc (length-timed p rs test (suc i) xs)

-- the items of the view with its marks
timed-items_from : (v : SenderView) (test t : ℕ → Bool) (j : ℕ) (es : List Entry) → ((k : ℕ) (e : Entry) → slice_get es k ≡ Some e → is_in_flight v (suc (v.cum + (j + k))) e ≡ true → t (j + k) ≡ test (suc (v.cum + (j + k))))
    → ((k : ℕ) → k < length es → entry_at v.plan (suc (v.cum + (j + k))) ≡ slice_get es k)
    → timed_items v.partial (λ k. v.repeats (suc (v.cum + k))) t j (items_from v (suc (v.cum + j)) es) ≡ items_from (marking v test) (suc (v.cum + j)) es
timed-items_from v test t j [] tells there = refl
timed-items_from v test t j (e ∷ es) tells there =
    let zeroed : j + 0 ≡ j = omega arith in
    let next : suc (suc (v.cum + j)) ≡ suc (v.cum + suc j) = omega arith in
    let here : entry_at v.plan (suc (v.cum + j)) ≡ Some e = rw zeroed at (there 0 (omega arith)) in
    let passes : is_in_flight v (suc (v.cum + j)) e ≡ true → t j ≡ test (suc (v.cum + j)) = rw zeroed at (tells 0 e refl) in
    let rest = timed-items_from v test t (suc j) es
    (λ k x get flies. let more : suc j + k ≡ j + suc k = omega arith in rw more (tells (suc k) x get (rw more at flies)))
    (λ k lt. let more : suc j + k ≡ j + suc k = omega arith in rw more (there (suc k) (omega arith))) in
    rw (here, next, rest) (ap (λ (x : Item). x ∷ items_from (marking v test) (suc (v.cum + suc j)) es) (one (suc (v.cum + j)) (t j) (test (suc (v.cum + j))) passes))
  where
    one : (i : ℕ) (b c : Bool) → (is_in_flight v i e ≡ true → b ≡ c)
        → (if b then timed_item v.partial (v.repeats i) (item_here v i e) else item_here v i e) ≡ record (item_here v i e) { marked = v.marked i || (c && is_to_repeat v i e) }
    one i b c same = grind (arith, same)

-- What is kept once the entries at some offsets are marked, where of what is in flight the test passes their indexes alone.
pub keeps_marked : (f : Format) (s : Kept) (v : SenderView) (test t : ℕ → Bool) → Keeps f s v
    → ((k : ℕ) → k < length s.items → passes_at v.plan (is_in_flight v) (suc (v.cum + k)) ≡ true → t k ≡ test (suc (v.cum + k)))
    → Keeps f (record s { items = timed_items s.partial (λ k. v.repeats (suc (v.cum + k))) t 0 s.items }) (marking v test)
keeps_marked f s v test within k tells =
    let rs : ℕ → ℕ = λ j. v.repeats (suc (v.cum + j)) in
    let zeroed : v.cum + 0 ≡ v.cum = omega arith in
    let many : length s.items ≡ length (drop v.cum v.plan.entries) = ap (λ (xs : List Item). length xs) k.holds.items ∙ count_from v (suc v.cum) (drop v.cum v.plan.entries) in
    let marks : timed_items v.partial rs within 0 (items_from v (suc v.cum) (drop v.cum v.plan.entries)) ≡ items_from (marking v test) (suc v.cum) (drop v.cum v.plan.entries) =
    rw zeroed at (timed-items_from v test within 0 (drop v.cum v.plan.entries)
    (λ j e get flies. let zero_on : 0 + j ≡ j = omega arith in rw zero_on (tells j (omega (arith, many, get_within (drop v.cum v.plan.entries) j e get)) (ap (some_passes (is_in_flight v (suc (v.cum + j)))) (get-drop v.cum v.plan.entries j ∙ get) ∙ rw zero_on at flies)))
    (λ j lt. let zero_on : 0 + j ≡ j = omega arith in rw zero_on (get-drop v.cum v.plan.entries j))) in
    let long = length-timed s.partial rs within 0 s.items in
    let room = k.holds.room in
    let items : timed_items s.partial rs within 0 s.items ≡ items_from (marking v test) (suc v.cum) (drop v.cum v.plan.entries) = ap (λ (p : Bool). timed_items p rs within 0 s.items) k.holds.partial ∙ ap (timed_items v.partial rs within 0) k.holds.items ∙ marks in
    let space : length (timed_items s.partial rs within 0 s.items) + (owed_by_queue v.queue + owed_by_parts v) ≤ s.capacity = omega (arith, long, room) in
    record {
      holds = assumption (k.holds, items, space);
      over = record { within = k.over.within; each = λ t le. let o = k.over.each t le in record { queue = o.queue; tracks = o.tracks; items = same_timed t s.partial rs within 0 s.items ∙ o.items } };
      due = record { many = k.due.many; each = λ t now lt. let i = k.due.each t now lt in record { queue = i.queue; items = λ on. late_timed now t (is_asleep s t) s.partial rs within 0 s.items ∙ i.items on; tracks = i.tracks } };
      forward = k.forward;
      resets = k.resets;
      before = k.before;
      counted = k.counted;
      limits = k.limits;
      reached = Repeats v test k.reached;
    }
  where
    count_from : (u : SenderView) (i : ℕ) (es : List Entry) → length (items_from u i es) ≡ length es
    count_from u i [] = refl
    count_from u i (e ∷ es) = ap suc (count_from u (suc i) es)

    get_within : (es : List Entry) (j : ℕ) (e : Entry) → slice_get es j ≡ Some e → j < length es
    get_within [] j e get = absurd (cc)
    get_within (d ∷ ds) zero e get = omega arith
    get_within (d ∷ ds) (suc j) e get = let lt = get_within ds j e get in omega (arith, lt)

-- ---- ranges of indexes

-- offsets from an index on, below another
pub offsets_between : (cum from below k : ℕ) → (nat_le (from - cum - 1) k && nat_lt k (below - cum - 1)) ≡ (nat_le from (suc (cum + k)) && nat_lt (suc (cum + k)) below)
offsets_between cum from below k = grind (arith, nat_tests)

-- all offsets
pub offsets_all : (last k : ℕ) → k < last → ((nat_le 0 k && nat_lt k last) && true) ≡ true
offsets_all last k lt = grind (arith, nat_tests)

-- a sender that was given nothing
pub keeps_fresh : (f : Format) (initial streams fragment rwnd capacity : ℕ) (partial : Bool) → 0 < fragment
    → Keeps f (record { initial = initial; streams = streams; fragment = fragment; partial = partial; cum = 0; rwnd = rwnd; turn = 0; items = []; queue = []; tracks = replicate streams (record { ordered = 0; unordered = 0; rest = None }); fates = []; ended = 0; abandoned = 0; runs = Some []; capacity = capacity; passed = 0; moments = []; asleep = false; before = 0; forward = None; resets = record { table = None } })
    (fresh_sender initial streams fragment rwnd partial plain_limits)
keeps_fresh f initial streams fragment rwnd capacity partial large =
    let v = fresh_sender initial streams fragment rwnd partial plain_limits in
    let tracks : table (track_here v) 0 streams ≡ replicate streams (record { ordered = 0; unordered = 0; rest = None }) = table-replicate _ 0 streams in
    let room : 0 + (owed_by_queue [] + owed_by_parts v) ≤ capacity = let none = sum-zero (λ j. 0) streams (λ j. refl) in omega (arith, none) in record {
      holds = assumption (sym tracks, room);
      over = record { within = omega arith; each = λ t le. record { queue = refl; tracks = no_rests t streams; items = refl } };
      due = record { many = refl; each = λ t now lt. record { queue = refl; items = λ on. refl; tracks = λ on. late_no_rests now t streams } };
      forward = tt;
      resets = record { base = refl; sending = λ s low. refl; made = refl; pending = refl; last = refl; table = tt };
      before = refl;
      counted = refl;
      limits = refl;
      reached = Begins initial streams fragment rwnd partial plain_limits large;
    }
