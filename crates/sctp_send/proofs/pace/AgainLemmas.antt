-- Which indexes FILL retransmits: of what is kept, entry by entry, and of FILL, wish by wish.
use Rattle.std.proofs.Common.{inl, inr, ◌≡◌, ℕ, zero, suc, ◌+◌, ◌-◌, ◌<◌, ◌≤◌, ◌∙◌, List, [], ◌∷◌, length, take, drop, get_or, set, map, Bool, true, false, Option, Some, None, refl, sym, ap, subst, arith}
use Rattle.std.specs.Prelude.{nat_le, if◌then◌else◌, slice_get, ◌==◌, ◌||◌, ◌&&◌}
use Rattle.std.specs.List.{list_any, All, AllByRecursion}
use Rattle.std.specs.Option.{option_map_or}
use Rattle.std.proofs.lemmas.List.Elements.{All-from_recursion}
use Rattle.std.proofs.lemmas.Bool.{cases_lt}
use Rattle.std.proofs.lemmas.Bool.Decides.{nat_tests}
use Rattle.sctp_model.specs.messages.Format.{Format}
use Rattle.sctp_model.specs.sender.SenderView.{SenderView}
use Rattle.sctp_model.specs.messages.Plan.{entry_at}
use Rattle.sctp_model.specs.sender.Words.{last_that}
use Rattle.sctp_model.specs.sender.Entries.{is_unsent}
use Rattle.sctp_model.specs.sender.Reached.{IsReached, Goes}
use Rattle.sctp_model.specs.sender.Filling.{Wish, standing, next_wish, room_of, may_go, goes, gone, before_these, no_more, fill_at_most, fill}
use Rattle.sctp_model.specs.end.Misses.{last_sent, goes_again}
use Rattle.sctp_model.proofs.sender.WordLaws.{some_is, none_lowest}
use Rattle.sctp_model.proofs.sender.WishCases.{IsAssigned, Whole, Begun, Continued, IsWished, Repeated, Unsent, New, wished_ways, after_wish}
use Rattle.sctp_model.proofs.sender.Bounds.{is_bounded}
use Rattle.sctp_model.proofs.sender.MarkLaws.{is_marked_well}
use Rattle.sctp_model.proofs.sender.FillLaws.{goes_is, goes_not, goes_none, goes_parts, stopped_is_fill, one_fill, fill_is_fill}
use Rattle.sctp_send.specs.SenderKept.{Item, Kept}
use Rattle.sctp_send.specs.SenderStands.{item_here, Keeps}
use Rattle.sctp_send.specs.FillAnswers.{sent_again, AreRising, AreSentAgain}
use Rattle.sctp_send.specs.inner.Newcomers.{gone_item}
use Rattle.sctp_send.specs.inner.Testing.{index_of}
use Rattle.sctp_send.specs.inner.Wishing.{first_offset, is_item_marked}
use Rattle.sctp_send.specs.inner.Weighing.{passes_here, item_room, repeats_from}
use Rattle.sctp_send.proofs.fill.GoneLemmas.{keeps_gone}
use Rattle.sctp_send.proofs.fill.PutLemmas.{pending_next}
use Rattle.sctp_send.proofs.fill.RoomLemmas.{within_window, unsent_new}
use Rattle.sctp_send.proofs.fill.WishLemmas.{none_at_all, marks_agree, none_marked}
use Rattle.sctp_send.proofs.KeepLemmas.{kept_length}
use Rattle.sctp_send.proofs.pace.PaceViews.{index_fits, kept_passes, passing_within}
use Rattle.sctp_send.proofs.pace.RepeatLemmas.{room_some, no_item, room_standing}

-- ---- item by item

-- none is marked before an offset
pub listed_behind : (f : Format) (room i n : ℕ) (xs : List Item) → first_offset is_item_marked (take n xs) ≡ None → repeats_from f room i xs ≡ repeats_from f room (i + n) (drop n xs)
listed_behind f room i zero xs none = let same : i + 0 ≡ i = omega arith in rw same refl
listed_behind f room i (suc n) [] none = refl
listed_behind f room i (suc n) (x ∷ xs) none = let next : suc i + n ≡ i + suc n = omega arith in rw (← next) (grind (arith, listed_behind f room (suc i) n xs))

-- the item at an offset is marked, and fits
pub listed_fit : (f : Format) (room i at : ℕ) (xs : List Item) (x : Item) → slice_get xs at ≡ Some x → x.marked ≡ true → item_room f x ≤ room
    → repeats_from f room i (drop at xs) ≡ i ∷ repeats_from f (room - item_room f x) (suc i) (drop (suc at) xs)
listed_fit f room i at [] x read on le = absurd (cc)
listed_fit f room i zero (y ∷ xs) x read on le = grind (arith, nat_tests, read, on, le)
listed_fit f room i (suc at) (y ∷ xs) x read on le = listed_fit f room i at xs x read on le

-- it is marked, and doesn't fit
pub listed_full : (f : Format) (room i at : ℕ) (xs : List Item) (x : Item) → slice_get xs at ≡ Some x → x.marked ≡ true → room < item_room f x → repeats_from f room i (drop at xs) ≡ []
listed_full f room i at [] x read on lt = absurd (cc)
listed_full f room i zero (y ∷ xs) x read on lt = grind (arith, nat_tests, read, on, lt)
listed_full f room i (suc at) (y ∷ xs) x read on lt = listed_full f room i at xs x read on lt

-- it isn't marked
pub listed_past : (f : Format) (room i at : ℕ) (xs : List Item) (x : Item) → slice_get xs at ≡ Some x → x.marked ≡ false → repeats_from f room i (drop at xs) ≡ repeats_from f room (suc i) (drop (suc at) xs)
listed_past f room i at [] x read off = absurd (cc)
listed_past f room i zero (y ∷ xs) x read off = grind (arith, read, off)
listed_past f room i (suc at) (y ∷ xs) x read off = listed_past f room i at xs x read off

-- none is marked
pub listed_none : (f : Format) (room i : ℕ) (xs : List Item) → first_offset is_item_marked xs ≡ None → repeats_from f room i xs ≡ []
listed_none f room i [] none = refl
listed_none f room i (x ∷ xs) none = grind (arith, listed_none f room (suc i) xs)

listed_nowhere : (f : Format) (i : ℕ) (xs : List Item) → repeats_from f 0 i xs ≡ []
listed_nowhere f i [] = refl
listed_nowhere f i (x ∷ xs) = grind (arith, nat_tests, room_some f x, listed_nowhere f (suc i) xs)

-- the first that is marked goes, if it fits
listed_first : (f : Format) (room i at : ℕ) (xs : List Item) (d : Item) → first_offset is_item_marked xs ≡ Some at
    → repeats_from f room i xs ≡ (if nat_le (item_room f (get_or xs at d)) room then (i + at) ∷ repeats_from f (room - item_room f (get_or xs at d)) i (set xs at (gone_item (get_or xs at d))) else [])
listed_first f room i at [] d is = absurd (cc)
listed_first f room i at (x ∷ xs) d is = grind (arith, λ (k : ℕ). listed_first f room (suc i) k xs d)

-- ---- wish by wish

-- the indexes at these offsets
abbrev pub at_offsets : SenderView → List ℕ → List ℕ
at_offsets v ks = map (λ k. suc (v.cum + k)) ks

-- no index is marked
abbrev pub IsUnmarked : SenderView → Type 0
IsUnmarked v = (i : ℕ) → 0 < i → v.marked i ≡ false

-- then the next wish is no retransmission
sent_off : (f : Format) (v : SenderView) (w : Wish) → IsReached f v → IsUnmarked v → IsWished f v w → w.view.sent w.index ≡ false
sent_off f v _ h none (Repeated i first) = let on = first.passes in let off = none i first.some in absurd (cc)
sent_off f v _ h none (Unsent i marks first) = let e = some_is (is_unsent v i) (entry_at v.plan i) first.passes in let off = e.2 in grind arith
sent_off f v _ h none (New u marks unsent new) = unsent_new f v u h new

unmarked_new : (f : Format) (v u : SenderView) → IsUnmarked v → IsAssigned v f u → IsUnmarked u
unmarked_new _ v _ none (Whole q rest is) = none
unmarked_new _ v _ none (Begun j q lt idle first) = none
unmarked_new _ v _ none (Continued j e lt on) = none

-- and none is marked once it went
unmarked_then : (f : Format) (v : SenderView) (w : Wish) → IsUnmarked v → next_wish f v ≡ Some w → IsUnmarked (gone w)
unmarked_then f v w none next = after_wish IsUnmarked f v w none (λ u a. unmarked_new f v u none a) (λ u i off j some. grind (arith, nat_tests, off j some)) next

-- so none is listed
unmarked_listed : (f : Format) (n room : ℕ) (v : SenderView) → IsReached f v → IsUnmarked v → sent_again (fill_at_most n f room v).wishes ≡ []
unmarked_listed f zero room v h none = refl
unmarked_listed f (suc n) room v h none = by_goes (goes f room v) refl (λ more u reached off. unmarked_listed f n more u reached off)
  where
    by_goes : (o : Option Wish) → goes f room v ≡ o → ((more : ℕ) (u : SenderView) → IsReached f u → IsUnmarked u → sent_again (fill_at_most n f more u).wishes ≡ [])
        → sent_again (option_map_or (λ w. before_these w (fill_at_most n f (room - room_of f w) (gone w))) o (no_more v)).wishes ≡ []
    by_goes None is further = refl
    by_goes (Some w) is further =
        let parts = goes_parts f room v w is in
        let off = sent_off f v w h none (wished_ways f v w parts.0) in
        let rest = further (room - room_of f w) (gone w) (Goes v room w h parts.0 parts.1) (unmarked_then f v w none parts.0) in
        ap (λ (b : Bool). if b then w.index ∷ sent_again (fill_at_most n f (room - room_of f w) (gone w)).wishes else sent_again (fill_at_most n f (room - room_of f w) (gone w)).wishes) off ∙ rest

kept_unmarked : (f : Format) (s : Kept) (v : SenderView) → Keeps f s v → first_offset is_item_marked s.items ≡ None → IsUnmarked v
kept_unmarked f s v k none i some = elim (cases_lt (length v.plan.entries) i) [
  | inl past ↦ (is_bounded f v k.reached).unmarked i past
  | inr low ↦ none_lowest v.marked (length v.plan.entries) (none_at_all f s v is_item_marked v.marked k (marks_agree v) (none_marked f v (is_bounded f v k.reached)) none) i some low
]

-- where none is marked
pub fill_unmarked : (f : Format) (n room : ℕ) (s : Kept) (v : SenderView) → Keeps f s v → first_offset is_item_marked s.items ≡ None → sent_again (fill_at_most n f room v).wishes ≡ []
fill_unmarked f n room s v k none = unmarked_listed f n room v k.reached (kept_unmarked f s v k none)

pub fill_again : (f : Format) (n room : ℕ) (s : Kept) (v : SenderView) → Keeps f s v → room ≤ n → sent_again (fill_at_most n f room v).wishes ≡ at_offsets v (repeats_from f room 0 s.items)
fill_again f zero room s v k le = let none : room ≡ 0 = omega arith in rw none (ap (at_offsets v) (sym (listed_nowhere f 0 s.items)))
fill_again f (suc n) room s v k le = by_first (first_offset is_item_marked s.items) refl (λ more t u kept less. fill_again f n more t u kept less)
  where
    Rest : Type 0
    Rest = (more : ℕ) (t : Kept) (u : SenderView) → Keeps f t u → more ≤ n → sent_again (fill_at_most n f more u).wishes ≡ at_offsets u (repeats_from f more 0 t.items)

    Filled : Option Wish → List ℕ
    Filled o = sent_again (option_map_or (λ w. before_these w (fill_at_most n f (room - room_of f w) (gone w))) o (no_more v)).wishes

    by_fit : (at : ℕ) (b : Bool) → first_offset is_item_marked s.items ≡ Some at → nat_le (item_room f (get_or s.items at no_item)) room ≡ b → Rest → Filled (goes f room v) ≡ at_offsets v (repeats_from f room 0 s.items)
    by_fit at true is fits rest =
        let w = standing v (suc (v.cum + at)) in
        let next = pending_next f s v at true no_item k is in
        let takes = room_standing f s v at k next.0 in
        let may : may_go f room w ≡ true = rw (next.1.sent, within_window f v k.reached, takes, fits) refl in
        let goes_now = goes_is f room v w next.1.next may in
        let kept = keeps_gone f s v room at no_item k goes_now next.0 in
        let some = room_some f (get_or s.items at no_item) in
        let further = rest (room - room_of f w) _ (gone w) kept (omega (arith, le, some, takes)) in
        let others = sent_again (fill_at_most n f (room - room_of f w) (gone w)).wishes in
        let zeroed : 0 + at ≡ at = omega arith in
        let first : suc (v.cum + at) ∷ at_offsets v (repeats_from f (room - room_of f w) 0 (set s.items at (gone_item (get_or s.items at no_item)))) ≡ at_offsets v (repeats_from f room 0 s.items) =
        rw (takes, listed_first f room 0 at s.items no_item is, fits, zeroed) refl in
        ap Filled goes_now ∙ ap (λ (b : Bool). if b then suc (v.cum + at) ∷ others else others) next.1.sent ∙ ap (λ (is : List ℕ). suc (v.cum + at) ∷ is) further ∙ first
    by_fit at false is full rest =
        let w = standing v (suc (v.cum + at)) in
        let next = pending_next f s v at true no_item k is in
        let takes = room_standing f s v at k next.0 in
        let may : may_go f room w ≡ false = rw (takes, full) refl in
        ap Filled (goes_not f room v w next.1.next may) ∙ rw (listed_first f room 0 at s.items no_item is, full) refl

    by_first : (o : Option ℕ) → first_offset is_item_marked s.items ≡ o → Rest → Filled (goes f room v) ≡ at_offsets v (repeats_from f room 0 s.items)
    by_first None is rest = fill_unmarked f (suc n) room s v k is ∙ ap (at_offsets v) (sym (listed_none f room 0 s.items is))
    by_first (Some at) is rest = by_fit at (nat_le (item_room f (get_or s.items at no_item)) room) is refl rest

-- ---- what is listed

-- by indexes as the code has them
pub listed_indexes : (f : Format) (room c d i : ℕ) (xs : List Item) → ((k : ℕ) → k < i + length xs → index_of c k ≡ suc (d + k)) → map (index_of c) (repeats_from f room i xs) ≡ map (λ k. suc (d + k)) (repeats_from f room i xs)
listed_indexes f room c d i [] same = refl
listed_indexes f room c d i (x ∷ xs) same = by_mark x.marked (nat_le (item_room f x) room) (λ more. listed_indexes f more c d (suc i) xs (λ k lt. same k (omega (arith, lt))))
  where
    Listed : Bool → Bool → List ℕ
    Listed marked fits = if marked then (if fits then i ∷ repeats_from f (room - item_room f x) (suc i) xs else []) else repeats_from f room (suc i) xs

    by_mark : (marked fits : Bool) → ((more : ℕ) → map (index_of c) (repeats_from f more (suc i) xs) ≡ map (λ k. suc (d + k)) (repeats_from f more (suc i) xs))
        → map (index_of c) (Listed marked fits) ≡ map (λ k. suc (d + k)) (Listed marked fits)
    by_mark true true further = let first = same i (omega arith) in rw (first, further (room - item_room f x)) refl
    by_mark true false further = refl
    by_mark false fits further = further room

-- they rise
pub listed_rising : (f : Format) (room d i b : ℕ) (xs : List Item) → b ≤ d + i → AreRising b (map (λ k. suc (d + k)) (repeats_from f room i xs))
listed_rising f room d i b [] le = tt
listed_rising f room d i b (x ∷ xs) le = by_mark x.marked (nat_le (item_room f x) room) (λ more c low. listed_rising f more d (suc i) c xs low)
  where
    Listed : Bool → Bool → List ℕ
    Listed marked fits = if marked then (if fits then i ∷ repeats_from f (room - item_room f x) (suc i) xs else []) else repeats_from f room (suc i) xs

    by_mark : (marked fits : Bool) → ((more c : ℕ) → c ≤ d + suc i → AreRising c (map (λ k. suc (d + k)) (repeats_from f more (suc i) xs))) → AreRising b (map (λ k. suc (d + k)) (Listed marked fits))
    by_mark true true further = (omega arith, further (room - item_room f x) (suc (d + i)) (omega arith))
    by_mark true false further = tt
    by_mark false fits further = further room b (omega arith)

-- each is marked
pub listed_marked : (f : Format) (room d i last : ℕ) (xs : List Item) → ((k : ℕ) (x : Item) → slice_get xs k ≡ Some x → x.marked ≡ true → suc (d + (i + k)) ≤ last)
    → AllByRecursion (λ j. j ≤ last) (map (λ k. suc (d + k)) (repeats_from f room i xs))
listed_marked f room d i last [] each = tt
listed_marked f room d i last (x ∷ xs) each =
    by_mark x.marked refl (nat_le (item_room f x) room) (λ more. listed_marked f more d (suc i) last xs (λ k y get on. let next : suc i + k ≡ i + suc k = omega arith in rw next (each (suc k) y get on)))
  where
    Listed : Bool → Bool → List ℕ
    Listed marked fits = if marked then (if fits then i ∷ repeats_from f (room - item_room f x) (suc i) xs else []) else repeats_from f room (suc i) xs

    by_mark : (marked : Bool) → x.marked ≡ marked → (fits : Bool) → ((more : ℕ) → AllByRecursion (λ j. j ≤ last) (map (λ k. suc (d + k)) (repeats_from f more (suc i) xs)))
        → AllByRecursion (λ j. j ≤ last) (map (λ k. suc (d + k)) (Listed marked fits))
    by_mark true on true further = (let zeroed : i + 0 ≡ i = omega arith in rw zeroed at (each 0 x refl on), further (room - item_room f x))
    by_mark true on false further = tt
    by_mark false off fits further = further room

last_least : (on : ℕ → Bool) (n i : ℕ) → on i ≡ true → i ≤ n → i ≤ last_that on n
last_least on zero i here le = omega arith
last_least on (suc n) i here le = by_last (on (suc n)) refl (λ low. last_least on n i here low)
  where
    by_last : (b : Bool) → on (suc n) ≡ b → (i ≤ n → i ≤ last_that on n) → i ≤ (if b then suc n else last_that on n)
    by_last true last further = le
    by_last false last further = further (elim (cases_lt i (suc n)) [
      | inl lt ↦ omega (arith, lt)
      | inr past ↦ absurd (let same : i ≡ suc n = omega (arith, le, past) in let off = rw same at here in cc)
    ])

-- what is marked was sent
marked_sent : (f : Format) (s : Kept) (v : SenderView) (k : ℕ) (x : Item) → Keeps f s v → slice_get s.items k ≡ Some x → x.marked ≡ true → suc (v.cum + k) ≤ last_sent v
marked_sent f s v k x h get on =
    let i = suc (v.cum + k) in
    let passes : passes_here is_item_marked s.items k ≡ true = rw get on in
    let there = kept_passes f s v is_item_marked k h in
    let e = some_is (λ e. is_item_marked (item_here v i e)) (entry_at v.plan i) (sym there ∙ passes) in
    let long = kept_length f s v h in
    let within = passing_within is_item_marked s.items k passes in
    last_least v.sent (length v.plan.entries) i ((is_marked_well f v h.reached).sent i e.2) (omega (arith, long, within))

-- the wishes say the same of each index
again_said : (ws : List Wish) (i : ℕ) → list_any (λ j. j == i) (sent_again ws) ≡ goes_again ws i
again_said [] i = refl
again_said (w ∷ ws) i = by_kind (w.view.sent w.index) (again_said ws i)
  where
    by_kind : (b : Bool) → list_any (λ j. j == i) (sent_again ws) ≡ goes_again ws i → list_any (λ j. j == i) (if b then w.index ∷ sent_again ws else sent_again ws) ≡ ((b && (w.index == i)) || goes_again ws i)
    by_kind true rest = ap (λ (b : Bool). (w.index == i) || b) rest
    by_kind false rest = rest

-- What the code lists before it fills a packet is what it retransmits.
pub listed_again : (f : Format) (s : Kept) (v : SenderView) (room : ℕ) (xs : List Item) (is : List ℕ) → Keeps f s v → xs ≡ s.items → is ≡ map (index_of s.cum) (repeats_from f room 0 xs) → AreSentAgain v (fill f room v).wishes is
listed_again f s v room xs is k items listed =
    let here : is ≡ at_offsets v (repeats_from f room 0 s.items) =
    listed ∙ ap (λ (ys : List Item). map (index_of s.cum) (repeats_from f room 0 ys)) items ∙ listed_indexes f room s.cum v.cum 0 s.items (λ j lt. index_fits f s v j k (omega (arith, lt))) in
    let exact : is ≡ sent_again (fill f room v).wishes = here ∙ sym (fill_again f room room s v k (omega arith)) in
    record {
      exact = exact;
      those = λ i. ap (list_any (λ j. j == i)) exact ∙ again_said (fill f room v).wishes i;
      rising = subst (AreRising v.cum) (sym here) (listed_rising f room v.cum 0 v.cum s.items (omega arith));
      within = subst (All (λ i. i ≤ last_sent v)) (sym here) (All-from_recursion (λ i. i ≤ last_sent v) _
          (listed_marked f room v.cum 0 (last_sent v) s.items (λ j x get on. let zeroed : 0 + j ≡ j = omega arith in rw zeroed (marked_sent f s v j x k get on))));
    }

-- ---- where nothing is sent

-- no wish may go
pub nothing_goes : (f : Format) (room : ℕ) (v : SenderView) → goes f room v ≡ None → [] ≡ (fill f room v).wishes
nothing_goes f room v none = (one_fill f v v (fill f room v).view room [] (fill f room v).wishes (stopped_is_fill f v v room [] refl none) (fill_is_fill f room v)).0

-- there is none
pub nothing_filled : (f : Format) (room : ℕ) (v : SenderView) → next_wish f v ≡ None → [] ≡ (fill f room v).wishes
nothing_filled f room v none = nothing_goes f room v (goes_none f room v none)

-- so nothing is sent again
pub none_again : (v : SenderView) (ws : List Wish) (is : List ℕ) → is ≡ [] → [] ≡ ws → AreSentAgain v ws is
none_again v ws is none nothing =
    subst (λ (xs : List Wish). AreSentAgain v xs is) nothing
    (subst (λ (js : List ℕ). AreSentAgain v [] js) (sym none) (record { exact = refl; those = λ i. refl; rising = tt; within = All-from_recursion (λ i. i ≤ last_sent v) [] tt }))
