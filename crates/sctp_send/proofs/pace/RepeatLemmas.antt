-- The space that retransmissions take: of what is kept, entry by entry, and of FILL, wish by wish.
use Rattle.std.proofs.Common.{◌≡◌, ℕ, zero, suc, ◌+◌, ◌-◌, ◌<◌, ◌≤◌, ◌∙◌, List, [], ◌∷◌, length, take, drop, get_or, set, Bool, true, false, Option, Some, None, refl, sym, ap, arith}
use Rattle.std.specs.Prelude.{nat_le, if◌then◌else◌, slice_get, option_map}
use Rattle.std.specs.Option.{option_map_or}
use Rattle.std.proofs.lemmas.Bool.Decides.{nat_tests}
use Rattle.sctp_model.specs.messages.Format.{Format, Plain, Interleaved, Lane, ordered_lane}
use Rattle.sctp_model.specs.messages.Plan.{End}
use Rattle.sctp_model.specs.wire.Chunk.{size_of_chunk}
use Rattle.sctp_model.specs.sender.SenderView.{SenderView}
use Rattle.sctp_model.specs.sender.Filling.{Wish, standing, newcomer, next_wish, room_of, may_go, goes, gone, before_these, no_more, fill_at_most}
use Rattle.sctp_model.specs.sender.Assigning.{assigned}
use Rattle.sctp_model.specs.end.Control.{room_of_repeats}
use Rattle.sctp_model.proofs.sender.FillLaws.{goes_is, goes_not, goes_parts}
use Rattle.sctp_send.specs.SenderKept.{Item, Kept}
use Rattle.sctp_send.specs.SenderStands.{Keeps}
use Rattle.sctp_send.specs.inner.Newcomers.{gone_item}
use Rattle.sctp_send.specs.ResetsKept.{base_of}
use Rattle.sctp_send.specs.inner.Stocking.{said_chunk}
use Rattle.sctp_send.specs.inner.Wishing.{first_offset, is_item_marked, is_item_unsent}
use Rattle.sctp_send.specs.inner.Weighing.{item_room, repeats_room}
use Rattle.sctp_send.proofs.fill.GoneLemmas.{keeps_gone}
use Rattle.sctp_send.proofs.fill.ChunkLemmas.{chunk_standing}
use Rattle.sctp_send.proofs.fill.PutLemmas.{pending_next}
use Rattle.sctp_send.proofs.fill.WishLemmas.{wish_new}
use Rattle.sctp_send.proofs.fill.RoomLemmas.{within_window, unsent_new}

-- ---- item by item

-- none is marked before an offset
pub repeats_behind : (f : Format) (room n : ℕ) (xs : List Item) → first_offset is_item_marked (take n xs) ≡ None → repeats_room f room xs ≡ repeats_room f room (drop n xs)
repeats_behind f room zero xs none = refl
repeats_behind f room (suc n) [] none = refl
repeats_behind f room (suc n) (x ∷ xs) none = grind (arith, repeats_behind f room n xs)

-- the item at an offset is marked, and fits
pub repeats_fit : (f : Format) (room at : ℕ) (xs : List Item) (x : Item) → slice_get xs at ≡ Some x → x.marked ≡ true → item_room f x ≤ room → repeats_room f room (drop at xs) ≡ item_room f x + repeats_room f (room - item_room f x) (drop (suc at) xs)
repeats_fit f room at [] x read on le = absurd (cc)
repeats_fit f room zero (y ∷ xs) x read on le = grind (arith, nat_tests, read, on, le)
repeats_fit f room (suc at) (y ∷ xs) x read on le = repeats_fit f room at xs x read on le

-- it is marked, and doesn't fit
pub repeats_full : (f : Format) (room at : ℕ) (xs : List Item) (x : Item) → slice_get xs at ≡ Some x → x.marked ≡ true → room < item_room f x → repeats_room f room (drop at xs) ≡ 0
repeats_full f room at [] x read on lt = absurd (cc)
repeats_full f room zero (y ∷ xs) x read on lt = grind (arith, nat_tests, read, on, lt)
repeats_full f room (suc at) (y ∷ xs) x read on lt = repeats_full f room at xs x read on lt

-- it isn't marked
pub repeats_past : (f : Format) (room at : ℕ) (xs : List Item) (x : Item) → slice_get xs at ≡ Some x → x.marked ≡ false → repeats_room f room (drop at xs) ≡ repeats_room f room (drop (suc at) xs)
repeats_past f room at [] x read off = absurd (cc)
repeats_past f room zero (y ∷ xs) x read off = grind (arith, read, off)
repeats_past f room (suc at) (y ∷ xs) x read off = repeats_past f room at xs x read off

-- none is marked
repeats_none : (f : Format) (room : ℕ) (xs : List Item) → first_offset is_item_marked xs ≡ None → repeats_room f room xs ≡ 0
repeats_none f room [] none = refl
repeats_none f room (x ∷ xs) none = grind (arith, repeats_none f room xs)

-- a chunk takes some room
pub room_some : (f : Format) (x : Item) → 0 < item_room f x
room_some Plain x = omega arith
room_some Interleaved x = omega arith

repeats_nowhere : (f : Format) (xs : List Item) → repeats_room f 0 xs ≡ 0
repeats_nowhere f [] = refl
repeats_nowhere f (x ∷ xs) = grind (arith, nat_tests, room_some f x, repeats_nowhere f xs)

-- the first that is marked goes, if it fits
repeats_first : (f : Format) (room at : ℕ) (xs : List Item) (d : Item) → first_offset is_item_marked xs ≡ Some at
    → repeats_room f room xs ≡ (if nat_le (item_room f (get_or xs at d)) room then item_room f (get_or xs at d) + repeats_room f (room - item_room f (get_or xs at d)) (set xs at (gone_item (get_or xs at d))) else 0)
repeats_first f room at [] d is = absurd (cc)
repeats_first f room at (x ∷ xs) d is = grind (arith, λ (k : ℕ). repeats_first f room k xs d)

-- ---- wish by wish

pub no_item : Item
no_item = record { entry = End (ordered_lane 0) 0; message = None; sent = false; marked = false; covered = false; abandoned = false; repeats = 0 }

room_said : (f : Format) (base : Lane → ℕ) (initial i : ℕ) (x : Item) → size_of_chunk (said_chunk f base initial i x.entry x.message) ≡ item_room f x
room_said Plain base initial i x = refl
room_said Interleaved base initial i x = refl

pub room_standing : (f : Format) (s : Kept) (v : SenderView) (at : ℕ) → Keeps f s v → at < length s.items → room_of f (standing v (suc (v.cum + at))) ≡ item_room f (get_or s.items at no_item)
room_standing f s v at k low = ap size_of_chunk (chunk_standing f s v at no_item k low) ∙ room_said f (base_of s.resets) s.initial (suc (s.cum + at)) (get_or s.items at no_item)

-- what isn't a retransmission counts as nothing
new_counts_nothing : (f : Format) (n room : ℕ) (v : SenderView) → ((w : Wish) → next_wish f v ≡ Some w → w.view.sent w.index ≡ false) → room_of_repeats f (fill_at_most n f room v).wishes ≡ 0
new_counts_nothing f zero room v new = refl
new_counts_nothing f (suc n) room v new = grind (arith, new, λ (w : Wish). goes_parts f room v w)

some_same : (x y : Wish) → Some x ≡ Some y → x ≡ y
some_same x y is = cc

pub fill_repeats : (f : Format) (n room : ℕ) (s : Kept) (v : SenderView) → Keeps f s v → room ≤ n → room_of_repeats f (fill_at_most n f room v).wishes ≡ repeats_room f room s.items
fill_repeats f zero room s v k le = let none : room ≡ 0 = omega arith in rw none (sym (repeats_nowhere f s.items))
fill_repeats f (suc n) room s v k le = by_first (first_offset is_item_marked s.items) refl (λ more t u kept less. fill_repeats f n more t u kept less)
  where
    none_new : first_offset is_item_marked s.items ≡ None → (w : Wish) → next_wish f v ≡ Some w → w.view.sent w.index ≡ false
    none_new none w next = by_unsent (first_offset is_item_unsent s.items) refl
      where
        by_assigned : (o : Option SenderView) → assigned f v ≡ o → option_map (newcomer v) o ≡ Some w → w.view.sent w.index ≡ false
        by_assigned None is some = absurd (cc)
        by_assigned (Some u) is some = ap (λ (x : Wish). x.view.sent x.index) (sym (some_same (newcomer v u) w some)) ∙ unsent_new f v u k.reached is

        by_unsent : (o : Option ℕ) → first_offset is_item_unsent s.items ≡ o → w.view.sent w.index ≡ false
        by_unsent (Some at) is =
            let r = (pending_next f s v at false no_item k (none, is)).1 in
            ap (λ (x : Wish). x.view.sent x.index) (sym (some_same (standing v (suc (v.cum + at))) w (sym r.next ∙ next))) ∙ r.sent
        by_unsent None is = by_assigned (assigned f v) refl (sym (wish_new f s v k none is) ∙ next)

    Rest : Type 0
    Rest = (more : ℕ) (t : Kept) (u : SenderView) → Keeps f t u → more ≤ n → room_of_repeats f (fill_at_most n f more u).wishes ≡ repeats_room f more t.items

    Filled : Option Wish → ℕ
    Filled o = room_of_repeats f (option_map_or (λ w. before_these w (fill_at_most n f (room - room_of f w) (gone w))) o (no_more v)).wishes

    by_fit : (at : ℕ) (b : Bool) → first_offset is_item_marked s.items ≡ Some at → nat_le (item_room f (get_or s.items at no_item)) room ≡ b → Rest → Filled (goes f room v) ≡ repeats_room f room s.items
    by_fit at true is fits rest =
        let w = standing v (suc (v.cum + at)) in
        let next = pending_next f s v at true no_item k is in
        let takes = room_standing f s v at k next.0 in
        let may : may_go f room w ≡ true = rw (next.1.sent, within_window f v k.reached, takes, fits) refl in
        let goes_now = goes_is f room v w next.1.next may in
        let kept = keeps_gone f s v room at no_item k goes_now next.0 in
        let some = room_some f (get_or s.items at no_item) in
        let further = rest (room - room_of f w) _ (gone w) kept (omega (arith, le, some, takes)) in
        let others = room_of_repeats f (fill_at_most n f (room - room_of f w) (gone w)).wishes in
        let first : room_of f w + repeats_room f (room - room_of f w) (set s.items at (gone_item (get_or s.items at no_item))) ≡ repeats_room f room s.items = rw (takes, repeats_first f room at s.items no_item is, fits) refl in
        ap Filled goes_now ∙ ap (λ (b : Bool). if b then room_of f w + others else 0) next.1.sent ∙ ap (λ (m : ℕ). room_of f w + m) further ∙ first
    by_fit at false is full rest =
        let w = standing v (suc (v.cum + at)) in
        let next = pending_next f s v at true no_item k is in
        let takes = room_standing f s v at k next.0 in
        let may : may_go f room w ≡ false = rw (takes, full) refl in
        ap Filled (goes_not f room v w next.1.next may) ∙ rw (repeats_first f room at s.items no_item is, full) refl

    by_first : (o : Option ℕ) → first_offset is_item_marked s.items ≡ o → Rest → Filled (goes f room v) ≡ repeats_room f room s.items
    by_first None is rest = new_counts_nothing f (suc n) room v (none_new is) ∙ sym (repeats_none f room s.items is)
    by_first (Some at) is rest = by_fit at (nat_le (item_room f (get_or s.items at no_item)) room) is refl rest
