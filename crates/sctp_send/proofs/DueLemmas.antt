-- What is idle stays so, whatever is done to the entries, the streams and the queue.
use Rattle.std.proofs.Common.{◌≡◌, ℕ, zero, suc, ◌<◌, List, [], ◌∷◌, ◌++◌, length, get_or, map, drop, set, Bool, true, false, Option, Some, None, refl, ap, arith}
use Rattle.std.specs.Prelude.{◌||◌, slice_get, replicate}
use Rattle.std.proofs.lemmas.Bool.Decides.{nat_tests}
use Rattle.sctp_model.specs.messages.Format.{Lane}
use Rattle.sctp_model.specs.messages.Plan.{Message, Entry, Part, End}
use Rattle.sctp_model.specs.sender.SenderView.{Queued}
use Rattle.sctp_model.specs.sender.Abandoning.{waits, without, has_ticket}
use Rattle.sctp_send.specs.SenderKept.{Item, Rest, Track, Kept}
use Rattle.sctp_send.specs.SenderStands.{IsOver}
use Rattle.sctp_send.specs.inner.Expiring.{queue_messages, rest_message, rest_messages}
use Rattle.sctp_send.specs.inner.Walks.{any_item, any_rest, end_item}
use Rattle.sctp_send.specs.inner.Dues.{is_late, some_late, standing_message, standing_messages, has_come, is_asleep, IsIdle}
use Rattle.sctp_send.specs.inner.Newcomers.{gone_item, new_items, begun_items, begun_track, rest_after, without_place}
use Rattle.sctp_send.proofs.sack.CoverLemmas.{items_told}
use Rattle.sctp_send.proofs.abandon.AbandonedLemmas.{abandoned_item}

pub both_off : (a b : Bool) → a ≡ false → b ≡ false → (a || b) ≡ false
both_off a b x y = rw (x, y) refl

-- ---- messages

-- a message that has another ticket
pub other_late : (now t : ℕ) (m : Option Message) → has_ticket t m ≡ false → is_late now t m ≡ false
other_late now t None off = refl
other_late now t (Some m) off = rw off refl

-- ---- entries

pub late_behind : (now t n : ℕ) (b : Bool) (xs : List Item) → some_late now t (standing_messages b xs) ≡ false → some_late now t (standing_messages b (drop n xs)) ≡ false
late_behind now t zero b xs none = none
late_behind now t (suc n) b [] none = refl
late_behind now t (suc n) b (x ∷ xs) none = grind (arith, late_behind now t n b xs)

pub late_items_more : (now t : ℕ) (b : Bool) (xs ys : List Item) → some_late now t (standing_messages b xs) ≡ false → some_late now t (standing_messages b ys) ≡ false → some_late now t (standing_messages b (xs ++ ys)) ≡ false
late_items_more now t b [] ys none more = more
late_items_more now t b (x ∷ xs) ys none more = grind (arith, late_items_more now t b xs ys)

pub late_gone : (now t at : ℕ) (b : Bool) (xs : List Item) (d : Item) → some_late now t (standing_messages b (set xs at (gone_item (get_or xs at d)))) ≡ some_late now t (standing_messages b xs)
late_gone now t at b [] d = refl
late_gone now t zero b (x ∷ xs) d = refl
late_gone now t (suc at) b (x ∷ xs) d = ap (λ (c : Bool). is_late now t (standing_message b x) || c) (late_gone now t at b xs d)

-- whatever is covered
pub late_told : (now t : ℕ) (test : ℕ → Bool) (i : ℕ) (xs : List Item) → some_late now t (standing_messages false (items_told test i xs)) ≡ some_late now t (standing_messages false xs)
late_told now t test i [] = refl
late_told now t test i (x ∷ xs) = ap (λ (c : Bool). is_late now t (standing_message false x) || c) (late_told now t test (suc i) xs)

-- an entry that is given up counts no more
abandoned_late : (now t u : ℕ) (b : Bool) (x : Item) → is_late now t (standing_message b x) ≡ false → is_late now t (standing_message b (abandoned_item u x)) ≡ false
abandoned_late now t u b x off = grind (arith, off)

pub late_abandoned : (now t u : ℕ) (b : Bool) (xs : List Item) → some_late now t (standing_messages b xs) ≡ false → some_late now t (standing_messages b (map (abandoned_item u) xs)) ≡ false
late_abandoned now t u b [] none = refl
late_abandoned now t u b (x ∷ xs) none = grind (arith, abandoned_late now t u b x, late_abandoned now t u b xs)

-- one entry more
standing_late : (now t : ℕ) (b : Bool) (x : Item) → is_late now t x.message ≡ false → is_late now t (standing_message b x) ≡ false
standing_late now t b x off = grind (arith, off)

pub late_item_one : (now t : ℕ) (b : Bool) (xs : List Item) (x : Item) → some_late now t (standing_messages b xs) ≡ false → is_late now t x.message ≡ false → some_late now t (standing_messages b (xs ++ x ∷ [])) ≡ false
late_item_one now t b xs x none off = late_items_more now t b xs (x ∷ []) none (grind (arith, off))

late_new : (now t : ℕ) (b : Bool) (l : Lane) (n : ℕ) (m : Message) (k d : ℕ) → is_late now t (Some m) ≡ false → some_late now t (standing_messages b (new_items l n m k d)) ≡ false
late_new now t b l n m k zero off = refl
late_new now t b l n m k (suc d) off = grind (arith, off, late_new now t b l n m (suc k) d)

pub late_begun : (now t : ℕ) (b : Bool) (l : Lane) (n : ℕ) (m : Message) (d : ℕ) → is_late now t (Some m) ≡ false → some_late now t (standing_messages b (begun_items l n m (suc d))) ≡ false
late_begun now t b l n m d off = grind (arith, off, late_new now t b l n m 1 d)

-- ---- streams

pub late_rest_set : (now t at : ℕ) (xs : List Track) (y : Track) → some_late now t (rest_messages xs) ≡ false → is_late now t (rest_message y) ≡ false → some_late now t (rest_messages (set xs at y)) ≡ false
late_rest_set now t at [] y none off = refl
late_rest_set now t zero (x ∷ xs) y none off = grind (arith, none, off)
late_rest_set now t (suc at) (x ∷ xs) y none off = grind (arith, late_rest_set now t at xs y)

pub late_rest_at : (now t at : ℕ) (xs : List Track) (d : Track) → at < length xs → some_late now t (rest_messages xs) ≡ false → is_late now t (rest_message (get_or xs at d)) ≡ false
late_rest_at now t at [] d lt none = absurd (omega arith)
late_rest_at now t zero (x ∷ xs) d lt none = grind (arith, none)
late_rest_at now t (suc at) (x ∷ xs) d lt none = grind (arith, late_rest_at now t at xs d)

pub late_no_rests : (now t n : ℕ) → some_late now t (rest_messages (replicate n (record { ordered = 0; unordered = 0; rest = None }))) ≡ false
late_no_rests now t zero = refl
late_no_rests now t (suc n) = late_no_rests now t n

-- what is left of another message
pub late_rest_begun : (now t : ℕ) (q : Queued) (d : ℕ) (x : Track) → is_late now t (Some q.message) ≡ false → is_late now t (rest_message (begun_track q d x)) ≡ false
late_rest_begun now t q d x off = grind (arith, off)

pub late_rest_after : (now t : ℕ) (x : Track) (e : Entry) (m : Option Message) → is_late now t m ≡ false → is_late now t (rest_message (record x { rest = rest_after e m })) ≡ false
late_rest_after now t x (Part l n k) m off = grind (arith, off)
late_rest_after now t x (End l n) m off = refl

-- ---- the queue

pub late_queue_more : (now t : ℕ) (qs : List Queued) (q : Queued) → some_late now t (queue_messages qs) ≡ false → is_late now t (Some q.message) ≡ false → some_late now t (queue_messages (qs ++ q ∷ [])) ≡ false
late_queue_more now t [] q none off = grind (arith, off)
late_queue_more now t (x ∷ qs) q none off = grind (arith, late_queue_more now t qs q)

pub late_without : (now t u : ℕ) (qs : List Queued) → some_late now t (queue_messages qs) ≡ false → some_late now t (queue_messages (without u qs)) ≡ false
late_without now t u [] none = refl
late_without now t u (x ∷ qs) none = grind (arith, late_without now t u qs)

-- a message at a place, and those without it
pub record IsLeftIdle (now t : ℕ) (q : Queued) (rest : List Queued) : Type 0 where
  pub others : some_late now t (queue_messages rest) ≡ false
  pub one : is_late now t (Some q.message) ≡ false

pub late_taken : (now t at : ℕ) (qs : List Queued) (q : Queued) → slice_get qs at ≡ Some q → some_late now t (queue_messages qs) ≡ false → IsLeftIdle now t q (without_place at qs)
late_taken now t at [] q there none = absurd (cc)
late_taken now t zero (x ∷ qs) q there none = record { others = grind (arith, none); one = grind (arith, there, none) }
late_taken now t (suc at) (x ∷ qs) q there none =
    let rest = late_taken now t at qs q there (grind (arith, none)) in
    record { others = grind (arith, none, rest.others); one = rest.one }

-- an end mark is given up
pub late_end : (now t : ℕ) (b : Bool) (r : Rest) → some_late now t (standing_messages b (end_item r ∷ [])) ≡ false
late_end now t true r = refl
late_end now t false r = refl

-- a message isn't late before its moment
pub late_before : (now t : ℕ) (m : Message) → (t ≡ m.ticket → has_come now m.until ≡ false) → is_late now t (Some m) ≡ false
late_before now t m below = grind (arith, nat_tests, below)

-- what is over is idle
late_other_queue : (now t : ℕ) (qs : List Queued) → waits t qs ≡ false → some_late now t (queue_messages qs) ≡ false
late_other_queue now t [] none = refl
late_other_queue now t (q ∷ qs) none = grind (arith, late_other_queue now t qs)

pub late_other_items : (now t : ℕ) (b : Bool) (xs : List Item) → any_item t xs ≡ false → some_late now t (standing_messages b xs) ≡ false
late_other_items now t b [] none = refl
late_other_items now t b (x ∷ xs) none = grind (arith, other_late now t x.message, late_other_items now t b xs)

late_other_rests : (now t : ℕ) (xs : List Track) → any_rest t xs ≡ false → some_late now t (rest_messages xs) ≡ false
late_other_rests now t [] none = refl
late_other_rests now t (x ∷ xs) none = grind (arith, other_late, late_other_rests now t xs)

pub over_idle : (s : Kept) (now t : ℕ) → IsOver s t → IsIdle s now t
over_idle s now t o = record {
  queue = late_other_queue now t s.queue o.queue;
  items = λ on. late_other_items now t (is_asleep s t) s.items o.items;
  tracks = λ on. late_other_rests now t s.tracks o.tracks;
}
