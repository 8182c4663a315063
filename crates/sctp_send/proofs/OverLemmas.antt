-- What is over stays so, whatever is done to the entries, the streams and the queue.
use Rattle.std.proofs.Common.{◌≡◌, ℕ, zero, suc, ◌<◌, List, [], ◌∷◌, ◌++◌, length, get_or, map, drop, set, Bool, true, false, Option, Some, None, refl, sym, ap, ◌∙◌, arith}
use Rattle.std.specs.Prelude.{◌==◌, ◌||◌, slice_get, replicate}
use Rattle.std.proofs.lemmas.Bool.Decides.{nat_tests}
use Rattle.sctp_model.specs.messages.Format.{Lane}
use Rattle.sctp_model.specs.messages.Plan.{Message, Entry, Part, End}
use Rattle.sctp_model.specs.sender.SenderView.{Queued}
use Rattle.sctp_model.specs.sender.Words.{when}
use Rattle.sctp_model.specs.sender.Abandoning.{waits, without, has_ticket}
use Rattle.sctp_model.proofs.sender.QueueLaws.{IsTaken, fewer_without, waits_push}
use Rattle.sctp_send.specs.SenderKept.{Item, Rest, Track}
use Rattle.sctp_send.specs.inner.Walks.{any_item, any_rest, rest_has}
use Rattle.sctp_send.specs.inner.Newcomers.{gone_item, new_items, begun_items, begun_track, rest_after}
use Rattle.sctp_send.proofs.sack.CoverLemmas.{items_told}

-- ---- tests

pub neither : (a b : Bool) → (a || b) ≡ false → (a ≡ false) × (b ≡ false)
neither false false is = (refl, refl)
neither false true is = absurd (cc)
neither true b is = absurd (cc)

both_off : (a b : Bool) → a ≡ false → b ≡ false → (a || b) ≡ false
both_off a b x y = rw (x, y) refl

-- ---- entries

pub no_item_behind : (t n : ℕ) (xs : List Item) → any_item t xs ≡ false → any_item t (drop n xs) ≡ false
no_item_behind t zero xs none = none
no_item_behind t (suc n) [] none = refl
no_item_behind t (suc n) (x ∷ xs) none = grind (arith, nat_tests, no_item_behind t n xs)

pub no_item_more : (t : ℕ) (xs ys : List Item) → any_item t xs ≡ false → any_item t ys ≡ false → any_item t (xs ++ ys) ≡ false
no_item_more t [] ys none more = more
no_item_more t (x ∷ xs) ys none more = grind (arith, nat_tests, no_item_more t xs ys)

-- a change that leaves each its message
pub same_items : (t : ℕ) (g : Item → Item) (xs : List Item) → ((x : Item) → (g x).message ≡ x.message) → any_item t (map g xs) ≡ any_item t xs
same_items t g [] same = refl
same_items t g (x ∷ xs) same = rw (same x, same_items t g xs same) refl

pub same_told : (t : ℕ) (test : ℕ → Bool) (i : ℕ) (xs : List Item) → any_item t (items_told test i xs) ≡ any_item t xs
same_told t test i [] = refl
same_told t test i (x ∷ xs) = ap (λ (b : Bool). has_ticket t x.message || b) (same_told t test (suc i) xs)

pub same_gone : (t at : ℕ) (xs : List Item) (d : Item) → any_item t (set xs at (gone_item (get_or xs at d))) ≡ any_item t xs
same_gone t at [] d = refl
same_gone t zero (x ∷ xs) d = refl
same_gone t (suc at) (x ∷ xs) d = ap (λ (b : Bool). has_ticket t x.message || b) (same_gone t at xs d)

no_new : (t : ℕ) (l : Lane) (n : ℕ) (m : Message) (k d : ℕ) → has_ticket t (Some m) ≡ false → any_item t (new_items l n m k d) ≡ false
no_new t l n m k zero off = refl
no_new t l n m k (suc d) off = both_off (has_ticket t (Some m)) (any_item t (new_items l n m (suc k) d)) off (no_new t l n m (suc k) d off)

pub no_begun : (t : ℕ) (l : Lane) (n : ℕ) (m : Message) (d : ℕ) → has_ticket t (Some m) ≡ false → any_item t (begun_items l n m (suc d)) ≡ false
no_begun t l n m d off = both_off (has_ticket t (Some m)) (any_item t (new_items l n m 1 d)) off (no_new t l n m 1 d off)

pub no_item_one : (t : ℕ) (xs : List Item) (x : Item) → any_item t xs ≡ false → has_ticket t x.message ≡ false → any_item t (xs ++ x ∷ []) ≡ false
no_item_one t xs x none off = no_item_more t xs (x ∷ []) none (both_off (has_ticket t x.message) false off refl)

-- ---- streams

pub no_rest_set : (t at : ℕ) (xs : List Track) (y : Track) → any_rest t xs ≡ false → rest_has t y.rest ≡ false → any_rest t (set xs at y) ≡ false
no_rest_set t at [] y none off = refl
no_rest_set t zero (x ∷ xs) y none off = grind (arith, nat_tests)
no_rest_set t (suc at) (x ∷ xs) y none off = grind (arith, nat_tests, no_rest_set t at xs y)

pub no_rest_at : (t at : ℕ) (xs : List Track) (d : Track) → at < length xs → any_rest t xs ≡ false → rest_has t (get_or xs at d).rest ≡ false
no_rest_at t at [] d lt none = absurd (omega arith)
no_rest_at t zero (x ∷ xs) d lt none = (neither (rest_has t x.rest) (any_rest t xs) none).0
no_rest_at t (suc at) (x ∷ xs) d lt none = no_rest_at t at xs d (omega arith) (neither (rest_has t x.rest) (any_rest t xs) none).1

pub no_rest_there : (t at : ℕ) (xs : List Track) (x : Track) → slice_get xs at ≡ Some x → any_rest t xs ≡ false → rest_has t x.rest ≡ false
no_rest_there t at [] x there none = absurd (cc)
no_rest_there t zero (y ∷ xs) x there none = let same : y ≡ x = cc in ap (λ (z : Track). rest_has t z.rest) (sym same) ∙ (neither (rest_has t y.rest) (any_rest t xs) none).0
no_rest_there t (suc at) (y ∷ xs) x there none = no_rest_there t at xs x there (neither (rest_has t y.rest) (any_rest t xs) none).1

pub no_rests : (t n : ℕ) → any_rest t (replicate n (record { ordered = 0; unordered = 0; rest = None })) ≡ false
no_rests t zero = refl
no_rests t (suc n) = no_rests t n

rest_if : (t : ℕ) (b : Bool) (r : Rest) → has_ticket t r.message ≡ false → rest_has t (when b r) ≡ false
rest_if t true r off = off
rest_if t false r off = refl

-- what is left of another message
pub no_rest_begun : (t : ℕ) (q : Queued) (d : ℕ) (x : Track) → has_ticket t (Some q.message) ≡ false → rest_has t (begun_track q d x).rest ≡ false
no_rest_begun t q d x off = rest_if t _ _ off

pub no_rest_after : (t : ℕ) (e : Entry) (m : Option Message) → has_ticket t m ≡ false → rest_has t (rest_after e m) ≡ false
no_rest_after t (Part l n k) m off = rest_if t _ _ off
no_rest_after t (End l n) m off = refl

-- ---- the queue

pub not_waiting_more : (t : ℕ) (qs : List Queued) (q : Queued) → waits t qs ≡ false → (q.message.ticket ≡ t → ⊥) → waits t (qs ++ q ∷ []) ≡ false
not_waiting_more t qs q none other =
    let off : (q.message.ticket == t) ≡ false = grind (arith, nat_tests) in
    waits_push t qs q ∙ both_off (waits t qs) (q.message.ticket == t) none off

-- fewer messages wait
pub not_waiting_without : (t u : ℕ) (qs : List Queued) → waits t qs ≡ false → waits t (without u qs) ≡ false
not_waiting_without t u qs none = grind (arith, nat_tests, fewer_without u t qs)

pub not_waiting_taken : (t : ℕ) (q : Queued) (rest queue : List Queued) → IsTaken q rest queue → waits t queue ≡ false → waits t rest ≡ false
not_waiting_taken t q rest queue taken none = grind (arith, nat_tests, taken.fewer t)

-- a message that waits has another ticket
pub another_taken : (t : ℕ) (q : Queued) (rest queue : List Queued) → IsTaken q rest queue → waits t queue ≡ false → has_ticket t (Some q.message) ≡ false
another_taken t q rest queue taken none = grind (arith, nat_tests, taken.was)
