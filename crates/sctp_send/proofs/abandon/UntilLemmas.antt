-- The moment of a ticket's message, where it is found: among those that wait, above CUM or in part.
use Rattle.std.proofs.Common.{◌≡◌, ℕ, zero, suc, ◌+◌, ◌<◌, ◌≤◌, List, [], ◌∷◌, length, get_or, map, drop, Bool, true, false, Option, Some, None, refl, sym, ap, ◌∙◌, subst, arith}
use Rattle.std.specs.Prelude.{◌==◌, not, ◌&&◌, option_and_then, find, slice_get}
use Rattle.std.proofs.Math.ListN.{get_or-map}
use Rattle.std.proofs.lemmas.List.{drop_all, length-map}
use Rattle.std.proofs.lemmas.Option.{get_or_from_slice_get}
use Rattle.sctp_send.proofs.pace.HereLemmas.{item_read}
use Rattle.std.proofs.lemmas.Bool.Decides.{nat_tests}
use Rattle.std.specs.declared.sync.Arc.{Arc}
use Rattle.std.specs.declared.alloc.Global.{Global}
use Rattle.sctp_model.specs.sender.SenderView.{Queued}
use Rattle.sctp_model.specs.sender.Abandoning.{has_ticket}
use Rattle.sctp_send.specs.SenderKept.{Item, Rest, Track}
use Rattle.sctp_send.specs.OutstandingFields.{item_meaning}
use Rattle.sctp_send.specs.SenderFields.{queued_by, track_meaning}
use Rattle.sctp_send.specs.inner.Walks.{any_rest, any_uncovered, is_item_uncovered, rest_has, GoesOnAt}
use Rattle.sctp_send.specs.inner.Expiring.{rest_message}
use Rattle.sctp_send.specs.inner.Seating.{ticket_in, AreLower}
use Rattle.sctp_send.specs.inner.Dues.{IsItemUntil, IsRestUntil, until_left}
use Rattle.sctp_send.specs.declared.kept.message.Message.{Message as MessageFields}
use Rattle.sctp_send.specs.declared.kept.entry.Entry.{Entry as EntryFields}
use Rattle.sctp_send.specs.declared.kept.track.Track.{Track as TrackFields}
use Rattle.sctp_send.specs.declared.kept.track.Rest.{Rest as RestFields}

-- ---- among those that wait

-- the first one with a ticket
abbrev pub with_ticket : ℕ → List Queued → Option Queued
with_ticket t qs = find (λ q. q.message.ticket == t) qs

pub past_lower : (t size n : ℕ) (ms : List (Arc MessageFields Global)) → AreLower t n ms → n ≤ length ms → with_ticket t (map (queued_by size) ms) ≡ with_ticket t (drop n (map (queued_by size) ms))
past_lower t size zero ms lower le = refl
past_lower t size (suc n) [] lower le = absurd (omega arith)
past_lower t size (suc n) (m ∷ ms) lower le =
    let low : ticket_in m < t = lower 0 m (omega arith) in
    grind (arith, nat_tests, low, past_lower t size n ms (λ k d lt. lower (suc k) d (omega arith)))

past_one : (t size at : ℕ) (ms : List (Arc MessageFields Global)) (x : Arc MessageFields Global) → at < length ms → x ≡ get_or ms at x → (x.value.ticket ≡ t → ⊥)
    → with_ticket t (drop at (map (queued_by size) ms)) ≡ with_ticket t (drop (suc at) (map (queued_by size) ms))
past_one t size at [] x lt read other = absurd (omega arith)
past_one t size zero (m ∷ ms) x lt read other = grind (arith, nat_tests, read, other)
past_one t size (suc at) (m ∷ ms) x lt read other = past_one t size at ms x (omega arith) read other

pub past_other : (t size at : ℕ) (ms : List (Arc MessageFields Global)) (x : Arc MessageFields Global) → at < length ms → x ≡ get_or ms at x → (x.value.ticket ≡ t → ⊥)
    → with_ticket t (drop at (map (queued_by size) ms)) ≡ with_ticket t (drop (at + 1) (map (queued_by size) ms))
past_other t size at ms x lt read other = let one : suc at ≡ at + 1 = omega arith in past_one t size at ms x lt read other ∙ ap (λ (n : ℕ). with_ticket t (drop n (map (queued_by size) ms))) one

pub found_until : (t size at : ℕ) (ms : List (Arc MessageFields Global)) (x : Arc MessageFields Global) → at < length ms → x ≡ get_or ms at x → x.value.ticket ≡ t
    → x.value.until ≡ option_and_then (λ q. q.message.until) (with_ticket t (drop at (map (queued_by size) ms)))
found_until t size at [] x lt read same = absurd (omega arith)
found_until t size zero (m ∷ ms) x lt read same = grind (arith, nat_tests, read, same)
found_until t size (suc at) (m ∷ ms) x lt read same = found_until t size at ms x (omega arith) read same

pub none_until : (t size at : ℕ) (ms : List (Arc MessageFields Global)) → length ms ≤ at → with_ticket t (drop at (map (queued_by size) ms)) ≡ None
none_until t size at ms le = let long = length-map ms (queued_by size) in rw (drop_all at (map (queued_by size) ms) (omega (arith, long, le))) refl

-- ---- above CUM

pub item_until : (t size at : ℕ) (es : List EntryFields) (e : EntryFields) → at < length es → e ≡ get_or es at e → e.message.value.ticket ≡ t → IsItemUntil t e.message.value.until (map (item_meaning size) es)
item_until t size at es e lt read same = record {
  at = at;
  item = item_meaning size e;
  there = item_read size es at e lt read;
  has = (grind (arith, nat_tests), refl);
}

-- an entry that is covered isn't uncovered, and one of the message that isn't is
pub covered_item : (t size : ℕ) (e : EntryFields) → e.covered ≡ true → is_item_uncovered t (item_meaning size e) ≡ false
covered_item t size e on = grind (arith, on)

pub uncovered_item : (t size : ℕ) (e : EntryFields) → e.message.value.ticket ≡ t → e.covered ≡ false → is_item_uncovered t (item_meaning size e) ≡ true
uncovered_item t size e same off = grind (arith, nat_tests, same, off)

-- ---- in part

read_mapped : {A B : Type 0} (f : A → B) (xs : List A) (at : ℕ) (x : A) (y : B) → x ≡ get_or xs at x → slice_get (map f xs) at ≡ Some y → y ≡ f x
read_mapped f xs at x y read there = sym (get_or_from_slice_get (map f xs) at y (f x) there) ∙ get_or-map f xs at x ∙ ap f (sym read)

pub rest_until : (t size at : ℕ) (ts : List TrackFields) (x : TrackFields) (r : RestFields) → x ≡ get_or ts at x → x.rest ≡ Some r → GoesOnAt t at (map (track_meaning size) ts) → IsRestUntil t r.message.value.until (map (track_meaning size) ts)
rest_until t size at ts x r read is on =
    let same = read_mapped (track_meaning size) ts at x on.track read on.there in
    let rest = ap (λ (y : Track). y.rest) same ∙ rests x.rest is in
    record {
      at = at;
      track = on.track;
      there = on.there;
      has = (ap (λ (o : Option Rest). has_ticket t (option_and_then (λ y. y.message) o)) rest ∙ sym (ap (rest_has t) rest) ∙ on.mine, ap (λ (o : Option Rest). option_and_then (λ y. y.until) (option_and_then (λ y. y.message) o)) rest);
    }
  where
    rests : (o : Option RestFields) → o ≡ Some r → (track_meaning size (record x { rest = o })).rest ≡ (track_meaning size (record x { rest = Some r })).rest
    rests o same = ap (λ (y : Option RestFields). (track_meaning size (record x { rest = y })).rest) same

-- a stream that has it goes on with something
pub never_none : (t size at : ℕ) (ts : List TrackFields) (x : TrackFields) → x ≡ get_or ts at x → x.rest ≡ None → GoesOnAt t at (map (track_meaning size) ts) → ⊥
never_none t size at ts x read is on =
    let same = read_mapped (track_meaning size) ts at x on.track read on.there in
    let rest : on.track.rest ≡ None = ap (λ (y : Track). y.rest) same ∙ ap (λ (y : Option RestFields). (track_meaning size (record x { rest = y })).rest) is in
    let off : rest_has t on.track.rest ≡ false = ap (rest_has t) rest in
    let on = on.mine in
    cc

pub part_until : (t size at : ℕ) (ts : List TrackFields) (x : TrackFields) (r : Option ℕ) → x ≡ get_or ts at x → GoesOnAt t at (map (track_meaning size) ts) → r ≡ until_left x.rest → IsRestUntil t r (map (track_meaning size) ts)
part_until t size at ts x r read on is = by_rest x.rest refl
  where
    by_rest : (o : Option RestFields) → x.rest ≡ o → IsRestUntil t r (map (track_meaning size) ts)
    by_rest None none = absurd (never_none t size at ts x read none on)
    by_rest (Some y) there = subst (λ (u : Option ℕ). IsRestUntil t u (map (track_meaning size) ts)) (sym (is ∙ ap until_left there)) (rest_until t size at ts x y read there on)

-- ---- what is open of a message

-- a stream goes on with it
rest_there : (t at : ℕ) (ts : List Track) (x : Track) → slice_get ts at ≡ Some x → has_ticket t (rest_message x) ≡ true → any_rest t ts ≡ true
rest_there t at [] x is has = absurd (cc)
rest_there t zero (y ∷ ts) x is has = grind (arith, is, has)
rest_there t (suc at) (y ∷ ts) x is has = grind (arith, rest_there t at ts x)

module _ (t : ℕ) (xs : List Item) (ts : List Track) where
  pub open_item : any_uncovered t xs ≡ true → (not (any_rest t ts) && not (any_uncovered t xs)) ≡ false
  open_item on = grind (arith, on)

  pub open_rest : (until : Option ℕ) → IsRestUntil t until ts → (not (any_rest t ts) && not (any_uncovered t xs)) ≡ false
  open_rest until r = ap (λ (b : Bool). not b && not (any_uncovered t xs)) (rest_there t r.at ts r.track r.there r.has.0)

  pub open_none : any_rest t ts ≡ false → any_uncovered t xs ≡ false → (not (any_rest t ts) && not (any_uncovered t xs)) ≡ true
  open_none rests items = rw (rests, items) refl
