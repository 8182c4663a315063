-- Fragments that go into a packet begin a message for each 20 bytes of its space at most: the chunk that begins one has a byte of it at least.
use Rattle.std.proofs.Common.{◌≡◌, ℕ, zero, suc, ◌+◌, ◌-◌, ◌*◌, ◌/◌, ◌<◌, ◌≤◌, false, List, [], ◌∷◌, ◌++◌, length, drop, Option, Some, None, refl, sym, subst, ap, ◌∙◌, arith, length-append}
use Rattle.std.specs.Prelude.{◌==◌, slice_get, option_and_then}
use Rattle.std.specs.List.{cons_option}
use Rattle.std.specs.Option.{option_map_or}
use Rattle.std.proofs.lemmas.List.{append-nil}
use Rattle.std.proofs.lemmas.Bool.Decides.{nat_tests}
use Rattle.sctp_model.specs.numbers.Lists.{item_at}
use Rattle.sctp_model.specs.messages.Format.{Format, Plain, Interleaved, Lane}
use Rattle.sctp_model.specs.messages.Plan.{Message, Entry, Part, End, Plan, entry_at, message_at, parts_from}
use Rattle.sctp_model.specs.sender.SenderView.{SenderView}
use Rattle.sctp_model.specs.sender.Words.{when}
use Rattle.sctp_model.specs.sender.Entries.{entry_bytes}
use Rattle.sctp_model.specs.sender.Reached.{IsReached, Goes}
use Rattle.sctp_model.specs.sender.Filling.{Wish, newcomer, next_wish, bytes_of_wish, goes, gone, room_of, before_these, no_more, fill_at_most, fill, begun_ticket, begun_tickets, newly_numbered}
use Rattle.sctp_model.proofs.sender.WishCases.{IsAssigned, Whole, Begun, Continued, assigned_cases, IsWished, Repeated, Unsent, New, wished_ways}
use Rattle.sctp_model.proofs.sender.FillLaws.{goes_parts, room_fits}
use Rattle.sctp_safety.proofs.sending.OrderlyCalls.{plan_stays_orderly}
use Rattle.sctp_outcomes.specs.Kept.{IsNamed}
use Rattle.sctp_outcomes.proofs.logs.Filled.{grows_assigned, grows_gone, grows_filled, drop_behind, numbers_grow}

-- how many messages begin among a view's entries
abbrev begun : SenderView → ℕ
begun v = length (begun_tickets v.plan v.plan.entries)

-- ---- what is assigned begins one message at most

later_begins_none : (p : Plan) (l : Lane) (n k : ℕ) → begun_ticket p (Part l n (suc k)) ≡ None
later_begins_none p l n k = go (message_at p l n)
  where
    off : (suc k == 0) ≡ false
    off = grind (arith, nat_tests)

    go : (o : Option Message) → option_and_then (λ (m : Message). when (suc k == 0) m.ticket) o ≡ None
    go None = refl
    go (Some m) = rw off refl

end_begins_none : (p : Plan) (l : Lane) (n : ℕ) → begun_ticket p (End l n) ≡ None
end_begins_none p l n = go (message_at p l n)
  where
    go : (o : Option Message) → option_and_then (λ (m : Message). when false m.ticket) o ≡ None
    go None = refl
    go (Some m) = refl

-- the fragments of a message after its first
rest_begins_none : (p : Plan) (l : Lane) (n k d : ℕ) → begun_tickets p (parts_from l n (suc k) d) ≡ []
rest_begins_none p l n k zero = refl
rest_begins_none p l n k (suc d) = rw (later_begins_none p l n k) (rest_begins_none p l n (suc k) d)

-- Of these entries none begins a message, or the first of them alone.
data BeginsOne (p : Plan) (es : List Entry) : Type 0 where
  NoneBegins : begun_tickets p es ≡ [] → BeginsOne p es
  FirstBegins : (l : Lane) (n : ℕ) (ds : List Entry) → es ≡ Part l n 0 ∷ ds → length (begun_tickets p es) ≤ 1 → BeginsOne p es

parts_begin : (p : Plan) (l : Lane) (n d : ℕ) → BeginsOne p (parts_from l n 0 d)
parts_begin p l n zero = NoneBegins refl
parts_begin p l n (suc d) = FirstBegins l n (parts_from l n 1 d) refl (go (begun_ticket p (Part l n 0)))
  where
    go : (o : Option ℕ) → length (cons_option o (begun_tickets p (parts_from l n 1 d))) ≤ 1
    go None = rw (rest_begins_none p l n 0 d) (omega arith)
    go (Some t) = rw (rest_begins_none p l n 0 d) (omega arith)

entry_begins : (p : Plan) (x : Entry) → BeginsOne p (x ∷ [])
entry_begins p (Part l n zero) = parts_begin p l n 1
entry_begins p (Part l n (suc k)) = NoneBegins (rw (later_begins_none p l n k) refl)
entry_begins p (End l n) = NoneBegins (rw (end_begins_none p l n) refl)

-- The entries that are assigned are after the others.
record IsOneMore (v u : SenderView) : Type 0 where
  more : List Entry
  entries : u.plan.entries ≡ v.plan.entries ++ more
  one : BeginsOne u.plan more

one_more : (f : Format) (v u : SenderView) → IsAssigned v f u → IsOneMore v u
one_more _ v u (Whole q rest is) =
    let n = length (v.plan.messages q.lane) in let d = length q.message.fragments in
    record { more = parts_from q.lane n 0 d; entries = refl; one = parts_begin u.plan q.lane n d }
one_more _ v u (Begun s q lt idle first) =
    let n = length (v.plan.messages q.lane) in
    record { more = parts_from q.lane n 0 1; entries = refl; one = parts_begin u.plan q.lane n 1 }
one_more _ v u (Continued s x lt on) = record { more = x ∷ []; entries = refl; one = entry_begins u.plan x }

-- ---- a first fragment takes 20 bytes

first_has_bytes : (f : Format) (v : SenderView) (i : ℕ) (l : Lane) (n : ℕ) → IsReached f v → entry_at v.plan i ≡ Some (Part l n 0) → 0 < length (entry_bytes v.plan (Part l n 0))
first_has_bytes f v i l n reached here =
    let o = plan_stays_orderly f v reached in
    let m = o.numbered.within i l n 0 here in
    rw m.1 (o.numbered.filled l n 0 m.0 m.1 m.2)

large_room : (f : Format) (w : Wish) → 0 < length (bytes_of_wish w) → 20 ≤ room_of f w
large_room Plain w some = large 16 (length (bytes_of_wish w)) (omega arith) some
  where
    large : (header n : ℕ) → 16 ≤ header → 0 < n → 20 ≤ (header + n + 3) / 4 * 4
    large header n least some = grind (arith, nat_tests)
large_room Interleaved w some = large 20 (length (bytes_of_wish w)) (omega arith) some
  where
    large : (header n : ℕ) → 16 ≤ header → 0 < n → 20 ≤ (header + n + 3) / 4 * 4
    large header n least some = grind (arith, nat_tests)

-- ---- one wish

behind : (es : List Entry) (x : Entry) (ds : List Entry) → slice_get (es ++ x ∷ ds) (length es) ≡ Some x
behind [] x ds = refl
behind (e ∷ es) x ds = behind es x ds

newcomer_begins : (f : Format) (v u : SenderView) → IsNamed v.plan → IsReached f (gone (newcomer v u)) → IsAssigned v f u → 20 * begun u ≤ 20 * begun v + room_of f (newcomer v u)
newcomer_begins f v u named reached is = go (one_more f v u is)
  where
    count : begun u ≡ begun v + length (newly_numbered v u)
    count = ap (λ (ts : List ℕ). length ts) (numbers_grow v u named (grows_assigned f v u named is)) ∙ length-append (begun_tickets v.plan v.plan.entries) (newly_numbered v u)

    new : (more : List Entry) → u.plan.entries ≡ v.plan.entries ++ more → newly_numbered v u ≡ begun_tickets u.plan more
    new more entries = ap (λ (es : List Entry). begun_tickets u.plan (drop (length v.plan.entries) es)) entries ∙ ap (begun_tickets u.plan) (drop_behind v.plan.entries more)

    here : (l : Lane) (n : ℕ) (ds more : List Entry) → u.plan.entries ≡ v.plan.entries ++ more → more ≡ Part l n 0 ∷ ds → entry_at u.plan (suc (length v.plan.entries)) ≡ Some (Part l n 0)
    here l n ds more entries first = ap (λ (es : List Entry). item_at es (suc (length v.plan.entries))) (entries ∙ ap (λ (es : List Entry). v.plan.entries ++ es) first) ∙ behind v.plan.entries (Part l n 0) ds

    go : IsOneMore v u → 20 * begun u ≤ 20 * begun v + room_of f (newcomer v u)
    go o = elim o.one [
      | NoneBegins none ↦ let n : length (newly_numbered v u) ≡ 0 = ap (λ (ts : List ℕ). length ts) (new o.more o.entries ∙ none) in omega (arith, count, n)
      | FirstBegins l n ds first one ↦
          let there = here l n ds o.more o.entries first in
          let some : 0 < length (bytes_of_wish (newcomer v u)) = rw there (first_has_bytes f (gone (newcomer v u)) (suc (length v.plan.entries)) l n reached there) in
          let large = large_room f (newcomer v u) some in
          let few : length (newly_numbered v u) ≤ 1 = subst (λ (ts : List ℕ). length ts ≤ 1) (sym (new o.more o.entries)) one in
          omega (arith, count, large, few)
    ]

wish_begins : (f : Format) (v : SenderView) (w : Wish) → IsNamed v.plan → IsReached f (gone w) → next_wish f v ≡ Some w → 20 * begun (gone w) ≤ 20 * begun v + room_of f w
wish_begins f v w named after next = by_way w (wished_ways f v w next) after
  where
    by_way : (x : Wish) → IsWished f v x → IsReached f (gone x) → 20 * begun (gone x) ≤ 20 * begun v + room_of f x
    by_way _ (Repeated i h) r = omega arith
    by_way _ (Unsent i marks h) r = omega arith
    by_way _ (New u marks unsent new) r = newcomer_begins f v u named r (assigned_cases f v u new)

-- ---- many

most_begin : (many : ℕ) (f : Format) (room : ℕ) (v : SenderView) → IsNamed v.plan → IsReached f v → 20 * begun (fill_at_most many f room v).view ≤ 20 * begun v + room
most_begin zero f room v named reached = omega arith
most_begin (suc many) f room v named reached = go (goes f room v) refl (λ w known after. most_begin many f (room - room_of f w) (gone w) known after)
  where
    go : (o : Option Wish) → goes f room v ≡ o
        → ((w : Wish) → IsNamed (gone w).plan → IsReached f (gone w) → 20 * begun (fill_at_most many f (room - room_of f w) (gone w)).view ≤ 20 * begun (gone w) + (room - room_of f w))
        → 20 * begun (option_map_or (λ w. before_these w (fill_at_most many f (room - room_of f w) (gone w))) o (no_more v)).view ≤ 20 * begun v + room
    go None none further = omega arith
    go (Some w) some further =
        let p = goes_parts f room v w some in
        let after = Goes v room w reached p.0 p.1 in
        let one = wish_begins f v w named after p.0 in
        let rest = further w (grows_gone f v w named p.0).named after in
        let fits = room_fits f room w p.1 in
        omega (arith, one, rest, fits)

-- Into this space go the first fragments of this many messages at most.
pub few_filled : (f : Format) (room : ℕ) (v : SenderView) → IsNamed v.plan → IsReached f v → 20 * length (newly_numbered v (fill f room v).view) ≤ room
few_filled f room v named reached =
    let most = most_begin room f room v named reached in
    let u = (fill f room v).view in
    let count : begun u ≡ begun v + length (newly_numbered v u) =
    ap (λ (ts : List ℕ). length ts) (numbers_grow v u named (grows_filled f room v named)) ∙ length-append (begun_tickets v.plan v.plan.entries) (newly_numbered v u) in
    omega (arith, most, count)

-- and none if nothing goes
pub none_newly : (v u : SenderView) → u ≡ v → newly_numbered v u ≡ []
none_newly v u same = subst (λ (x : SenderView). newly_numbered v x ≡ []) (sym same) (ap (begun_tickets v.plan) (ap (drop (length v.plan.entries)) (sym (append-nil v.plan.entries)) ∙ drop_behind v.plan.entries []))
