-- A stream takes the next fragment of its message in part: what it was, how the stream goes on, and what is counted then.
use Rattle.std.proofs.Common.{◌≡◌, ℕ, zero, suc, ◌+◌, ◌-◌, ◌%◌, ◌^◌, ◌<◌, List, [], ◌∷◌, length, map, get_or, Bool, true, false, Option, Some, None, refl, sym, ap, ◌∙◌, subst, arith, length-append}
use Rattle.std.specs.Prelude.{nat_lt, set}
use Rattle.std.proofs.lemmas.Bool.Decides.{nat_tests}
use Rattle.std.proofs.lemmas.List.{get_or-map, map-set}
use Rattle.std.specs.declared.sync.Arc.{Arc}
use Rattle.std.specs.declared.alloc.Global.{Global}
use Rattle.sctp_model.specs.messages.Plan.{Part}
use Rattle.sctp_model.specs.sender.Queueing.{cut, owed_for}
use Rattle.sctp_model.specs.sender.Words.{when}
use Rattle.sctp_values.specs.Meanings.{kind_meaning}
use Rattle.sctp_sequence.specs.TwoWays.{IsMapOf}
use Rattle.sctp_sequence.specs.declared.two_way_map.TwoWayMap.{TwoWayMap}
use Rattle.sctp_send.specs.OutstandingFields.{lane_meaning, message_meaning}
use Rattle.sctp_send.specs.SenderKept.{Rest, Track}
use Rattle.sctp_send.specs.SenderFields.{counts_meaning, latest_in, number_left, rest_meaning, track_meaning}
use Rattle.sctp_send.specs.inner.Newcomers.{rest_after, rest_at, track_of, fresh_track}
use Rattle.sctp_send.specs.inner.Owning.{AreOf, IsOwned, IsRestOwned, AreOthersGone, IsTaken, taken_meaning}
use Rattle.sctp_send.specs.inner.PartSeats.{ticket_left, tickets_left, IsStreamsOf}
use Rattle.sctp_send.specs.inner.Walks.{one_if_rest, rest_owes}
use Rattle.sctp_send.specs.declared.kept.message.Message.{Message as MessageFields}
use Rattle.sctp_send.specs.declared.kept.track.Rest.{Rest as RestFields}
use Rattle.sctp_send.specs.declared.kept.track.Taken.{Taken}
use Rattle.sctp_send.specs.declared.kept.track.Track.{Track as TrackFields}
use Rattle.sctp_send.proofs.kept.OwedLemmas.{counted_set, IsCountOf}
use Rattle.sctp_send.proofs.fill.OwnerLemmas.{owners_last}
use Rattle.sctp_send.proofs.kept.OwnedLemmas.{rests_set}
use Rattle.sctp_send.proofs.kept.TrackCounts.{rest_there}

-- ---- one stream

-- a fragment of a message, as what is left of it
abbrev left_at : (size : ℕ) → MessageFields → (number fragment : ℕ) → Rest
left_at size m n k = record { entry = Part (lane_meaning m) n k; message = Some (message_meaning size m) }

-- what is left behind a fragment, where there is more, and where it was the last one
more_left : (size : ℕ) (m : MessageFields) (n k : ℕ) → suc k < length (cut size m.bytes.items) → rest_after (left_at size m n k).entry (left_at size m n k).message ≡ Some (left_at size m n (suc k))
more_left size m n k lt =
    let on : nat_lt (suc k) (length (cut size m.bytes.items)) ≡ true = grind (arith, nat_tests) in
    ap (λ (b : Bool). when b (left_at size m n (suc k))) on

none_left : (size : ℕ) (m : MessageFields) (n k : ℕ) → suc k ≡ length (cut size m.bytes.items) → rest_after (left_at size m n k).entry (left_at size m n k).message ≡ None
none_left size m n k is =
    let off : nat_lt (suc k) (length (cut size m.bytes.items)) ≡ false = grind (arith, nat_tests) in
    ap (λ (b : Bool). when b (left_at size m n (suc k))) off

-- how a stream goes on, once it took a fragment with a further owner
pub record GoesOnFrom (size : ℕ) (x y : TrackFields) (t : Taken) : Type 0 where
  pub was : (track_meaning size x).rest ≡ Some (taken_meaning size t)
  pub now : track_meaning size y ≡ record (track_meaning size x) { rest = rest_after (taken_meaning size t).entry (taken_meaning size t).message }
  pub owned : IsRestOwned size y.rest
  pub ticket : ticket_left y.rest ≡ ticket_left x.rest
  pub had : one_if_rest (track_meaning size x).rest ≡ 1
  pub has : one_if_rest (track_meaning size y).rest ≡ 1
  pub owes : rest_owes (track_meaning size x).rest ≡ suc (rest_owes (track_meaning size y).rest)

pub goes_on_from : (size : ℕ) (x y : TrackFields) (t : Taken) → IsRestOwned size x.rest → IsTaken x y t → GoesOnFrom size x y t
goes_on_from size x y t owned taken =
    let r = taken.rest in
    let l = taken.left in
    let m = r.message.value in
    let n = number_left (counts_meaning x) r in
    let own : IsOwned size r.fragment r.message r.others.items = subst (IsRestOwned size) taken.before owned in
    let mine = owners_last m l.others.items t.message (subst (AreOf m) taken.others own.all) in
    let long = ap length taken.others ∙ length-append l.others.items (t.message ∷ []) in
    let more : suc r.fragment < length (cut size m.bytes.items) = (let many = own.many in omega (arith, many, long)) in
    let next : l.fragment ≡ suc r.fragment = taken.next (let few = own.few in omega (arith, more, few)) in
    let same : l.message.value ≡ m = ap (λ (a : Arc MessageFields Global). a.value) taken.message in
    let is_taken : taken_meaning size t ≡ left_at size m n r.fragment =
    ap (λ (z : MessageFields). left_at size z t.number t.fragment) mine.0 ∙ ap (λ (i : ℕ). left_at size m i t.fragment) (taken.number mine.0) ∙ ap (left_at size m n) taken.fragment in
    let is_left : rest_meaning size (counts_meaning x) l ≡ left_at size m n (suc r.fragment) =
    ap (λ (z : MessageFields). left_at size z (latest_in (kind_meaning z.kind) (counts_meaning x)) l.fragment) same ∙ ap (left_at size m n) next in
    let before : track_meaning size x ≡ record (track_meaning size x) { rest = Some (left_at size m n r.fragment) } = ap (λ (o : Option RestFields). track_meaning size (record x { rest = o })) taken.before in
    let after : track_meaning size y ≡ record (track_meaning size x) { rest = Some (left_at size m n (suc r.fragment)) } =
    ap (track_meaning size) taken.after ∙ ap (λ (z : Rest). let u : Track = record (track_meaning size x) { rest = Some z } in u) is_left in
    let behind : rest_after (taken_meaning size t).entry (taken_meaning size t).message ≡ Some (left_at size m n (suc r.fragment)) =
    ap (λ (z : Rest). rest_after z.entry z.message) is_taken ∙ more_left size m n r.fragment more in
    let long_same : length (cut size l.message.value.bytes.items) ≡ length (cut size m.bytes.items) = ap (λ (z : MessageFields). length (cut size z.bytes.items)) same in
    let has_owners : IsOwned size l.fragment l.message l.others.items = record {
      all = subst (λ (z : MessageFields). AreOf z l.others.items) (sym same) mine.1;
      many = (let many = own.many in omega (arith, many, long, next, long_same));
      few = (let few = own.few in omega (arith, few, long_same));
    } in
    let kept : y.rest ≡ Some l = ap (λ (z : TrackFields). z.rest) taken.after in
    let owed_then : rest_owes (track_meaning size x).rest ≡ owed_for (length (cut size m.bytes.items) - r.fragment) = ap (λ (z : Track). rest_owes z.rest) before in
    let owed_now : rest_owes (track_meaning size y).rest ≡ owed_for (length (cut size m.bytes.items) - suc r.fragment) = ap (λ (z : Track). rest_owes z.rest) after in
    record {
      was = ap (λ (z : Track). z.rest) before ∙ ap (λ (z : Rest). Some z) (sym is_taken);
      now = after ∙ ap (λ (o : Option Rest). let u : Track = record (track_meaning size x) { rest = o } in u) (sym behind);
      owned = subst (IsRestOwned size) (sym kept) has_owners;
      ticket = ap ticket_left kept ∙ ap (λ (z : MessageFields). Some z.ticket) same ∙ sym (ap ticket_left taken.before);
      had = ap (λ (z : Track). one_if_rest z.rest) before;
      has = ap (λ (z : Track). one_if_rest z.rest) after;
      owes = owed_then ∙ owed_less (length (cut size m.bytes.items)) r.fragment more ∙ ap suc (sym owed_now);
    }
  where
    owed_less : (many k : ℕ) → suc k < many → owed_for (many - k) ≡ suc (owed_for (many - suc k))
    owed_less many k lt = omega (arith, lt)

-- ---- among all streams

-- what it took was what was left there
pub taken_was : (size at : ℕ) (ts : List TrackFields) (x y : TrackFields) (t : Taken) → at < length ts → x ≡ get_or ts at x → GoesOnFrom size x y t → rest_at (map (track_meaning size) ts) at ≡ Some (taken_meaning size t)
taken_was size at ts x y t lt read goes = rest_there size at ts x lt read ∙ goes.was

-- a stream goes on with so much
pub left_on : (size at : ℕ) (ts : List TrackFields) (x y : TrackFields) (rest : Option Rest) → at < length ts → x ≡ get_or ts at x → track_meaning size y ≡ record (track_meaning size x) { rest = rest }
    → map (track_meaning size) (set ts at y) ≡ set (map (track_meaning size) ts) at (record (track_of (map (track_meaning size) ts) at) { rest = rest })
left_on size at ts x y rest lt read now =
    let there : track_of (map (track_meaning size) ts) at ≡ track_meaning size x = get_or-map (track_meaning size) ts at x fresh_track lt ∙ ap (track_meaning size) (sym read) in
    map-set (track_meaning size) ts at y ∙ ap (set (map (track_meaning size) ts) at) (now ∙ ap (λ (z : Track). let u : Track = record z { rest = rest } in u) (sym there))

-- the tickets of the messages in part stay
tickets_same : (at : ℕ) (ts : List TrackFields) (x y : TrackFields) → x ≡ get_or ts at x → ticket_left y.rest ≡ ticket_left x.rest → tickets_left (set ts at y) ≡ tickets_left ts
tickets_same at [] x y read same = refl
tickets_same zero (t ∷ ts) x y read same = ap (λ (o : Option ℕ). o ∷ tickets_left ts) (same ∙ ap (λ (z : TrackFields). ticket_left z.rest) read)
tickets_same (suc at) (t ∷ ts) x y read same = ap (λ (os : List (Option ℕ)). ticket_left t.rest ∷ os) (tickets_same at ts x y read same)

-- what is counted of them: one index less is owed
pub taken_streams : (size at many sum : ℕ) (ts : List TrackFields) (x y : TrackFields) (t : Taken) (lists : TwoWayMap) → IsStreamsOf size ts many sum lists → at < length ts → x ≡ get_or ts at x → GoesOnFrom size x y t
    → IsStreamsOf size (set ts at y) many ((sum + (2 ^ 64 - 1)) % 2 ^ 64) lists
taken_streams size at many sum ts x y t lists h lt read goes =
    let owes_now = rest_owes (track_meaning size y).rest in
    let owed_then = rest_owes (track_meaning size x).rest in
    let new : IsCountOf size y 1 (owes_now % 2 ^ 64) = record { one = sym goes.has; owes = refl } in
    let old : IsCountOf size x 1 (owed_then % 2 ^ 64) = record { one = sym goes.had; owes = refl } in
    let turned = counted_set size many sum 1 (owes_now % 2 ^ 64) 1 (owed_then % 2 ^ 64) at ts (set ts at y) x y h.counted lt read refl new old in
    record {
      counted = record {
        some = turned.some;
        few = turned.few;
        parts = parts_stay many _ _ h.counted.parts turned.parts;
        owed = one_less sum owes_now owed_then _ goes.owes turned.owed;
      };
      listed = subst (λ (os : List (Option ℕ)). IsMapOf os lists) (sym (tickets_same at ts x y read goes.ticket)) h.listed;
      owned = rests_set size at ts y h.owned goes.owned;
    }
  where
    parts_stay : (many before after : ℕ) → many ≡ before % 2 ^ 32 → ((many + 1) % 2 ^ 32 + (2 ^ 32 - 1)) % 2 ^ 32 ≡ after % 2 ^ 32 → many ≡ after % 2 ^ 32
    parts_stay many before after was now = omega arith

    one_less : (sum now then after : ℕ) → then ≡ suc now → ((sum + now % 2 ^ 64) % 2 ^ 64 + (2 ^ 64 - then % 2 ^ 64)) % 2 ^ 64 ≡ after % 2 ^ 64 → (sum + (2 ^ 64 - 1)) % 2 ^ 64 ≡ after % 2 ^ 64
    one_less sum now then after owes is = omega arith

-- ---- the last fragment

-- nothing is left behind it
pub taken_last : (size : ℕ) (x : TrackFields) (r : RestFields) (t : Taken) → x.rest ≡ Some r → IsRestOwned size x.rest → AreOthersGone x.rest → t.message ≡ r.message → t.fragment ≡ r.fragment
    → rest_after (taken_meaning size t).entry (taken_meaning size t).message ≡ None
taken_last size x r t there owned gone message fragment =
    let own : IsOwned size r.fragment r.message r.others.items = subst (IsRestOwned size) there owned in
    let none : r.others.items ≡ [] = subst AreOthersGone there gone in
    let long : length r.others.items ≡ 0 = ap length none in
    let same : length (cut size t.message.value.bytes.items) ≡ length (cut size r.message.value.bytes.items) = ap (λ (a : Arc MessageFields Global). length (cut size a.value.bytes.items)) message in
    none_left size t.message.value t.number t.fragment (let many = own.many in omega (arith, many, long, same, fragment))
