-- What is counted of the messages that wait, and of the streams: one message more, one less, one stream instead of another.
use Rattle.std.proofs.Common.{◌≡◌, ℕ, zero, suc, ◌+◌, ◌-◌, ◌%◌, ◌^◌, ◌<◌, ◌≤◌, List, [], ◌∷◌, length, map, Option, Some, None, refl, ap, ◌∙◌, arith, get_or}
use Rattle.std.specs.Prelude.{set, replicate}
use Rattle.std.specs.List.{sum_by}
use Rattle.std.proofs.lemmas.List.{length-set, length-replicate}
use Rattle.std.proofs.lemmas.List.Recursion.{is_sum_by}
use Rattle.std.specs.declared.sync.Arc.{Arc}
use Rattle.std.specs.declared.alloc.Global.{Global}
use Rattle.sctp_model.specs.sender.Queueing.{owed_by_queue}
use Rattle.sctp_send.specs.SenderKept.{Track, Rest}
use Rattle.sctp_send.specs.SenderFields.{queued_by, counts_meaning, rests_meaning, track_meaning}
use Rattle.sctp_send.specs.inner.Walks.{total, one_if_rest, rest_owes}
use Rattle.sctp_send.specs.inner.Counting.{IsCountedOf}
use Rattle.sctp_send.specs.inner.Seating.{owed_by}
use Rattle.sctp_send.specs.declared.kept.message.Message.{Message as MessageFields}
use Rattle.sctp_send.specs.declared.kept.track.Rest.{Rest as RestFields}
use Rattle.sctp_send.specs.declared.kept.track.Track.{Track as TrackFields}

-- ---- messages that wait

pub owed_is : (size : ℕ) (ms : List (Arc MessageFields Global)) → owed_by_queue (map (queued_by size) ms) ≡ sum_by (owed_by size) ms
owed_is size ms = is_sum_by (λ (ds : List (Arc MessageFields Global)). owed_by_queue (map (queued_by size) ds)) (owed_by size) refl (λ m ds. refl) ms

-- ---- streams

-- a sum over streams
abbrev pub total_by : (Track → ℕ) → (size : ℕ) → List TrackFields → ℕ
total_by f size ts = total f (map (track_meaning size) ts)

total_set : (f : Track → ℕ) (size : ℕ) (ts : List TrackFields) (n : ℕ) (x y : TrackFields) → n < length ts → x ≡ get_or ts n x → total_by f size (set ts n y) + f (track_meaning size x) ≡ total_by f size ts + f (track_meaning size y)
total_set f size [] n x y lt read = absurd (omega arith)
total_set f size (t ∷ ts) zero x y lt read = let same : f (track_meaning size x) ≡ f (track_meaning size t) = ap (λ (z : TrackFields). f (track_meaning size z)) read in omega (arith, same)
total_set f size (t ∷ ts) (suc n) x y lt read = let rest = total_set f size ts n x y (omega arith) read in omega (arith, rest)

-- a stream that has no message with a number
abbrev pub fresh_fields : TrackFields
fresh_fields = record { ordered = 0; unordered = 0; rest = None }

none_fresh : (f : Track → ℕ) (size n : ℕ) → f (track_meaning size fresh_fields) ≡ 0 → total_by f size (replicate n fresh_fields) ≡ 0
none_fresh f size zero none = refl
none_fresh f size (suc n) none = let rest = none_fresh f size n none in omega (arith, none, rest)

-- the counts of such streams
pub counted_fresh : (size n : ℕ) (ts : List TrackFields) → 0 < size → n < 2 ^ 16 → ts ≡ replicate n fresh_fields → IsCountedOf size ts 0 0
counted_fresh size n ts some few is =
    let long = length-replicate n fresh_fields in
    let parts : total_by (λ t. one_if_rest t.rest) size (replicate n fresh_fields) ≡ 0 = none_fresh (λ (t : Track). one_if_rest t.rest) size n refl in
    let owes : total_by (λ t. rest_owes t.rest) size (replicate n fresh_fields) ≡ 0 = none_fresh (λ (t : Track). rest_owes t.rest) size n refl in
    rw is (record { some = some; few = omega (arith, long, few); parts = omega (arith, parts); owed = omega (arith, owes) })

at_most : (o : Option Rest) → one_if_rest o ≤ 1
at_most None = omega arith
at_most (Some r) = omega arith

-- what a stream counts for
pub record IsCountOf (size : ℕ) (t : TrackFields) (part owed : ℕ) : Type 0 where
  pub one : part ≡ one_if_rest (track_meaning size t).rest
  pub owes : owed ≡ rest_owes (track_meaning size t).rest % 2 ^ 64

-- the counts once a stream goes on in another way
pub counted_set : (size many sum part owed was had n : ℕ) (ts next : List TrackFields) (x y : TrackFields) → IsCountedOf size ts many sum → n < length ts → x ≡ get_or ts n x → next ≡ set ts n y
    → IsCountOf size y part owed → IsCountOf size x was had
    → IsCountedOf size next (((many + part) % 2 ^ 32 + (2 ^ 32 - was)) % 2 ^ 32) (((sum + owed) % 2 ^ 64 + (2 ^ 64 - had)) % 2 ^ 64)
counted_set size many sum part owed was had n ts next x y h lt read is new old =
    let parts : total_by (λ t. one_if_rest t.rest) size next + one_if_rest (track_meaning size x).rest ≡ total_by (λ t. one_if_rest t.rest) size ts + one_if_rest (track_meaning size y).rest =
    ap (λ (us : List TrackFields). total_by (λ t. one_if_rest t.rest) size us + one_if_rest (track_meaning size x).rest) is ∙ total_set (λ (t : Track). one_if_rest t.rest) size ts n x y lt read in
    let owes : total_by (λ t. rest_owes t.rest) size next + rest_owes (track_meaning size x).rest ≡ total_by (λ t. rest_owes t.rest) size ts + rest_owes (track_meaning size y).rest =
    ap (λ (us : List TrackFields). total_by (λ t. rest_owes t.rest) size us + rest_owes (track_meaning size x).rest) is ∙ total_set (λ (t : Track). rest_owes t.rest) size ts n x y lt read in
    let long = ap (λ (us : List TrackFields). length us) is ∙ length-set ts n y in
    record {
      some = h.some;
      few = omega (arith, long, h.few);
      parts = count_turned many part was _ _ _ _ h.parts new.one old.one (at_most (track_meaning size x).rest) parts;
      owed = sum_turned sum owed had _ _ _ _ h.owed new.owes old.owes owes;
    }
  where
    count_turned : (many part was before new old after : ℕ) → many ≡ before % 2 ^ 32 → part ≡ new → was ≡ old → old ≤ 1 → after + old ≡ before + new → ((many + part) % 2 ^ 32 + (2 ^ 32 - was)) % 2 ^ 32 ≡ after % 2 ^ 32
    count_turned many part was before new old after a b c d e = omega arith

    sum_turned : (sum owed had before new old after : ℕ) → sum ≡ before % 2 ^ 64 → owed ≡ new % 2 ^ 64 → had ≡ old % 2 ^ 64 → after + old ≡ before + new → ((sum + owed) % 2 ^ 64 + (2 ^ 64 - had)) % 2 ^ 64 ≡ after % 2 ^ 64
    sum_turned sum owed had before new old after a b c d = omega arith

-- ---- none in part

-- fragments of another size change nothing in that
parts_of_any : (a b : ℕ) (ts : List TrackFields) → total_by (λ t. one_if_rest t.rest) a ts ≡ total_by (λ t. one_if_rest t.rest) b ts
parts_of_any a b [] = refl
parts_of_any a b (t ∷ ts) = let rest = parts_of_any a b ts in let here = same t.rest in omega (arith, here, rest)
  where
    same : (o : Option RestFields) → one_if_rest (rests_meaning a (counts_meaning t) o) ≡ one_if_rest (rests_meaning b (counts_meaning t) o)
    same None = refl
    same (Some r) = refl

parts_within : (size : ℕ) (ts : List TrackFields) → total_by (λ t. one_if_rest t.rest) size ts ≤ length ts
parts_within size [] = omega arith
parts_within size (t ∷ ts) = let rest = parts_within size ts in let here = at_most (rests_meaning size (counts_meaning t) t.rest) in omega (arith, here, rest)

-- the count is exact, since streams are few
pub no_part : (size other many sum : ℕ) (ts : List TrackFields) → IsCountedOf size ts many sum → many ≡ 0 → total_by (λ t. one_if_rest t.rest) other ts ≡ 0
no_part size other many sum ts h none =
    let most = parts_within size ts in
    let exact = h.parts in
    let few = h.few in
    parts_of_any other size ts ∙ (omega (arith, most, exact, few, none))
