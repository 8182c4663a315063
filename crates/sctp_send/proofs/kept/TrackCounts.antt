-- A message takes its number on a stream: one more is counted there, and so much is left of it.
use Rattle.std.proofs.Common.{◌≡◌, ℕ, zero, suc, ◌+◌, ◌-◌, ◌%◌, ◌^◌, ◌<◌, List, [], ◌∷◌, length, map, set, get_or, Option, Some, None, refl, sym, ap, ◌∙◌, subst, arith}
use Rattle.sctp_values.specs.Meanings.{kind_meaning}
use Rattle.sctp_values.specs.declared.kind.Kind.{Kind}
use Rattle.sctp_values.specs.declared.kind.Kind.TheVariants.{Ordered, Unordered}
use Rattle.sctp_send.specs.PartsKept.{changed_at}
use Rattle.sctp_send.specs.SenderKept.{Rest, Track}
use Rattle.sctp_send.specs.SenderFields.{counts_meaning, latest_in, rests_meaning, track_meaning}
use Rattle.sctp_send.specs.inner.Newcomers.{number_in, rest_at, has_rest, track_of}
use Rattle.sctp_send.specs.inner.Stocking.{counted_track, left_track, rest_from}
use Rattle.sctp_send.specs.inner.PartSeats.{ticket_left, tickets_left, IsStreamsOf}
use Rattle.sctp_sequence.specs.TwoWays.{IsMapOf}
use Rattle.sctp_send.specs.inner.Entering.{count_of, counted_to}
use Rattle.sctp_send.specs.inner.Walks.{total, one_if_rest, rest_owes}
use Rattle.sctp_send.specs.declared.kept.message.Message.{Message as MessageFields}
use Rattle.sctp_sequence.specs.declared.two_way_map.TwoWayMap.{TwoWayMap}
use Rattle.sctp_send.specs.declared.kept.track.Rest.{Rest as RestFields}
use Rattle.sctp_send.specs.declared.kept.track.Track.{Track as TrackFields}
use Rattle.sctp_send.proofs.kept.OwnedLemmas.{rests_counted}

-- how many messages of a kind have a number, as it was read
pub count_read : (size : ℕ) (k : Kind) (t : TrackFields) → number_in (kind_meaning k) (track_meaning size t) ≡ count_of k t
count_read size Ordered t = refl
count_read size Unordered t = refl

-- a message took its number on a stream, and so much of it is left
one_counted : (size many : ℕ) (k : Kind) (t : TrackFields) (rest : Option Rest) → many ≡ suc (count_of k t) → left_track rest (track_meaning size (counted_to k many t)) ≡ counted_track (kind_meaning k) rest (track_meaning size t)
one_counted size many Ordered t rest is = rw is refl
one_counted size many Unordered t rest is = rw is refl

-- the same among all streams
counted_on : (size many stream : ℕ) (k : Kind) (ts : List TrackFields) (rest : Option Rest) → stream < length ts → many ≡ suc (number_in (kind_meaning k) (track_of (map (track_meaning size) ts) stream))
    → set (map (track_meaning size) (changed_at (counted_to k many) stream ts)) stream (left_track rest (track_of (map (track_meaning size) (changed_at (counted_to k many) stream ts)) stream))
    ≡ set (map (track_meaning size) ts) stream (counted_track (kind_meaning k) rest (track_of (map (track_meaning size) ts) stream))
counted_on size many stream k [] rest low is = absurd (omega arith)
counted_on size many zero k (t ∷ ts) rest low is = ap (λ (x : Track). x ∷ map (track_meaning size) ts) (one_counted size many k t rest (is ∙ ap suc (count_read size k t)))
counted_on size many (suc stream) k (t ∷ ts) rest low is = ap (λ (xs : List Track). track_meaning size t ∷ xs) (counted_on size many stream k ts rest (omega arith) is)

-- its number is the latest one there
latest_on : (size many stream : ℕ) (k : Kind) (ts : List TrackFields) → stream < length ts → latest_in (kind_meaning k) (track_of (map (track_meaning size) (changed_at (counted_to k many) stream ts)) stream) ≡ many - 1
latest_on size many stream k [] low = absurd (omega arith)
latest_on size many zero Ordered (t ∷ ts) low = refl
latest_on size many zero Unordered (t ∷ ts) low = refl
latest_on size many (suc stream) k (t ∷ ts) low = latest_on size many stream k ts (omega arith)

-- the same of a message, of which so many fragments entered
pub entered_tracks : (size n many count : ℕ) (m : MessageFields) (ts us : List TrackFields) (now : List Track) → m.stream < length ts → us ≡ changed_at (counted_to m.kind many) m.stream ts
    → many ≡ suc n → n ≡ number_in (kind_meaning m.kind) (track_of (map (track_meaning size) ts) m.stream)
    → now ≡ set (map (track_meaning size) us) m.stream (left_track (rest_from size m (latest_in (kind_meaning m.kind) (track_of (map (track_meaning size) us) m.stream)) count) (track_of (map (track_meaning size) us) m.stream))
    → now ≡ set (map (track_meaning size) ts) m.stream (counted_track (kind_meaning m.kind) (rest_from size m n count) (track_of (map (track_meaning size) ts) m.stream))
entered_tracks size n many count m ts us now low is next number left =
    let ws = map (track_meaning size) (changed_at (counted_to m.kind many) m.stream ts) in
    let latest : latest_in (kind_meaning m.kind) (track_of ws m.stream) ≡ n = latest_on size many m.stream m.kind ts low ∙ omega (arith, next) in
    let here = subst (λ (xs : List TrackFields). now ≡ set (map (track_meaning size) xs) m.stream (left_track (rest_from size m (latest_in (kind_meaning m.kind) (track_of (map (track_meaning size) xs) m.stream)) count) (track_of (map (track_meaning size) xs) m.stream))) is left in
    here ∙ ap (λ (k : ℕ). set ws m.stream (left_track (rest_from size m k count) (track_of ws m.stream))) latest
    ∙ counted_on size many m.stream m.kind ts (rest_from size m n count) low (next ∙ ap suc number)

-- what is left on a stream, as it was read
pub rest_there : (size stream : ℕ) (ts : List TrackFields) (x : TrackFields) → stream < length ts → x ≡ get_or ts stream x → rest_at (map (track_meaning size) ts) stream ≡ (track_meaning size x).rest
rest_there size stream [] x low read = absurd (omega arith)
rest_there size zero (t ∷ ts) x low read = ap (λ (y : TrackFields). (track_meaning size y).rest) (sym read)
rest_there size (suc stream) (t ∷ ts) x low read = rest_there size stream ts x (omega arith) read

-- ---- what is left stays

-- how many have a number changes nothing in what is left
rest_stays : {B : Type 0} (f : Option Rest → B) (size many : ℕ) (k : Kind) (t : TrackFields) → ((a b : Track) (o : Option RestFields) → f (rests_meaning size a o) ≡ f (rests_meaning size b o))
    → f (track_meaning size (counted_to k many t)).rest ≡ f (track_meaning size t).rest
rest_stays f size many Ordered t same = same (counts_meaning (counted_to Ordered many t)) (counts_meaning t) t.rest
rest_stays f size many Unordered t same = same (counts_meaning (counted_to Unordered many t)) (counts_meaning t) t.rest

total_stays : (f : Option Rest → ℕ) (size many at : ℕ) (k : Kind) (ts : List TrackFields) → ((a b : Track) (o : Option RestFields) → f (rests_meaning size a o) ≡ f (rests_meaning size b o))
    → total (λ t. f t.rest) (map (track_meaning size) (changed_at (counted_to k many) at ts)) ≡ total (λ t. f t.rest) (map (track_meaning size) ts)
total_stays f size many at k [] same = refl
total_stays f size many zero k (t ∷ ts) same = ap (λ (n : ℕ). n + total (λ t. f t.rest) (map (track_meaning size) ts)) (rest_stays f size many k t same)
total_stays f size many (suc at) k (t ∷ ts) same = ap (λ (n : ℕ). f (track_meaning size t).rest + n) (total_stays f size many at k ts same)

fields_stay : (many : ℕ) (k : Kind) (t : TrackFields) → (counted_to k many t).rest ≡ t.rest
fields_stay many Ordered t = refl
fields_stay many Unordered t = refl

tickets_stay : (many at : ℕ) (k : Kind) (ts : List TrackFields) → tickets_left (changed_at (counted_to k many) at ts) ≡ tickets_left ts
tickets_stay many at k [] = refl
tickets_stay many zero k (t ∷ ts) = ap (λ (o : Option RestFields). ticket_left o ∷ tickets_left ts) (fields_stay many k t)
tickets_stay many (suc at) k (t ∷ ts) = ap (λ (os : List (Option ℕ)). ticket_left t.rest ∷ os) (tickets_stay many at k ts)

-- and where nothing was, nothing is
pub idle_counted : (size many at stream : ℕ) (k : Kind) (ts : List TrackFields) → has_rest (rest_at (map (track_meaning size) (changed_at (counted_to k many) at ts)) stream) ≡ has_rest (rest_at (map (track_meaning size) ts) stream)
idle_counted size many at stream k [] = refl
idle_counted size many zero zero k (t ∷ ts) = rest_stays has_rest size many k t same
  where
    same : (a b : Track) (o : Option RestFields) → has_rest (rests_meaning size a o) ≡ has_rest (rests_meaning size b o)
    same a b None = refl
    same a b (Some r) = refl
idle_counted size many zero (suc stream) k (t ∷ ts) = refl
idle_counted size many (suc at) zero k (t ∷ ts) = refl
idle_counted size many (suc at) (suc stream) k (t ∷ ts) = idle_counted size many at stream k ts

pub long_stays : (many at : ℕ) (k : Kind) (ts : List TrackFields) → length (changed_at (counted_to k many) at ts) ≡ length ts
long_stays many at k [] = refl
long_stays many zero k (t ∷ ts) = refl
long_stays many (suc at) k (t ∷ ts) = ap suc (long_stays many at k ts)

-- all that is said of the streams
pub streams_counted : (size many at parts owed : ℕ) (k : Kind) (ts : List TrackFields) (lists : TwoWayMap) → IsStreamsOf size ts parts owed lists → IsStreamsOf size (changed_at (counted_to k many) at ts) parts owed lists
streams_counted size many at parts owed k ts lists h =
    let long = long_stays many at k ts in
    let few = h.counted.few in
    record {
      counted = record {
        some = h.counted.some;
        few = omega (arith, long, few);
        parts = h.counted.parts ∙ ap (λ (n : ℕ). n % 2 ^ 32) (sym (total_stays one_if_rest size many at k ts one));
        owed = h.counted.owed ∙ ap (λ (n : ℕ). n % 2 ^ 64) (sym (total_stays rest_owes size many at k ts owes));
      };
      listed = subst (λ (os : List (Option ℕ)). IsMapOf os lists) (sym (tickets_stay many at k ts)) h.listed;
      owned = rests_counted size many at k ts h.owned;
    }
  where
    one : (a b : Track) (o : Option RestFields) → one_if_rest (rests_meaning size a o) ≡ one_if_rest (rests_meaning size b o)
    one a b None = refl
    one a b (Some r) = refl

    owes : (a b : Track) (o : Option RestFields) → rest_owes (rests_meaning size a o) ≡ rest_owes (rests_meaning size b o)
    owes a b None = refl
    owes a b (Some r) = refl

-- an element that was changed where it stands
pub set_changed : {A : Type 0} (f : A → A) (at : ℕ) (xs : List A) (x y : A) → x ≡ get_or xs at x → y ≡ f x → set xs at y ≡ changed_at f at xs
set_changed f at [] x y read is = refl
set_changed f zero (z ∷ xs) x y read is = ap (λ w. w ∷ xs) (is ∙ ap f read)
set_changed f (suc at) (z ∷ xs) x y read is = ap (λ zs. z ∷ zs) (set_changed f at xs x y read is)
