-- The owners of a message go to its entries, one after the other; those that are left go on with what is left of it.
use Rattle.std.proofs.Common.{◌≡◌, ℕ, ◌+◌, ◌-◌, ◌<◌, List, [], ◌∷◌, ◌++◌, length, map, set, get_or, zero, suc, Bool, true, false, Option, Some, None, refl, sym, ap, ◌∙◌, subst, arith, length-append}
use Rattle.std.specs.Prelude.{nat_lt}
use Rattle.std.proofs.lemmas.Bool.Decides.{nat_tests}
use Rattle.std.proofs.lemmas.List.Elements.{All-pop}
use Rattle.std.specs.declared.alloc.Global.{Global}
use Rattle.std.specs.declared.sync.Arc.{Arc}
use Rattle.sctp_model.specs.messages.Plan.{Part}
use Rattle.sctp_model.specs.sender.Queueing.{cut}
use Rattle.sctp_model.specs.sender.Words.{when}
use Rattle.sctp_values.specs.Meanings.{kind_meaning}
use Rattle.sctp_send.specs.PartsKept.{IsSameRoom, StreamsKept}
use Rattle.sctp_send.specs.SenderKept.{Item, Rest, Track}
use Rattle.sctp_send.specs.OutstandingFields.{item_meaning, lane_meaning, message_meaning}
use Rattle.sctp_send.specs.SenderFields.{latest_in, rests_meaning, track_meaning}
use Rattle.sctp_send.specs.inner.Newcomers.{begun_items, has_rest, rest_at, track_of}
use Rattle.sctp_send.specs.inner.Entering.{HaveEntered}
use Rattle.sctp_send.specs.inner.Owning.{AreOf, IsOwned}
use Rattle.sctp_send.specs.inner.Stocking.{left_track, rest_from}
use Rattle.sctp_send.specs.declared.kept.message.Message.{Message as MessageFields}
use Rattle.sctp_send.specs.declared.kept.track.Rest.{Rest as RestFields}
use Rattle.sctp_send.specs.declared.kept.track.Track.{Track as TrackFields}
use Rattle.sctp_send.specs.declared.stock.Stock.{Stock}
use Rattle.sctp_send.proofs.fill.EnterLemmas.{left_on}

-- Behind the first fragment of a message came those up to so many, each with one of the owners that there were, and there is as much room.
pub record IsPushed (old new : Stock) (had left : List (Arc MessageFields Global)) (number count : ℕ) : Type 0 where
  pub same : new ≡ record old { outstanding = new.outstanding }
  pub items : (size : ℕ) (before : List Item) (m : MessageFields) → AreOf m had → map (item_meaning size) old.outstanding.items ≡ before ++ begun_items (lane_meaning m) number (message_meaning size m) 1
      → map (item_meaning size) new.outstanding.items ≡ before ++ begun_items (lane_meaning m) number (message_meaning size m) count
  pub owners : (m : MessageFields) → AreOf m had → AreOf m left
  pub many : length left + count ≡ length had + 1
  pub long : length new.outstanding.items + 1 ≡ length old.outstanding.items + count
  pub room : IsSameRoom old.outstanding new.outstanding

-- none came yet
pub pushed_none : (d : Stock) (had : List (Arc MessageFields Global)) (number : ℕ) → IsPushed d d had had number 1
pushed_none d had number = record { same = refl; items = λ size before m are is. is; owners = λ m are. are; many = refl; long = refl; room = record { size = refl; header = refl; capacity = refl } }

-- nothing is in part on a stream
pub set_idle : (ts : List Track) (stream : ℕ) (rest : Option Rest) → rest ≡ None → has_rest (rest_at ts stream) ≡ false → ts ≡ set ts stream (left_track rest (track_of ts stream))
set_idle [] stream rest none idle = refl
set_idle (t ∷ ts) zero rest none idle = ap (λ (x : Track). x ∷ ts) (of_track t.rest refl idle)
  where
    of_track : (o : Option Rest) → t.rest ≡ o → has_rest o ≡ false → t ≡ left_track rest t
    of_track None is off = ap (λ (r : Option Rest). left_track r t) (is ∙ sym none)
    of_track (Some r) is off = absurd (cc)
set_idle (t ∷ ts) (suc stream) rest none idle = ap (λ (xs : List Track). t ∷ xs) (set_idle ts stream rest none idle)

-- the last one of some owners, and the others
pub owners_last : (m : MessageFields) (others : List (Arc MessageFields Global)) (a : Arc MessageFields Global) → AreOf m (others ++ a ∷ []) → (a.value ≡ m) × AreOf m others
owners_last m others a are = let parts = All-pop (λ (x : Arc MessageFields Global). x.value ≡ m) (others ++ a ∷ []) others (Some a) refl are in (parts.1, parts.0)

-- those that are left own the rest of the message
pub owners_left : (size count : ℕ) (m : Arc MessageFields Global) (had left : List (Arc MessageFields Global)) → 0 < count → length left + count ≡ length had + 1 → AreOf m.value left → IsOwned size 0 m had → IsOwned size (count - 1) m left
owners_left size count m had left some many are x = let all = x.many in record { all = are; many = omega (arith, all, many, some); few = x.few }

-- what is left of the message begins with one of those, and has the others
pub rest_owned : (size count : ℕ) (m : Arc MessageFields Global) (r : RestFields) (had : List (Arc MessageFields Global)) → had ≡ r.others.items ++ r.message ∷ [] → r.fragment ≡ count → 0 < count → IsOwned size (count - 1) m had
    → IsOwned size r.fragment r.message r.others.items
rest_owned size count m r had is at some x =
    let last = owners_last m.value r.others.items r.message (subst (AreOf m.value) is x.all) in
    let long = ap (λ (bs : List (Arc MessageFields Global)). length bs) is ∙ length-append r.others.items (r.message ∷ []) in
    let all = x.many in
    let same = ap (λ (y : MessageFields). length (cut size y.bytes.items)) last.0 in
    record {
      all = subst (λ (y : MessageFields). AreOf y r.others.items) (sym last.0) last.1;
      many = omega (arith, all, long, some, same, at);
      few = (let few = x.few in omega (arith, few, same));
    }

pub rest_begins : (size count : ℕ) (t : Track) (m : Arc MessageFields Global) (r : RestFields) (had : List (Arc MessageFields Global)) → had ≡ r.others.items ++ r.message ∷ [] → r.fragment ≡ count → 0 < count → IsOwned size (count - 1) m had
    → rests_meaning size t (Some r) ≡ rest_from size m.value (latest_in (kind_meaning m.value.kind) t) count
rest_begins size count t m r had is at some x =
    let last = owners_last m.value r.others.items r.message (subst (AreOf m.value) is x.all) in
    let long = ap (λ (bs : List (Arc MessageFields Global)). length bs) is ∙ length-append r.others.items (r.message ∷ []) in
    let all = x.many in
    let low : count < length (cut size m.value.bytes.items) = omega (arith, all, long, some) in
    let more : nat_lt count (length (cut size m.value.bytes.items)) ≡ true = grind (arith, nat_tests) in
    let left : (y : MessageFields) (k : ℕ) → Rest = λ y k. record { entry = Part (lane_meaning y) (latest_in (kind_meaning y.kind) t) k; message = Some (message_meaning size y) } in
    ap (λ (y : MessageFields). Some (left y r.fragment)) last.0 ∙ ap (λ (k : ℕ). Some (left m.value k)) at ∙ sym (ap (λ (b : Bool). when b (left m.value count)) more)

-- all fragments of a message entered, with all of its owners
pub entered_all : (size stream number count : ℕ) (m : Arc MessageFields Global) (had left : List (Arc MessageFields Global)) (old new : Stock) → IsPushed old new had left number count → 0 < count → length left ≡ 0
    → has_rest (rest_at (map (track_meaning size) old.streams.items) stream) ≡ false → IsOwned size 0 m had → HaveEntered size m.value stream number count old new
entered_all size stream number count m had left old new p some none idle x =
    let kept = ap (λ (d : Stock). d.streams) p.same in
    let many = p.many in
    let all = x.many in
    let over : nat_lt count (length (cut size m.value.bytes.items)) ≡ false = grind (arith, nat_tests) in
    let track = track_of (map (track_meaning size) old.streams.items) stream in
    let nothing : rest_from size m.value (latest_in (kind_meaning m.value.kind) track) count ≡ None = rw over refl in
    record {
      same = p.same ∙ ap (λ (k : StreamsKept). record old { outstanding = new.outstanding; streams = k }) (sym kept);
      room = p.room;
      sized = ap (λ (k : StreamsKept). k.size) kept;
      items = λ before is. p.items size before m.value x.all is;
      tracks = ap (λ (k : StreamsKept). map (track_meaning size) k.items) kept ∙ set_idle (map (track_meaning size) old.streams.items) stream _ nothing idle;
    }

-- some of them entered, and the stream goes on with what is left
pub entered_some : (size stream at number count : ℕ) (m : Arc MessageFields Global) (had left : List (Arc MessageFields Global)) (old new : Stock) (k : StreamsKept) (r : RestFields) (t : TrackFields) → IsPushed old new had left number count
    → 0 < count → left ≡ r.others.items ++ r.message ∷ [] → r.fragment ≡ count → at ≡ stream → stream < length old.streams.items → t ≡ get_or new.streams.items at t
    → k ≡ record new.streams { items = set new.streams.items at (record t { rest = Some r }) } → IsOwned size 0 m had → HaveEntered size m.value stream number count old (record new { streams = k })
entered_some size stream at number count m had left old new k r t p some is next here low read after x =
    let kept = ap (λ (d : Stock). d.streams) p.same in
    let now = subst (λ (w : StreamsKept). k ≡ record w { items = set w.items at (record t { rest = Some r }) }) kept after in
    let was = subst (λ (w : StreamsKept). t ≡ get_or w.items at t) kept read in
    let owned = owners_left size count m had left some p.many (p.owners m.value x.all) x in
    let track = track_of (map (track_meaning size) old.streams.items) stream in
    record {
      same = ap (λ (d : Stock). record d { streams = k }) p.same;
      room = p.room;
      sized = ap (λ (w : StreamsKept). w.size) now;
      items = λ before is. p.items size before m.value x.all is;
      tracks = left_on size at stream old.streams.items k.items t (Some r) here low was (ap (λ (w : StreamsKept). w.items) now)
          ∙ ap (λ (o : Option Rest). set (map (track_meaning size) old.streams.items) stream (left_track o track)) (rest_begins size count track m r left is next some owned);
    }
