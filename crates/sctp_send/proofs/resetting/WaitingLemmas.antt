-- Which streams wait for their reset, as one more is asked for, and as some have their response (RFC 6525, 5.1 and 5.2.7).
use Rattle.std.proofs.Common.{◌≡◌, ℕ, zero, suc, ◌<◌, ◌≤◌, min, List, [], ◌∷◌, length, filter, true, false, Option, Some, None, refl, sym, ap, ◌∙◌, arith}
use Rattle.std.specs.Prelude.{◌==◌, ◌&&◌, not, nat_lt, slice_get, insert}
use Rattle.std.proofs.lemmas.Bool.Decides.{nat_tests}
use Rattle.std.specs.Vec.{vec_capacity}
use Rattle.sctp_model.specs.numbers.Limits.{STREAM_LIMIT}
use Rattle.sctp_model.specs.sender.Outgoing as model
use Rattle.sctp_model.specs.sender.Words.{count_up}
use Rattle.sctp_send.specs.PartsKept.{changed_at}
use Rattle.sctp_send.specs.ResetsKept.{sending_meaning, sending_there, is_resetting_in}
use Rattle.sctp_send.specs.inner.Ordering.{before, AreInOrder}
use Rattle.sctp_send.specs.inner.Resetting.{stream_as, begun_anew, restarted_by, all_changed, waiting_of}
use Rattle.sctp_send.specs.declared.kept.track.Track.{Track as TrackFields}
use Rattle.sctp_send.specs.declared.kept.resets.Sending.{Sending}
use Rattle.sctp_send.specs.declared.kept.resets.Sending.TheVariants.{Sends, Resets}
use Rattle.sctp_send.specs.declared.kept.resets.StreamReset.{StreamReset}
use Rattle.sctp_send.specs.declared.kept.request.Request.{Request}
use Rattle.sctp_send.specs.declared.kept.resets.ResetTable.{ResetTable}
use Rattle.sctp_send.proofs.kept.ChangedLemmas.{count_changed}
use Rattle.sctp_send.proofs.resetting.CountedUp.{filter_alike, get_changed, get_all, length-all}
use Rattle.sctp_send.proofs.resetting.PassingLists.{rises, fewer_pass, one_more, some_stop}

-- ---- a reset is asked for

-- the stream waits, if it is there, and the others are as they were
waits_there : (rs : List StreamReset) (s : ℕ) → s < length rs → is_resetting_in (changed_at (stream_as Resets) s rs) s ≡ true
waits_there [] s low = absurd (omega arith)
waits_there (r ∷ rs) zero low = refl
waits_there (r ∷ rs) (suc s) low = waits_there rs s (omega (arith, low))

waits_apart : (rs : List StreamReset) (s x : ℕ) → (x == s) ≡ false → is_resetting_in (changed_at (stream_as Resets) s rs) x ≡ is_resetting_in rs x
waits_apart rs s x apart =
    let turned : (s == x) ≡ false = grind (arith, nat_tests) in
    ap (λ (o : Option StreamReset). model.is_resetting (sending_there o)) (get_changed (stream_as Resets) s rs x ∙ rw turned refl)

-- there are as many streams
many_waiting : (rs : List StreamReset) (s : ℕ) → filter (is_resetting_in (changed_at (stream_as Resets) s rs)) (count_up 0 (min (length rs) STREAM_LIMIT)) ≡ waiting_of (changed_at (stream_as Resets) s rs)
many_waiting rs s = ap (λ (n : ℕ). filter (is_resetting_in (changed_at (stream_as Resets) s rs)) (count_up 0 (min n STREAM_LIMIT))) (sym (count_changed (stream_as Resets) s rs))

-- a stream that may be listed and doesn't wait
module _ (rs : List StreamReset) (s : ℕ) (unlisted : (nat_lt s (min (length rs) STREAM_LIMIT) && not (is_resetting_in rs s)) ≡ true) where
  low : s < min (length rs) STREAM_LIMIT
  low = grind (arith, nat_tests, unlisted)

  off : is_resetting_in rs s ≡ false
  off = grind (arith, unlisted)

  -- it comes in its place
  pub listed_with : insert (waiting_of rs) (before (λ (x : ℕ). x) s (waiting_of rs)) s ≡ waiting_of (changed_at (stream_as Resets) s rs)
  listed_with =
      one_more (is_resetting_in rs) (is_resetting_in (changed_at (stream_as Resets) s rs)) s 0 (min (length rs) STREAM_LIMIT) (omega arith) (omega (arith, low)) off
      (waits_there rs s (omega (arith, low))) (waits_apart rs s) ∙ many_waiting rs s

  -- and there is room for it, where there is for all
  pub listed_room : length (waiting_of rs) < min (length rs) STREAM_LIMIT
  listed_room = fewer_pass (is_resetting_in rs) s 0 (min (length rs) STREAM_LIMIT) (omega arith) (omega (arith, low)) off

-- one that waits, or may not be listed: nothing changes
pub listed_so : (rs : List StreamReset) (s : ℕ) → (nat_lt s (min (length rs) STREAM_LIMIT) && not (is_resetting_in rs s)) ≡ false → waiting_of rs ≡ waiting_of (changed_at (stream_as Resets) s rs)
listed_so rs s off =
    filter_alike (is_resetting_in rs) (is_resetting_in (changed_at (stream_as Resets) s rs)) 0 (min (length rs) STREAM_LIMIT) (λ x from upto. alike x (omega (arith, upto))) ∙ many_waiting rs s
  where
    alike : (x : ℕ) → x < min (length rs) STREAM_LIMIT → is_resetting_in rs x ≡ is_resetting_in (changed_at (stream_as Resets) s rs) x
    alike x upto =
        let low : x < length rs = omega (arith, upto) in
        grind (arith, nat_tests, off, upto, waits_there rs x low, waits_apart rs s x)

-- those that wait rise
pub waiting_rises : (rs : List StreamReset) → AreInOrder (λ (x : ℕ). x) 0 (waiting_of rs)
waiting_rises rs = rises (is_resetting_in rs) 0 0 (min (length rs) STREAM_LIMIT) (omega arith)

-- ---- a response

-- Streams change so that none of them waits.
module _ (f : ℕ → StreamReset → StreamReset) (same : (s : ℕ) (r : StreamReset) → f s (f s r) ≡ f s r) (off : (s : ℕ) (r : StreamReset) → model.is_resetting (sending_meaning (f s r).sending) ≡ false) (ss : List ℕ) (rs : List StreamReset) where
  none_begins : (s : ℕ) → is_resetting_in (all_changed f ss rs) s ≡ (is_resetting_in rs s && is_resetting_in (all_changed f ss rs) s)
  none_begins s = grind (arith, get_all f same ss rs s, off s)

  -- those that wait are those that waited, without these
  pub listed_without : filter (is_resetting_in (all_changed f ss rs)) (waiting_of rs) ≡ waiting_of (all_changed f ss rs)
  listed_without =
      some_stop (is_resetting_in rs) (is_resetting_in (all_changed f ss rs)) 0 (min (length rs) STREAM_LIMIT) none_begins
      ∙ ap (λ (n : ℕ). filter (is_resetting_in (all_changed f ss rs)) (count_up 0 (min n STREAM_LIMIT))) (sym (length-all f ss rs))

-- one that is reset takes messages
pub sends_anew : (t : Option TrackFields) → (begun_anew t).sending ≡ Sends
sends_anew None = refl
sends_anew (Some t) = refl

pub anew_waits : (ts : List TrackFields) (s : ℕ) (r : StreamReset) → model.is_resetting (sending_meaning (restarted_by ts s r).sending) ≡ false
anew_waits ts s r = ap (λ (x : Sending). model.is_resetting (sending_meaning x)) (sends_anew (slice_get ts s))

-- ---- a table changes

-- Streams changed, those that wait are listed if those were that waited, and this request was made last.
pub record IsListed (t u : ResetTable) (rs : List StreamReset) (r : Option Request) (many : ℕ) : Type 0 where
  pub streams : u.streams.items ≡ rs
  pub listed : min (length t.streams.items) STREAM_LIMIT ≤ vec_capacity t.resetting → t.resetting.items ≡ waiting_of t.streams.items → u.resetting.items ≡ waiting_of rs
  pub capacity : vec_capacity t.resetting ≤ vec_capacity u.resetting
  pub last : u.last_made ≡ r
  pub made : u.made ≡ many

-- a stream was listed, and shut
pub shut_from : (t t1 t2 : ResetTable) (stream : ℕ) → t1 ≡ record t { resetting = t1.resetting }
    → (min (length t.streams.items) STREAM_LIMIT ≤ vec_capacity t.resetting → t.resetting.items ≡ waiting_of t.streams.items → t1.resetting.items ≡ waiting_of (changed_at (stream_as Resets) stream t.streams.items))
    → vec_capacity t.resetting ≤ vec_capacity t1.resetting → t2 ≡ record t1 { streams = t2.streams } → t2.streams.items ≡ changed_at (stream_as Resets) stream t1.streams.items
    → IsListed t t2 (changed_at (stream_as Resets) stream t.streams.items) t.last_made t.made
shut_from t t1 t2 stream one listed capacity two streams = record {
  streams = streams ∙ ap (λ (u : ResetTable). changed_at (stream_as Resets) stream u.streams.items) one;
  listed = λ room was. ap (λ (u : ResetTable). u.resetting.items) two ∙ listed room was;
  capacity = let same = ap (λ (u : ResetTable). vec_capacity u.resetting) two in omega (arith, capacity, same);
  last = ap (λ (u : ResetTable). u.last_made) two ∙ ap (λ (u : ResetTable). u.last_made) one;
  made = ap (λ (u : ResetTable). u.made) two ∙ ap (λ (u : ResetTable). u.made) one;
}

-- streams have their response, and are listed no more
pub answered_from : (t t1 t2 : ResetTable) (f : ℕ → StreamReset → StreamReset) (ss : List ℕ) → ((s : ℕ) (r : StreamReset) → f s (f s r) ≡ f s r) → ((s : ℕ) (r : StreamReset) → model.is_resetting (sending_meaning (f s r).sending) ≡ false)
    → t1 ≡ record t { streams = t1.streams } → t1.streams.items ≡ all_changed f ss t.streams.items → t2 ≡ record t1 { resetting = t2.resetting }
    → t2.resetting.items ≡ filter (is_resetting_in t1.streams.items) t1.resetting.items → vec_capacity t2.resetting ≡ vec_capacity t1.resetting → IsListed t t2 (all_changed f ss t.streams.items) t.last_made t.made
answered_from t t1 t2 f ss same off one streams two kept capacity = record {
  streams = ap (λ (u : ResetTable). u.streams.items) two ∙ streams;
  listed = λ room was.
      kept ∙ ap (λ (rs : List StreamReset). filter (is_resetting_in rs) t1.resetting.items) streams
      ∙ ap (filter (is_resetting_in (all_changed f ss t.streams.items))) (ap (λ (u : ResetTable). u.resetting.items) one ∙ was) ∙ listed_without f same off ss t.streams.items;
  capacity = let held = ap (λ (u : ResetTable). vec_capacity u.resetting) one in omega (arith, capacity, held);
  last = ap (λ (u : ResetTable). u.last_made) two ∙ ap (λ (u : ResetTable). u.last_made) one;
  made = ap (λ (u : ResetTable). u.made) two ∙ ap (λ (u : ResetTable). u.made) one;
}

-- and the request that was made last has its place again
pub put_back : (t u : ResetTable) (rs : List StreamReset) (r x : Option Request) (many : ℕ) → IsListed t u rs r many → IsListed t (record u { last_made = x }) rs x many
put_back t u rs r x many i = record { streams = i.streams; listed = i.listed; capacity = i.capacity; last = refl; made = i.made }
