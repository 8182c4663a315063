-- What is kept when a fragment takes its index and goes out at once: of a message that begins, and of one in part; and how much is outstanding then.
use Rattle.std.proofs.Common.{◌≡◌, ℕ, zero, suc, ◌+◌, ◌-◌, ◌<◌, ◌≤◌, List, [], ◌∷◌, ◌++◌, length, drop, get_or, set, Bool, true, false, Option, Some, None, refl, sym, ap, ◌∙◌, subst, arith, length-append, length-drop}
use Rattle.std.specs.Prelude.{◌==◌, nat_lt, option_and_then}
use Rattle.std.proofs.lemmas.Bool.Decides.{nat_tests}
use Rattle.sctp_model.specs.messages.Format.{Format, Lane}
use Rattle.sctp_model.specs.messages.Plan.{Message, Entry, Part, End, parts_from}
use Rattle.sctp_model.specs.sender.SenderView.{Queued, SenderView}
use Rattle.sctp_model.specs.sender.Words.{when}
use Rattle.sctp_model.specs.sender.Entries.{entry_lane, entry_message, fragments_in, next_part, continued, in_part, one_if_some, sum_below}
use Rattle.sctp_model.specs.sender.Queueing.{owed_by_queue, owed_by_parts}
use Rattle.sctp_model.specs.sender.Readers.{outstanding}
use Rattle.sctp_model.specs.sender.Filling.{newcomer, with_sent, goes, gone}
use Rattle.sctp_model.specs.sender.Reached.{Goes}
use Rattle.sctp_model.proofs.sender.WordLaws.{sum-changed}
use Rattle.sctp_model.proofs.sender.FillLaws.{goes_parts}
use Rattle.sctp_model.proofs.sender.Bounds.{length-parts}
use Rattle.sctp_model.proofs.sender.PlanLaws.{continued_is, continued_new, continued_more}
use Rattle.sctp_model.proofs.sender.CountLaws.{is_named}
use Rattle.sctp_model.proofs.sender.QueueLaws.{IsTaken}
use Rattle.sctp_send.specs.SenderKept.{Item, Rest, Track, Kept}
use Rattle.sctp_model.specs.sender.Abandoning.{waits, has_ticket}
use Rattle.sctp_send.specs.SenderStands.{rest_here, track_here, Holds, Keeps}
use Rattle.sctp_send.specs.inner.Walks.{total, one_if_rest, rest_has}
use Rattle.sctp_send.specs.inner.Expiring.{queue_messages}
use Rattle.sctp_send.specs.inner.Dues.{is_late, some_late, is_asleep}
use Rattle.sctp_send.specs.declared.kept.message.Fate.TheVariants.{Numbered}
pub use Rattle.sctp_send.specs.inner.Newcomers.{begun_items}
use Rattle.sctp_send.proofs.KeepLemmas.{kept_length}
use Rattle.sctp_send.proofs.forward.StillForward.{still_forward}
use Rattle.sctp_send.proofs.QueueLemmas.{kept_in_part}
use Rattle.sctp_send.proofs.TableLemmas.{length-table}
use Rattle.sctp_send.proofs.CountedLemmas.{counted_waiting}
use Rattle.sctp_send.proofs.OverLemmas.{no_item_more, no_item_one, no_begun, no_rest_set, no_rest_at, no_rest_begun, no_rest_after, not_waiting_taken, another_taken}
use Rattle.sctp_send.proofs.DueLemmas.{late_items_more, late_item_one, late_begun, late_rest_set, late_rest_at, late_rest_begun, late_rest_after, IsLeftIdle}
use Rattle.sctp_send.proofs.fill.GoneLemmas.{gone_item, holds_sent, sent_above}
use Rattle.sctp_send.proofs.fill.NewItems.{new_item, new_items, numbered}
use Rattle.sctp_send.proofs.fill.AssignLemmas.{number_in, begun_track, track_at, holds_begun}
use Rattle.sctp_send.proofs.fill.GoingOnLemmas.{rest_item, rest_after, gone_on, holds_continued}

-- ---- one of the items goes out

set_behind : (xs ys : List Item) (y d : Item) → set (xs ++ y ∷ ys) (length xs) (gone_item (get_or (xs ++ y ∷ ys) (length xs) d)) ≡ xs ++ gone_item y ∷ ys
set_behind [] ys y d = refl
set_behind (x ∷ xs) ys y d = ap (λ (zs : List Item). x ∷ zs) (set_behind xs ys y d)

-- the first of these that are new, behind those that there were
holds_first : (s : Kept) (u : SenderView) (i : ℕ) (xs ys : List Item) (y : Item) → Holds (record s { items = xs ++ y ∷ ys }) u → i ≡ suc (u.cum + length xs)
    → Holds (record s { items = xs ++ gone_item y ∷ ys }) (with_sent u i)
holds_first s u i xs ys y h is =
    let long = length-append xs (y ∷ ys) in
    let sent = holds_sent (record s { items = xs ++ y ∷ ys }) u (length xs) y h (omega (arith, long)) in
    let now = subst (λ (zs : List Item). Holds (record s { items = zs }) (with_sent u (suc (u.cum + length xs)))) (set_behind xs ys y y) sent in
    subst (λ (j : ℕ). Holds (record s { items = xs ++ gone_item y ∷ ys }) (with_sent u j)) (sym is) now

-- ---- how much is outstanding

-- how many entries a view has above CUM
above : (f : Format) (s : Kept) (v : SenderView) (more : List Entry) (n : ℕ) → Keeps f s v → length more ≡ n → length (v.plan.entries ++ more) - v.cum ≡ length s.items + n
above f s v more n k is =
    let long = length-append v.plan.entries more in
    let count = kept_length f s v k in
    omega (arith, long, count, is)

-- a sum over streams of which one has changed
changed_part : (f : Format) (s : Kept) (v u : SenderView) (j : ℕ) (x : Track) → Keeps f s v → j < v.streams → u.streams ≡ v.streams → ((i : ℕ) → (i ≡ j → ⊥) → continued v.plan i ≡ continued u.plan i)
    → in_part u + one_if_rest (get_or s.tracks j x).rest ≡ total (λ t. one_if_rest t.rest) s.tracks + one_if_some (continued u.plan j)
changed_part f s v u j x k low streams others =
    let change = sum-changed (λ i. one_if_some (continued v.plan i)) (λ i. one_if_some (continued u.plan i)) v.streams j low (λ i apart. ap one_if_some (others i apart)) in
    let all = kept_in_part f s v k in
    let same : in_part u ≡ sum_below (λ i. one_if_some (continued u.plan i)) v.streams = ap (sum_below (λ i. one_if_some (continued u.plan i))) streams in
    let own : one_if_rest (get_or s.tracks j x).rest ≡ one_if_some (continued v.plan j) = ap (λ (t : Track). one_if_rest t.rest) (track_at f s v j x k low) ∙ rest_counts (continued v.plan j) in
    omega (arith, change, all, same, own)
  where
    rest_counts : (o : Option Entry) → one_if_rest (rest_here v.plan o) ≡ one_if_some o
    rest_counts None = refl
    rest_counts (Some e) = refl

-- how many messages are in part when one has begun
parts_begun : (f : Format) (s : Kept) (v : SenderView) (q : Queued) (rest : List Queued) (d turn : ℕ) (x : Track) → Keeps f s v → q.lane.stream < v.streams
    → in_part (numbered v q (suc d) rest turn) + one_if_rest (get_or s.tracks q.lane.stream x).rest
    ≡ total (λ t. one_if_rest t.rest) s.tracks + one_if_rest (begun_track q (suc d) (get_or s.tracks q.lane.stream x)).rest
parts_begun f s v q rest d turn x k low =
    let u = numbered v q (suc d) rest turn in
    let j = q.lane.stream in
    let named = is_named f v k.reached in
    let n = length (v.plan.messages q.lane) in
    let self : (j == j) ≡ true = grind (arith, nat_tests) in
    let parts = changed_part f s v u j x k low refl (λ i apart. sym (continued_new v.streams v.plan q d i named ∙ rw (off i (j == i) refl apart) refl)) in
    let own : one_if_some (continued u.plan j) ≡ one_if_rest (begun_track q (suc d) (get_or s.tracks j x)).rest =
    ap one_if_some (continued_new v.streams v.plan q d j named ∙ rw self refl) ∙ when_counts (Part q.lane n (suc d)) (record { entry = Part q.lane (number_in q.lane.kind (get_or s.tracks j x)) (suc d); message = Some q.message }) (nat_lt (suc d) (length q.message.fragments)) in
    omega (arith, parts, own)
  where
    off : (i : ℕ) (b : Bool) → (q.lane.stream == i) ≡ b → (i ≡ q.lane.stream → ⊥) → b ≡ false
    off i false is apart = refl
    off i true is apart = absurd (apart (grind (arith, nat_tests)))

    when_counts : (e : Entry) (r : Rest) (b : Bool) → one_if_some (when b e) ≡ one_if_rest (when b r)
    when_counts e r true = refl
    when_counts e r false = refl

-- how many messages are in part when one has gone on
parts_continued : (f : Format) (s : Kept) (v : SenderView) (j turn : ℕ) (e : Entry) (x : Track) → Keeps f s v → j < v.streams → continued v.plan j ≡ Some e
    → in_part (gone_on v e turn) + one_if_rest (get_or s.tracks j x).rest ≡ total (λ t. one_if_rest t.rest) s.tracks + one_if_rest (rest_after e (entry_message v.plan e))
parts_continued f s v j turn e x k low on =
    let u = gone_on v e turn in
    let next = continued_is v.streams v.plan j e (is_named f v k.reached) on in
    let stream : (entry_lane e).stream ≡ j = ap (λ (y : Entry). (entry_lane y).stream) next.is ∙ next.on in
    let self : (j == j) ≡ true = grind (arith, nat_tests) in
    let parts = changed_part f s v u j x k low refl (λ i apart. sym (continued_more v.plan e i ∙ rw (stream, off i (j == i) refl apart) refl)) in
    let own : one_if_some (continued u.plan j) ≡ one_if_rest (rest_after e (entry_message v.plan e)) = ap one_if_some (continued_more v.plan e j ∙ rw (stream, self) refl) ∙ next_counts e in
    omega (arith, parts, own)
  where
    off : (i : ℕ) (b : Bool) → (j == i) ≡ b → (i ≡ j → ⊥) → b ≡ false
    off i false is apart = refl
    off i true is apart = absurd (apart (grind (arith, nat_tests)))

    next_counts : (y : Entry) → one_if_some (next_part v.plan y) ≡ one_if_rest (rest_after y (entry_message v.plan y))
    next_counts (End l n) = refl
    next_counts (Part l n m) = by_more (nat_lt (suc m) (length (fragments_in (entry_message v.plan (Part l n m)))))
      where
        by_more : (b : Bool) → one_if_some (when b (Part l n (suc m))) ≡ one_if_rest (when b (record { entry = Part l n (suc m); message = entry_message v.plan (Part l n m) }))
        by_more true = refl
        by_more false = refl

pub length-new_items : (l : Lane) (n : ℕ) (m : Message) (k d : ℕ) → length (new_items l n m k d) ≡ d
length-new_items l n m k zero = refl
length-new_items l n m k (suc d) = ap suc (length-new_items l n m (suc k) d)

-- ---- a message begins

-- there is room for the entries above CUM, and for what is owed
abbrev pub IsRoomFor : SenderView → (capacity : ℕ) → Type 0
IsRoomFor u capacity = length (drop u.cum u.plan.entries) + (owed_by_queue u.queue + owed_by_parts u) ≤ capacity

-- What is kept then: so many fragments more than one have an index.
abbrev pub after_begun : Kept → Queued → (rest : List Queued) → (more turn capacity : ℕ) → Track → Kept
after_begun s q rest d turn capacity t = record s {
  items = s.items ++ begun_items q.lane (number_in q.lane.kind t) q.message (suc d);
  queue = rest;
  tracks = set s.tracks q.lane.stream (begun_track q (suc d) t);
  fates = set s.fates (q.message.ticket - 1) Numbered;
  turn = turn;
  capacity = capacity;
}

pub begun_kept : (f : Format) (s : Kept) (v : SenderView) (q : Queued) (rest : List Queued) (d turn capacity room : ℕ) (x : Track) → Keeps f s v → IsTaken q rest v.queue → ((now t : ℕ) → some_late now t (queue_messages v.queue) ≡ false → IsLeftIdle now t q rest) → q.lane.stream < v.streams
    → goes f room v ≡ Some (newcomer v (numbered v q (suc d) rest turn)) → IsRoomFor (numbered v q (suc d) rest turn) capacity
    → Keeps f (after_begun s q rest d turn capacity (get_or s.tracks q.lane.stream x)) (gone (newcomer v (numbered v q (suc d) rest turn)))
begun_kept f s v q rest d turn capacity room x k taken idle low first space =
    let u = numbered v q (suc d) rest turn in
    let n = number_in q.lane.kind (get_or s.tracks q.lane.stream x) in
    let behind = new_items q.lane n q.message 1 d in
    let parts = goes_parts f room v (newcomer v u) first in
    let before = length-append s.items (new_item (Part q.lane n 0) q.message ∷ behind) in
    let many = length-new_items q.lane n q.message 1 d in
    let entries = above f s v (parts_from q.lane (length (v.plan.messages q.lane)) 0 (suc d)) (suc d) k (length-parts q.lane (length (v.plan.messages q.lane)) 0 (suc d)) in
    let behind_cum = length-drop u.cum u.plan.entries in
    let h = holds_begun f s v q rest d turn capacity x k taken low (omega (arith, before, many, entries, behind_cum, space)) in
    let count = kept_length f s v k in
    record {
      holds = holds_first (after_begun s q rest d turn capacity (get_or s.tracks q.lane.stream x)) u (suc (length v.plan.entries)) s.items behind (new_item (Part q.lane n 0) q.message) h (omega (arith, count));
      over = record {
        within = k.over.within;
        each = λ t le.
            let o = k.over.each t le in
            let waits = ap (waits t) (sym k.holds.queue) ∙ o.queue in
            let other = another_taken t q rest v.queue taken waits in
            record {
              queue = not_waiting_taken t q rest v.queue taken waits;
              tracks = no_rest_set t q.lane.stream s.tracks (begun_track q (suc d) (get_or s.tracks q.lane.stream x)) o.tracks (no_rest_begun t q (suc d) (get_or s.tracks q.lane.stream x) other);
              items = no_item_more t s.items (begun_items q.lane n q.message (suc d)) o.items (no_begun t q.lane n q.message d other);
            };
      };
      due = record {
        many = k.due.many;
        each = λ t now lt.
            let i = k.due.each t now lt in
            let left = idle now t (ap (λ (qs : List Queued). some_late now t (queue_messages qs)) (sym k.holds.queue) ∙ i.queue) in
            record {
              queue = left.others;
              items = λ on. late_items_more now t (is_asleep s t) s.items (begun_items q.lane n q.message (suc d)) (i.items on) (late_begun now t (is_asleep s t) q.lane n q.message d left.one);
              tracks = λ on. late_rest_set now t q.lane.stream s.tracks (begun_track q (suc d) (get_or s.tracks q.lane.stream x)) (i.tracks on) (late_rest_begun now t q (suc d) (get_or s.tracks q.lane.stream x) left.one);
            };
      };
      forward = still_forward f v.resets.base v.streams v.plan.entries (parts_from q.lane (length (v.plan.messages q.lane)) 0 (suc d)) u.plan.entries s.forward refl k.forward;
      resets = k.resets;
      before = k.before ∙ sym (sent_above v.sent (suc (length v.plan.entries)) v.cum (omega (arith, count)));
      counted = counted_waiting f s v q.message.ticket Numbered k taken.was refl;
      limits = k.limits;
      reached = Goes v room (newcomer v u) k.reached parts.0 parts.1;
    }

-- how much is outstanding when a message has begun
pub outstanding_begun : (f : Format) (s : Kept) (v : SenderView) (q : Queued) (rest : List Queued) (d turn : ℕ) (x : Track) → Keeps f s v → q.lane.stream < v.streams
    → outstanding (numbered v q (suc d) rest turn) + one_if_rest (get_or s.tracks q.lane.stream x).rest
    ≡ (length s.items + suc d) + (total (λ t. one_if_rest t.rest) s.tracks + one_if_rest (begun_track q (suc d) (get_or s.tracks q.lane.stream x)).rest)
outstanding_begun f s v q rest d turn x k low =
    let n = length (v.plan.messages q.lane) in
    let entries = above f s v (parts_from q.lane n 0 (suc d)) (suc d) k (length-parts q.lane n 0 (suc d)) in
    let parts = parts_begun f s v q rest d turn x k low in
    omega (arith, entries, parts)

-- ---- a message goes on

-- What is kept then: its next fragment went out, and its stream goes on with what is left.
abbrev pub after_continued : Kept → (stream : ℕ) → Rest → (turn capacity : ℕ) → Track → Kept
after_continued s j r turn capacity t = record s {
  items = s.items ++ gone_item (rest_item r) ∷ [];
  tracks = set s.tracks j (record t { rest = rest_after r.entry r.message });
  turn = turn;
  capacity = capacity;
}

pub continued_kept : (f : Format) (s : Kept) (v : SenderView) (j turn capacity room : ℕ) (e : Entry) (x : Track) → Keeps f s v → j < v.streams → continued v.plan j ≡ Some e
    → goes f room v ≡ Some (newcomer v (gone_on v e turn)) → IsRoomFor (gone_on v e turn) capacity
    → Keeps f (after_continued s j (record { entry = e; message = entry_message v.plan e }) turn capacity (get_or s.tracks j x)) (gone (newcomer v (gone_on v e turn)))
continued_kept f s v j turn capacity room e x k low on first space =
    let u = gone_on v e turn in
    let r : Rest = record { entry = e; message = entry_message v.plan e } in
    let parts = goes_parts f room v (newcomer v u) first in
    let before = length-append s.items (rest_item r ∷ []) in
    let entries = above f s v (e ∷ []) 1 k refl in
    let behind_cum = length-drop u.cum u.plan.entries in
    let h = holds_continued f s v j turn capacity e x k low on (omega (arith, before, entries, behind_cum, space)) in
    let count = kept_length f s v k in
    record {
      holds = holds_first (after_continued s j r turn capacity (get_or s.tracks j x)) u (suc (length v.plan.entries)) s.items [] (rest_item r) h (omega (arith, count));
      over = record {
        within = k.over.within;
        each = λ t le.
            let o = k.over.each t le in
            let long = ap (λ (ts : List Track). length ts) k.holds.tracks ∙ length-table (track_here v) 0 v.streams in
            let there : (get_or s.tracks j x).rest ≡ Some r = ap (λ (y : Track). y.rest) (track_at f s v j x k low) ∙ ap (rest_here v.plan) on in
            let other : has_ticket t r.message ≡ false = ap (rest_has t) (sym there) ∙ no_rest_at t j s.tracks x (omega (arith, long)) o.tracks in
            record {
              queue = o.queue;
              tracks = no_rest_set t j s.tracks (record (get_or s.tracks j x) { rest = rest_after r.entry r.message }) o.tracks (no_rest_after t r.entry r.message other);
              items = no_item_one t s.items (gone_item (rest_item r)) o.items other;
            };
      };
      due = record {
        many = k.due.many;
        each = λ t now lt.
            let i = k.due.each t now lt in
            let long = ap (λ (ts : List Track). length ts) k.holds.tracks ∙ length-table (track_here v) 0 v.streams in
            let there : (get_or s.tracks j x).rest ≡ Some r = ap (λ (y : Track). y.rest) (track_at f s v j x k low) ∙ ap (rest_here v.plan) on in
            let other : s.partial ≡ true → is_late now t r.message ≡ false = λ may. ap (λ (o : Option Rest). is_late now t (option_and_then (λ y. y.message) o)) (sym there) ∙ late_rest_at now t j s.tracks x (omega (arith, long)) (i.tracks may) in
            record {
              queue = i.queue;
              items = λ may. late_item_one now t (is_asleep s t) s.items (gone_item (rest_item r)) (i.items may) (other may);
              tracks = λ may. late_rest_set now t j s.tracks (record (get_or s.tracks j x) { rest = rest_after r.entry r.message }) (i.tracks may) (late_rest_after now t (get_or s.tracks j x) r.entry r.message (other may));
            };
      };
      forward = still_forward f v.resets.base v.streams v.plan.entries (e ∷ []) u.plan.entries s.forward refl k.forward;
      resets = k.resets;
      before = k.before ∙ sym (sent_above v.sent (suc (length v.plan.entries)) v.cum (omega (arith, count)));
      counted = k.counted;
      limits = k.limits;
      reached = Goes v room (newcomer v u) k.reached parts.0 parts.1;
    }

-- how much is outstanding when a message has gone on
pub outstanding_continued : (f : Format) (s : Kept) (v : SenderView) (j turn : ℕ) (e : Entry) (x : Track) → Keeps f s v → j < v.streams → continued v.plan j ≡ Some e
    → outstanding (gone_on v e turn) + one_if_rest (get_or s.tracks j x).rest
    ≡ (length s.items + 1) + (total (λ t. one_if_rest t.rest) s.tracks + one_if_rest (rest_after e (entry_message v.plan e)))
outstanding_continued f s v j turn e x k low on =
    let entries = above f s v (e ∷ []) 1 k refl in
    let parts = parts_continued f s v j turn e x k low on in
    omega (arith, entries, parts)
