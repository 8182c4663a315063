-- What is kept when a message in part takes its next index: an item for its fragment, and what its stream goes on with then.
use Rattle.std.proofs.Common.{◌≡◌, ℕ, suc, ◌+◌, ◌<◌, ◌≤◌, List, [], ◌∷◌, ◌++◌, length, drop, get_or, set, Bool, true, false, Option, Some, None, refl, sym, ap, ◌∙◌, arith, length-drop}
use Rattle.std.specs.Prelude.{◌==◌, nat_lt, if◌then◌else◌}
use Rattle.std.proofs.lemmas.List.{drop-append-le}
use Rattle.std.proofs.lemmas.Bool.Decides.{nat_tests}
use Rattle.sctp_model.specs.messages.Format.{Format}
use Rattle.sctp_model.specs.messages.Plan.{Entry, Part, End}
use Rattle.sctp_model.specs.sender.SenderView.{SenderView}
use Rattle.sctp_model.specs.sender.Words.{when}
use Rattle.sctp_model.specs.sender.Entries.{entry_lane, entry_message, fragments_in, next_part, continued}
use Rattle.sctp_model.specs.sender.Queueing.{owed_by_queue, owed_by_parts}
use Rattle.sctp_model.specs.sender.Assigning.{with_entry}
use Rattle.sctp_model.specs.sender.Reached.{IsReached}
use Rattle.sctp_model.proofs.sender.Bounds.{is_bounded}
use Rattle.sctp_model.proofs.sender.WornLaws.{is_limited}
use Rattle.sctp_model.proofs.sender.PlanLaws.{continued_is, continued_more}
use Rattle.sctp_model.proofs.sender.CountLaws.{is_named}
use Rattle.sctp_model.proofs.sender.KeptLaws.{are_parts_kept}
use Rattle.sctp_model.proofs.sender.AssignedLaws.{continued_ticket}
use Rattle.sctp_send.specs.SenderKept.{Item, Rest, Track, Kept}
pub use Rattle.sctp_send.specs.inner.Newcomers.{rest_item, rest_after}
use Rattle.sctp_send.specs.SenderStands.{item_here, items_from, table, rest_here, track_here, fate_here, Holds, Keeps}
use Rattle.sctp_send.proofs.TableLemmas.{table-same, table-set}
use Rattle.sctp_send.proofs.fill.AssignLemmas.{track_at}

-- the view in which a stream's message in part took its next index
abbrev pub gone_on : SenderView → Entry → (turn : ℕ) → SenderView
gone_on v e turn = record v { plan = with_entry v.plan e; turn = turn }

items_same : (v : SenderView) (x : Entry) (turn i : ℕ) (es : List Entry) → items_from (gone_on v x turn) i es ≡ items_from v i es
items_same v x turn i [] = refl
items_same v x turn i (e ∷ es) = ap (λ (xs : List Item). item_here v i e ∷ xs) (items_same v x turn (suc i) es)

items_behind : (v : SenderView) (i : ℕ) (es : List Entry) (x : Entry) → items_from v i (es ++ x ∷ []) ≡ items_from v i es ++ item_here v (i + length es) x ∷ []
items_behind v i [] x = let same : i + 0 ≡ i = omega arith in rw same refl
items_behind v i (e ∷ es) x = let next : suc i + length es ≡ i + suc (length es) = omega arith in rw (← next) (ap (λ (xs : List Item). item_here v i e ∷ xs) (items_behind v (suc i) es x))

gone_items : (f : Format) (s : Kept) (v : SenderView) (j turn : ℕ) (e : Entry) → Keeps f s v → continued v.plan j ≡ Some e
    → s.items ++ rest_item (record { entry = e; message = entry_message v.plan e }) ∷ [] ≡ items_from (gone_on v e turn) (suc v.cum) (drop v.cum (with_entry v.plan e).entries)
gone_items f s v j turn e k on =
    let u = gone_on v e turn in
    let b = is_bounded f v k.reached in
    let es = drop v.cum v.plan.entries in
    let long = length-drop v.cum v.plan.entries in
    let w = b.within in
    let past : length v.plan.entries < suc v.cum + length es = omega arith in
    let new : item_here u (suc v.cum + length es) e ≡ rest_item (record { entry = e; message = entry_message v.plan e }) =
    rw (b.unsent (suc v.cum + length es) past, b.unmarked (suc v.cum + length es) past, b.uncovered (suc v.cum + length es) past, are_parts_kept f v k.reached j e on, (is_limited f v k.reached).fresh (suc v.cum + length es) (b.unsent (suc v.cum + length es) past)) refl in
    rw (drop-append-le v.cum v.plan.entries (e ∷ []) b.within, items_behind u (suc v.cum) es e, items_same v e turn (suc v.cum) es, new, k.holds.items) refl

-- ---- streams

rest_same : (v : SenderView) (x : Entry) (o : Option Entry) → rest_here (with_entry v.plan x) o ≡ rest_here v.plan o
rest_same v x None = refl
rest_same v x (Some e) = refl

rest_behind : (v : SenderView) (e : Entry) → rest_here v.plan (next_part v.plan e) ≡ rest_after e (entry_message v.plan e)
rest_behind v (End l n) = refl
rest_behind v (Part l n k) = by_more (nat_lt (suc k) (length (fragments_in (entry_message v.plan (Part l n k)))))
  where
    by_more : (b : Bool) → rest_here v.plan (when b (Part l n (suc k))) ≡ when b (record { entry = Part l n (suc k); message = entry_message v.plan (Part l n k) })
    by_more true = refl
    by_more false = refl

gone_track : (f : Format) (v : SenderView) (j i turn : ℕ) (e : Entry) → IsReached f v → continued v.plan j ≡ Some e
    → track_here (gone_on v e turn) i ≡ (if j == i then record (track_here v i) { rest = rest_after e (entry_message v.plan e) } else track_here v i)
gone_track f v j i turn e h on =
    let next = continued_is v.streams v.plan j e (is_named f v h) on in
    let stream : (entry_lane e).stream ≡ j = ap (λ (x : Entry). (entry_lane x).stream) next.is ∙ next.on in
    ap (λ (r : Option Rest). record (track_here v i) { rest = r }) (rest_same v e (continued (with_entry v.plan e) i) ∙ ap (rest_here v.plan) (continued_more v.plan e i ∙ (rw stream refl))) ∙ by_stream (j == i)
  where
    by_stream : (b : Bool) → record (track_here v i) { rest = rest_here v.plan (if b then next_part v.plan e else continued v.plan i) } ≡ (if b then record (track_here v i) { rest = rest_after e (entry_message v.plan e) } else track_here v i)
    by_stream true = ap (λ (r : Option Rest). record (track_here v i) { rest = r }) (rest_behind v e)
    by_stream false = refl

gone_tracks : (f : Format) (s : Kept) (v : SenderView) (j turn : ℕ) (e : Entry) (x : Track) → Keeps f s v → j < v.streams → continued v.plan j ≡ Some e
    → set s.tracks j (record (get_or s.tracks j x) { rest = rest_after e (entry_message v.plan e) }) ≡ table (track_here (gone_on v e turn)) 0 v.streams
gone_tracks f s v j turn e x k low on =
    let u = gone_on v e turn in
    let zeroed : 0 + j ≡ j = omega arith in
    let same : (j == j) ≡ true = grind (arith, nat_tests) in
    let self : track_here u (0 + j) ≡ record (track_here v j) { rest = rest_after e (entry_message v.plan e) } = rw zeroed (gone_track f v j j turn e k.reached on ∙ rw same refl) in
    let others : (i : ℕ) → 0 ≤ i → i < 0 + v.streams → (i ≡ 0 + j → ⊥) → track_here u i ≡ track_here v i = λ i lo hi ne.
    let off : (j == i) ≡ false = by_test (j == i) refl (λ same. ne (omega arith)) in
    gone_track f v j i turn e k.reached on ∙ rw off refl in
    rw (track_at f s v j x k low, k.holds.tracks, table-set (track_here v) (track_here u) 0 v.streams j low others, self) refl
  where
    by_test : {i : ℕ} (b : Bool) → (j == i) ≡ b → (j ≡ i → ⊥) → b ≡ false
    by_test false is apart = refl
    by_test true is apart = absurd (apart (grind (arith, nat_tests)))

-- ---- what is kept

gone_fate : (f : Format) (v : SenderView) (j t turn : ℕ) (e : Entry) → IsReached f v → continued v.plan j ≡ Some e → fate_here (gone_on v e turn) t ≡ fate_here v t
gone_fate f v j t turn e h on = rw (continued_ticket f v j t e h on) refl

-- The message in part of a stream took its next index: its item behind the others, and what is left of it.
pub holds_continued : (f : Format) (s : Kept) (v : SenderView) (j turn capacity : ℕ) (e : Entry) (x : Track) → Keeps f s v → j < v.streams → continued v.plan j ≡ Some e
    → length (s.items ++ rest_item (record { entry = e; message = entry_message v.plan e }) ∷ []) + (owed_by_queue v.queue + owed_by_parts (gone_on v e turn)) ≤ capacity
    → Holds (record s {
      items = s.items ++ rest_item (record { entry = e; message = entry_message v.plan e }) ∷ [];
      tracks = set s.tracks j (record (get_or s.tracks j x) { rest = rest_after e (entry_message v.plan e) });
      turn = turn;
      capacity = capacity;
    }) (gone_on v e turn)
holds_continued f s v j turn capacity e x k low on room = record {
  initial = k.holds.initial;
  streams = k.holds.streams;
  fragment = k.holds.fragment;
  partial = k.holds.partial;
  cum = k.holds.cum;
  rwnd = k.holds.rwnd;
  turn = refl;
  items = gone_items f s v j turn e k on;
  queue = k.holds.queue;
  tracks = gone_tracks f s v j turn e x k low on;
  fates = k.holds.fates ∙ table-same (fate_here v) (fate_here (gone_on v e turn)) 1 v.tickets (λ t lo hi. sym (gone_fate f v j t turn e k.reached on));
  covered = k.holds.covered;
  room = room;
}
