-- What is read of streams says which are still, and which a request names (RFC 6525, 5.1.2).
use Rattle.std.proofs.Common.{◌≡◌, ℕ, suc, ◌+◌, ◌<◌, ◌≤◌, min, List, [], ◌∷◌, length, map, take, drop, filter, Bool, true, false, Option, Some, None, refl, sym, ap, subst, ◌∙◌, arith}
use Rattle.std.specs.Prelude.{◌==◌, ◌&&◌, ◌||◌, not, is_some, nat_lt, IsSome}
use Rattle.std.specs.List.{list_any, AllByRecursion}
use Rattle.std.specs.declared.alloc.Global.{Global}
use Rattle.std.specs.declared.boxed.Box.{Box}
use Rattle.std.proofs.lemmas.Option.{slice_get-get_or}
use Rattle.sctp_model.specs.numbers.Limits.{STREAM_LIMIT, REQUEST_LIMIT, RESETS_AT_ONCE}
use Rattle.sctp_model.specs.messages.Format.{Format, Lane}
use Rattle.sctp_model.specs.messages.Plan.{Entry}
use Rattle.sctp_model.specs.sender.Outgoing.{is_resetting}
use Rattle.sctp_model.specs.sender.SenderView.{Queued, SenderView}
use Rattle.sctp_model.specs.sender.Words.{count_up}
use Rattle.sctp_model.specs.sender.Entries.{entry_lane, continued}
use Rattle.sctp_model.specs.sender.Assigning.{is_on, first_on}
use Rattle.sctp_model.specs.sender.Resetting.{has_past, is_still_on, is_ready, ready, has_stream, may_ask}
use Rattle.sctp_send.specs.OutstandingFields.{item_meaning, entry_meaning, lane_meaning}
use Rattle.sctp_send.specs.SenderFields.{queued_by, track_meaning}
use Rattle.sctp_send.specs.SenderKept.{Item, Track, Kept}
use Rattle.sctp_send.specs.SenderStands.{items_from, rest_here, track_here, Keeps}
use Rattle.sctp_send.specs.ResetsKept.{sending_under, made_under, pending_under, IsTabled}
use Rattle.sctp_send.specs.ResetAnswers.{resetting_streams}
use Rattle.sctp_send.specs.inner.Newcomers.{rest_at, has_rest}
use Rattle.sctp_send.specs.inner.Seating.{NextOnAnswer}
use Rattle.sctp_send.specs.declared.kept.seats.Found.{Found}
use Rattle.sctp_send.specs.inner.Resetting.{is_item_on, is_still_in, is_low, listed_under}
use Rattle.sctp_send.specs.declared.stock.Stock.{Stock}
use Rattle.sctp_send.specs.declared.kept.resets.ResetTable.{ResetTable}
use Rattle.sctp_send.specs.declared.kept.entry.Content.{Content}
use Rattle.sctp_send.specs.declared.kept.entry.Content.TheVariants.{Fragment, EndMark}
use Rattle.sctp_send.proofs.TableLemmas.{length-table}
use Rattle.sctp_send.proofs.fill.AssignLemmas.{track_at}
use Rattle.std.proofs.Common.{get_or}
use Rattle.std.proofs.lemmas.Bool.Decides.{nat_tests}
use Rattle.std.proofs.lemmas.List.{length-map}
use Rattle.sctp_send.specs.declared.kept.entry.Entry.{Entry as EntryFields}
use Rattle.sctp_send.proofs.fill.EnterLemmas.{read_at}
use Rattle.sctp_send.proofs.resetting.CountedUp.{any_behind, any_found, any_other, any_end, all_taken, all_filtered, filter_two, filter_alike, filter_off, filter_below, some_filtered, some_taken}

-- ---- one stream

-- an entry is of the lane of its message
pub lane_in : (l : Lane) (n : ℕ) (c : Content) → entry_lane (entry_meaning l n c) ≡ l
lane_in l n (Fragment k) = refl
lane_in l n EndMark = refl

-- a walk over the entries above CUM: the one at an offset is of the stream, or isn't, or there is none
here_on : (size stream n : ℕ) (es : List EntryFields) (e : EntryFields) → n < length es → e ≡ get_or es n e → is_item_on stream (get_or (map (item_meaning size) es) n (item_meaning size e)) ≡ (e.message.value.stream == stream)
here_on size stream n es e low read =
    ap (is_item_on stream) (read_at (item_meaning size) es n e (item_meaning size e) low read) ∙ ap (λ (l : Lane). l.stream == stream) (lane_in (lane_meaning e.message.value) e.number e.content)

pub out_on : (size stream n : ℕ) (es : List EntryFields) (e : EntryFields) → n < length es → e ≡ get_or es n e → e.message.value.stream ≡ stream → list_any (is_item_on stream) (drop n (map (item_meaning size) es)) ≡ true
out_on size stream n es e low read is =
    let long = length-map es (item_meaning size) in
    let on : (e.message.value.stream == stream) ≡ true = grind (arith, nat_tests) in
    any_found (is_item_on stream) (map (item_meaning size) es) n (item_meaning size e) (omega (arith, long, low)) (here_on size stream n es e low read ∙ on)

pub out_off : (size stream n : ℕ) (es : List EntryFields) (e : EntryFields) → n < length es → e ≡ get_or es n e → (e.message.value.stream ≡ stream → ⊥)
    → list_any (is_item_on stream) (drop n (map (item_meaning size) es)) ≡ list_any (is_item_on stream) (drop (n + 1) (map (item_meaning size) es))
out_off size stream n es e low read other =
    let long = length-map es (item_meaning size) in
    let off : (e.message.value.stream == stream) ≡ false = grind (arith, nat_tests) in
    any_other (is_item_on stream) (map (item_meaning size) es) n (item_meaning size e) (omega (arith, long, low)) (here_on size stream n es e low read ∙ off)

-- then some is
pub out_at : (size stream n : ℕ) (es : List EntryFields) (e : EntryFields) → n < length es → e ≡ get_or es n e → e.message.value.stream ≡ stream → list_any (is_item_on stream) (map (item_meaning size) es) ≡ true
out_at size stream n es e low read is = any_behind (is_item_on stream) (map (item_meaning size) es) n (out_on size stream n es e low read is)

-- and the stream isn't still
pub not_still : (waits part out : Bool) → out ≡ true → false ≡ (not waits && (not part && not out))
not_still waits part out is = grind (arith, is)

pub out_end : (size stream n : ℕ) (es : List EntryFields) → length es ≤ n → list_any (is_item_on stream) (drop n (map (item_meaning size) es)) ≡ false
out_end size stream n es past = let long = length-map es (item_meaning size) in any_end (is_item_on stream) (map (item_meaning size) es) n (omega (arith, long, past))

-- none that passes is found
pub none_on : (s : ℕ) (qs : List Queued) → first_on s qs ≡ None → list_any (is_on s) qs ≡ false
none_on s [] none = refl
none_on s (q ∷ qs) none = grind (arith, none_on s qs)

-- one is
pub some_on : (s : ℕ) (qs : List Queued) (x : Queued) → first_on s qs ≡ Some x → list_any (is_on s) qs ≡ true
some_on s [] x some = absurd (cc)
some_on s (q ∷ qs) x some = grind (arith, some_on s qs x)

items_on : (v : SenderView) (s i : ℕ) (es : List Entry) → list_any (is_item_on s) (items_from v i es) ≡ list_any (λ (e : Entry). (entry_lane e).stream == s) es
items_on v s i [] = refl
items_on v s i (e ∷ es) = ap (λ (b : Bool). ((entry_lane e).stream == s) || b) (items_on v s (suc i) es)

part_on : (f : Format) (s : Kept) (v : SenderView) (stream : ℕ) → Keeps f s v → stream < v.streams → has_rest (rest_at s.tracks stream) ≡ is_some (continued v.plan stream)
part_on f s v stream k low = ap has_rest here ∙ by_next (continued v.plan stream)
  where
    here : rest_at s.tracks stream ≡ rest_here v.plan (continued v.plan stream)
    here =
        let x = track_here v stream in
        let wide = ap (λ (ts : List Track). length ts) k.holds.tracks ∙ length-table (track_here v) 0 v.streams in
        rw (slice_get-get_or s.tracks stream x (omega (arith, wide, low))) (ap (λ (t : Track). t.rest) (track_at f s v stream x k low))

    by_next : (o : Option Entry) → has_rest (rest_here v.plan o) ≡ is_some o
    by_next None = refl
    by_next (Some e) = refl

-- What is kept, in a stock.
pub record IsIn (s : Kept) (size : ℕ) (d : Stock) : Type 0 where
  pub items : s.items ≡ map (item_meaning size) d.outstanding.items
  pub queue : s.queue ≡ map (queued_by size) d.queue.items
  pub tracks : s.tracks ≡ map (track_meaning size) d.streams.items

pub still_is : (f : Format) (s : Kept) (v : SenderView) (size : ℕ) (d : Stock) (stream : ℕ) → Keeps f s v → IsIn s size d → stream < v.streams → is_still_in size d stream ≡ is_still_on v stream
still_is f s v size d stream k in_stock low =
    let queue : list_any (is_on stream) (map (queued_by size) d.queue.items) ≡ list_any (is_on stream) v.queue = ap (λ (qs : List Queued). list_any (is_on stream) qs) (sym in_stock.queue ∙ k.holds.queue) in
    let part : has_rest (rest_at (map (track_meaning size) d.streams.items) stream) ≡ is_some (continued v.plan stream) = ap (λ (ts : List Track). has_rest (rest_at ts stream)) (sym in_stock.tracks) ∙ part_on f s v stream k low in
    let past : list_any (is_item_on stream) (map (item_meaning size) d.outstanding.items) ≡ has_past v stream =
    ap (λ (xs : List Item). list_any (is_item_on stream) xs) (sym in_stock.items ∙ k.holds.items) ∙ items_on v stream (suc v.cum) (drop v.cum v.plan.entries) in
    rw (queue, part, past) refl

-- ---- the streams that are ready

listed_is : (n : ℕ) (t : Option (Box ResetTable Global)) → IsTabled n t → listed_under t ≡ filter (λ (s : ℕ). is_resetting (sending_under t s)) (count_up 0 (min n STREAM_LIMIT))
listed_is n None h = sym (filter_off (λ (s : ℕ). is_resetting (sending_under None s)) 0 (min n STREAM_LIMIT) (λ s lo hi. refl))
listed_is n (Some b) h = h.resetting

-- so many wait for their reset
pub listed_count : (f : Format) (s : Kept) (v : SenderView) → Keeps f s v → length (listed_under s.resets.table) ≡ resetting_streams v
listed_count f s v k =
    ap (λ (xs : List ℕ). length xs)
    (listed_is v.streams s.resets.table k.resets.table
    ∙ filter_alike (λ (j : ℕ). is_resetting (sending_under s.resets.table j)) (λ (j : ℕ). is_resetting (v.resets.sending j)) 0 (min v.streams STREAM_LIMIT)
    (λ j lo hi. sym (ap is_resetting (k.resets.sending j (omega (arith, hi))))))

-- all that are listed are low, and below the number of streams
pub listed_low : (n : ℕ) (t : Option (Box ResetTable Global)) → IsTabled n t → AllByRecursion is_low (listed_under t)
listed_low n None h = tt
listed_low n (Some b) h = rw h.resetting (filter_below _ 0 (min n STREAM_LIMIT) STREAM_LIMIT (omega arith))

pub listed_within : (n : ℕ) (t : Option (Box ResetTable Global)) → IsTabled n t → AllByRecursion (λ (s : ℕ). s < n) (listed_under t)
listed_within n None h = tt
listed_within n (Some b) h = rw h.resetting (filter_below _ 0 (min n STREAM_LIMIT) n (omega arith))

pub ready_is : (f : Format) (s : Kept) (v : SenderView) (size : ℕ) (d : Stock) → Keeps f s v → IsIn s size d → ready v ≡ take RESETS_AT_ONCE (filter (is_still_in size d) (listed_under s.resets.table))
ready_is f s v size d k in_stock =
    let t = s.resets.table in
    let m = min v.streams STREAM_LIMIT in
    ap (take RESETS_AT_ONCE)
    (filter_two (λ (j : ℕ). is_resetting (sending_under t j)) (is_still_in size d) (is_ready v) 0 m
    (λ j lo hi.
    let low : j < v.streams = omega (arith, hi) in
    let sending : is_resetting (v.resets.sending j) ≡ is_resetting (sending_under t j) = ap is_resetting (k.resets.sending j low) in
    rw (sending, still_is f s v size d j k in_stock low) refl)
    ∙ ap (filter (is_still_in size d)) (sym (listed_is v.streams t k.resets.table)))

pub has_ready : (f : Format) (s : Kept) (v : SenderView) (size : ℕ) (d : Stock) → Keeps f s v → IsIn s size d → has_stream (ready v) ≡ list_any (is_still_in size d) (listed_under s.resets.table)
has_ready f s v size d k in_stock =
    ap has_stream (ready_is f s v size d k in_stock) ∙ some_taken 255 (filter (is_still_in size d) (listed_under s.resets.table)) ∙ some_filtered (is_still_in size d) (listed_under s.resets.table)

-- ---- whether a request may be made

-- none waits, and there is a number for one
abbrev pub is_free_by : Option (Box ResetTable Global) → Bool
is_free_by t = not (is_some (pending_under t)) && nat_lt (made_under t) REQUEST_LIMIT

free_is : (f : Format) (s : Kept) (v : SenderView) → Keeps f s v → may_ask v ≡ (not (is_some (pending_under s.resets.table)) && (has_stream (ready v) && nat_lt (made_under s.resets.table) REQUEST_LIMIT))
free_is f s v k = rw (k.resets.pending, k.resets.made) refl

pub not_free : (f : Format) (s : Kept) (v : SenderView) → Keeps f s v → is_free_by s.resets.table ≡ false → may_ask v ≡ false
not_free f s v k off = grind (arith, free_is f s v k)

pub free_ready : (f : Format) (s : Kept) (v : SenderView) → Keeps f s v → is_free_by s.resets.table ≡ true → may_ask v ≡ has_stream (ready v)
free_ready f s v k on = grind (arith, free_is f s v k)

-- what is free has a number left
pub free_made : (t : Option (Box ResetTable Global)) → is_free_by t ≡ true → nat_lt (made_under t) REQUEST_LIMIT ≡ true
free_made t on = grind (arith, on)

-- ---- what waits on a stream

-- the stream that was looked for on one stream alone
pub next_waits : (s below : ℕ) (qs : List Queued) (r : Option Found) → below ≡ s + 1 → NextOnAnswer s below qs r → is_some r ≡ list_any (is_on s) qs
next_waits s below qs None is none = sym (none_on s qs (none s (omega arith) (omega arith)))
next_waits s below qs (Some found) is h =
    let low = h.low in
    let above = h.above in
    let here : found.stream ≡ s = omega arith in
    sym (some_on s qs h.first.message (ap (λ (j : ℕ). first_on j qs) (sym here) ∙ h.first.first))

-- what a request names, by how many streams these are
pub named_by : (f : Format) (s : Kept) (v : SenderView) (xs : List ℕ) (n : ℕ) (b : Bool) → Keeps f s v → is_free_by s.resets.table ≡ true → xs ≡ ready v → length xs ≡ n → b ≡ (n == 0) → may_ask v ≡ not b
named_by f s v xs n b k free is long empty =
    let many : length (ready v) ≡ n = ap (λ (ys : List ℕ). length ys) (sym is) ∙ long in
    free_ready f s v k free ∙ grind (arith, nat_tests, many, empty)

-- there is a table where it names one
pub some_table : (table : Option (Box ResetTable Global)) (size : ℕ) (d : Stock) (xs : List ℕ) → xs ≡ take RESETS_AT_ONCE (filter (is_still_in size d) (listed_under table)) → (length xs ≡ 0 → ⊥) → IsSome table
some_table None size d xs is some = absurd (some (ap (λ (ys : List ℕ). length ys) is))
some_table (Some b) size d xs is some = refl

-- all that it names are streams
pub named_within : (n size : ℕ) (t : Option (Box ResetTable Global)) (d : Stock) (xs : List ℕ) → IsTabled n t → xs ≡ take RESETS_AT_ONCE (filter (is_still_in size d) (listed_under t)) → AllByRecursion (λ (s : ℕ). s < n) xs
named_within n size t d xs h is =
    subst (λ (ys : List ℕ). AllByRecursion (λ (s : ℕ). s < n) ys) (sym is)
    (all_taken (λ (s : ℕ). s < n) RESETS_AT_ONCE (filter (is_still_in size d) (listed_under t)) (all_filtered (λ (s : ℕ). s < n) (is_still_in size d) (listed_under t) (listed_within n t h)))
