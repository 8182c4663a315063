-- Fragments that take indexes, tickets that are numbered, the chunk of a fragment: what the code writes is what is kept.
use Rattle.std.proofs.Common.{◌≡◌, ℕ, zero, suc, ◌+◌, ◌-◌, ◌*◌, ◌<◌, ◌≤◌, min, List, [], ◌∷◌, ◌++◌, length, map, take, drop, get_or, set, Bool, true, false, Option, None, Some, refl, sym, ap, ◌∙◌, arith, length-drop, remove}
use Rattle.std.specs.Prelude.{◌==◌, nat_le}
use Rattle.std.proofs.lemmas.Bool.Decides.{nat_tests}
use Rattle.std.proofs.lemmas.List.{length-map, map-append, map-set, take-map, drop-map, take_all}
use Rattle.sctp_model.specs.messages.Format.{Format, Plain, Interleaved, Lane, Kind}
use Rattle.sctp_model.specs.messages.Framing.{lane_kind, data_chunk, takes_turns, wire_number}
use Rattle.sctp_values.specs.Meanings.{kind_meaning}
use Rattle.sctp_model.specs.messages.Pieces.{word_of}
use Rattle.sctp_model.specs.numbers.Serial as serial
use Rattle.sctp_model.specs.wire.Chunk.{PieceMeaning}
use Rattle.sctp_packet.specs.Draft.{piece_chunk}
use Rattle.sctp_model.specs.messages.Plan.{Message, Part}
use Rattle.sctp_model.specs.sender.Entries.{entry_fragment, bytes_in}
use Rattle.sctp_model.specs.sender.Queueing.{cut}
use Rattle.sctp_model.specs.sender.PieceSaid.{is_unordered}
use Rattle.sctp_send.specs.SenderKept.{Item, Rest, Track, Kept}
use Rattle.sctp_send.specs.OutstandingFields.{item_meaning, queued_meaning, lane_meaning, message_meaning, entry_meaning, no_base}
use Rattle.sctp_send.specs.inner.Newcomers.{gone_item, new_item, new_items, begun_items, fresh_track, track_of, number_on, without_place, rest_after, rest_at, has_rest, begun, gone_on}
use Rattle.sctp_send.specs.inner.Owning.{taken_meaning}
use Rattle.sctp_send.specs.inner.Stocking.{numbers_of, all_numbered, AreOpen, stocked, fragment_chunk, fragment_item, rest_from, counted_track, left_track}
use Rattle.sctp_send.specs.SenderFields.{queued_by, track_meaning, rests_meaning}
use Rattle.std.specs.declared.alloc.Global.{Global}
use Rattle.std.specs.declared.sync.Arc.{Arc}
use Rattle.sctp_send.specs.declared.kept.track.Track.{Track as TrackFields}
use Rattle.sctp_send.specs.declared.stock.Stock.{Stock}
use Rattle.sctp_send.specs.declared.kept.track.Taken.{Taken}
use Rattle.sctp_send.specs.declared.kept.track.Rest.{Rest as RestFields}
use Rattle.sctp_send.specs.declared.kept.entry.Standing.TheVariants.{Sent}
use Rattle.sctp_send.specs.declared.kept.message.Fate.{Fate}
use Rattle.sctp_send.specs.declared.kept.message.Fate.TheVariants.{Numbered}
use Rattle.sctp_send.specs.declared.kept.message.Message.{Message as MessageFields}
use Rattle.sctp_send.specs.declared.kept.entry.Content.{Content}
use Rattle.sctp_send.specs.declared.kept.entry.Content.TheVariants.{Fragment, EndMark}
use Rattle.sctp_values.specs.declared.ticket.Ticket.{Ticket}
use Rattle.sctp_send.proofs.ResetLemmas.{from_zero}
use Rattle.sctp_send.proofs.WalkLemmas.{none_behind}
use Rattle.sctp_send.proofs.fill.ChunkLemmas.{fragment_is}

-- ---- fragments that take indexes

new_push : (l : Lane) (n : ℕ) (m : Message) (k d : ℕ) → new_items l n m k (suc d) ≡ new_items l n m k d ++ new_item (Part l n (k + d)) m ∷ []
new_push l n m k zero = let same : k + 0 ≡ k = omega arith in rw same refl
new_push l n m k (suc d) = let next : suc k + d ≡ k + suc d = omega arith in rw (← next) (ap (λ (xs : List Item). new_item (Part l n k) m ∷ xs) (new_push l n m (suc k) d))

-- one fragment more
pub begun_push : (l : Lane) (n : ℕ) (m : Message) (k : ℕ) → 0 < k → begun_items l n m (k + 1) ≡ begun_items l n m k ++ new_item (Part l n k) m ∷ []
begun_push l n m zero some = absurd (omega arith)
begun_push l n m (suc d) some =
    let next : suc d + 1 ≡ suc (suc d) = omega arith in
    let at_is : 1 + d ≡ suc d = omega arith in
    rw next (ap (λ (xs : List Item). gone_item (new_item (Part l n 0) m) ∷ xs) (rw at_is at (new_push l n m 1 d)))

-- ---- bytes of a fragment

take_short : (n k : ℕ) (ys : List ℕ) → k ≡ min n (length ys) → take k ys ≡ take n ys
take_short n k ys is = by_length (nat_le n (length ys)) refl
  where
    by_length : (b : Bool) → nat_le n (length ys) ≡ b → take k ys ≡ take n ys
    by_length true le = let same : k ≡ n = grind (arith, nat_tests) in ap (λ (j : ℕ). take j ys) same
    by_length false gt = let all : length ys ≤ k = grind (arith, nat_tests) in let over : length ys ≤ n = grind (arith, nat_tests) in take_all k ys all ∙ sym (take_all n ys over)

take_empty : (j : ℕ) → take {A = ℕ} j [] ≡ []
take_empty zero = refl
take_empty (suc j) = refl

cut_short : (n i a b : ℕ) (xs : List ℕ) → a ≡ min i (length xs) → b ≡ min (a + n) (length xs) → take (b - a) (drop a xs) ≡ take n (drop i xs)
cut_short n i a b xs is end = by_length (nat_le i (length xs)) refl
  where
    by_length : (c : Bool) → nat_le i (length xs) ≡ c → take (b - a) (drop a xs) ≡ take n (drop i xs)
    by_length true le =
        let same : a ≡ i = grind (arith, nat_tests) in
        let long = length-drop i xs in
        let count : b - a ≡ min n (length (drop i xs)) = grind (arith, nat_tests) in
        ap (λ (j : ℕ). take (b - a) (drop j xs)) same ∙ take_short n (b - a) (drop i xs) count
    by_length false gt =
        let all : length xs ≤ a = grind (arith, nat_tests) in
        let over : length xs ≤ i = grind (arith, nat_tests) in
        ap (take (b - a)) (none_behind a xs all) ∙ take_empty (b - a) ∙ sym (ap (take n) (none_behind i xs over) ∙ take_empty n)

-- a range that stays within the bytes
pub range_is : (size k : ℕ) (bytes : List ℕ) (from to : ℕ) → 0 < size → from ≡ min (k * size) (length bytes) → to ≡ min (from + size) (length bytes) → take (to - from) (drop from bytes) ≡ get_or (cut size bytes) k []
range_is size k bytes from to some is end = cut_short size (k * size) from to bytes is end ∙ sym (fragment_is size k bytes some)

-- ---- the chunk of a fragment

-- the flag U that says a kind
said_unordered : (b : Bool) (k : Kind) → lane_kind b ≡ k → b ≡ is_unordered k
said_unordered true k is = ap is_unordered is
said_unordered false k is = ap is_unordered is

-- an I-DATA if and only if streams take turns
pub chosen_chunk : (f : Format) (turns : Bool) (p : PieceMeaning) → turns ≡ takes_turns f → piece_chunk turns p ≡ data_chunk f p
chosen_chunk Plain turns p is = ap (λ (t : Bool). piece_chunk t p) is
chosen_chunk Interleaved turns p is = ap (λ (t : Bool). piece_chunk t p) is

-- the chunk of the piece that the code makes says what is to be said
pub same_chunk : (f : Format) (size initial i n tsn fragment count number word stream payload : ℕ) (unordered : Bool) (m : MessageFields) (p : Content) (bytes : List ℕ) → tsn ≡ serial.tsn initial i
    → ((l : Lane) (k : ℕ) → fragment ≡ entry_fragment (entry_meaning l k p)) → count ≡ length (cut size m.bytes.items) → number ≡ wire_number f (kind_meaning m.kind) n → word ≡ word_of f payload fragment
    → stream ≡ m.stream → payload ≡ m.payload_id → lane_kind unordered ≡ kind_meaning m.kind → ((l : Lane) (k : ℕ) → bytes ≡ bytes_in (entry_meaning l k p) (Some (message_meaning size m)))
    → data_chunk f (record { immediate = false; unordered = unordered; begin = fragment == 0; end = (fragment + 1) == count; tsn = tsn; stream = stream; number = number; word = word; bytes = bytes })
    ≡ fragment_chunk f no_base size initial i m n p
same_chunk f size initial i n tsn fragment count number word stream payload unordered m (Fragment k) bytes at is many wire said on named flag range =
    let one : fragment + 1 ≡ suc k = omega (arith, is (lane_meaning m) n) in
    rw (one, many, wire ∙ sym (from_zero f (lane_meaning m) n), said, range (lane_meaning m) n, at, on, named, is (lane_meaning m) n, said_unordered unordered (kind_meaning m.kind) flag) refl
same_chunk f size initial i n tsn fragment count number word stream payload unordered m EndMark bytes at is many wire said on named flag range =
    let one : fragment + 1 ≡ 1 = omega (arith, is (lane_meaning m) n) in
    rw (one, many, wire ∙ sym (from_zero f (lane_meaning m) n), said, range (lane_meaning m) n, at, on, named, is (lane_meaning m) n, said_unordered unordered (kind_meaning m.kind) flag) refl

-- ---- tickets

numbered_step : (ns : List ℕ) (i : ℕ) (fates : List Fate) (d : ℕ) → i < length ns → all_numbered fates (drop i ns) ≡ all_numbered (set fates (get_or ns i d - 1) Numbered) (drop (suc i) ns)
numbered_step [] i fates d lt = absurd (omega arith)
numbered_step (n ∷ ns) zero fates d lt = refl
numbered_step (n ∷ ns) (suc i) fates d lt = numbered_step ns i fates d (omega arith)

number_read : (ts : List Ticket) (i : ℕ) (d : Ticket) → get_or (numbers_of ts) i d.0 ≡ (get_or ts i d).0
number_read [] i d = refl
number_read (t ∷ ts) zero d = refl
number_read (t ∷ ts) (suc i) d = number_read ts i d

-- one ticket more
pub numbered_more : (ts : List Ticket) (i at : ℕ) (fates after : List Fate) (d : Ticket) (all : List Fate) → i < length ts → at ≡ (get_or ts i d).0 - 1 → after ≡ set fates at Numbered
    → all ≡ all_numbered fates (drop i (numbers_of ts)) → all ≡ all_numbered after (drop (i + 1) (numbers_of ts))
numbered_more ts i at fates after d all lt is now before =
    let long = length-map ts (λ (t : Ticket). t.0) in
    let one : i + 1 ≡ suc i = omega arith in
    let at_is : get_or (numbers_of ts) i d.0 - 1 ≡ at = ap (λ (n : ℕ). n - 1) (number_read ts i d) ∙ sym is in
    before ∙ numbered_step (numbers_of ts) i fates d.0 (omega (arith, long)) ∙ rw (at_is, one, now) refl

-- it isn't over
pub open_at : (ended : ℕ) (ts : List Ticket) (i : ℕ) (d : Ticket) → AreOpen ended (numbers_of ts) → i < length ts → ended < (get_or ts i d).0
open_at ended [] i d are lt = absurd (omega arith)
open_at ended (t ∷ ts) zero d are lt = are.0
open_at ended (t ∷ ts) (suc i) d are lt = open_at ended ts i d are.1 (omega arith)

pub numbered_end : (ts : List Ticket) (i : ℕ) (fates all : List Fate) → length ts ≤ i → all ≡ all_numbered fates (drop i (numbers_of ts)) → fates ≡ all
numbered_end ts i fates all le before =
    let long = length-map ts (λ (t : Ticket). t.0) in
    sym (before ∙ ap (all_numbered fates) (none_behind i (numbers_of ts) (omega (arith, long))))

-- the last ticket
pub numbered_push : (fates : List Fate) (ns : List ℕ) (n : ℕ) → all_numbered fates (ns ++ n ∷ []) ≡ set (all_numbered fates ns) (n - 1) Numbered
numbered_push fates [] n = refl
numbered_push fates (k ∷ ns) n = numbered_push (set fates (k - 1) Numbered) ns n

-- ---- a stock changes

-- what was read at a number
pub read_at : {A B : Type 0} (f : A → B) (xs : List A) (i : ℕ) (x : A) (d : B) → i < length xs → x ≡ get_or xs i x → get_or (map f xs) i d ≡ f x
read_at f xs i x d low read = of_map xs i low ∙ ap f (sym read)
  where
    of_map : (ys : List _) (j : ℕ) → j < length ys → get_or (map f ys) j d ≡ f (get_or ys j x)
    of_map [] j lt = absurd (omega arith)
    of_map (y ∷ ys) zero lt = refl
    of_map (y ∷ ys) (suc j) lt = of_map ys j (omega arith)

-- a message took its number
pub begun_is : (s : Kept) (old new : Stock) (m : MessageFields) (place count number turn : ℕ) (left : Option Rest)
    → map (item_meaning s.fragment) new.outstanding.items ≡ map (item_meaning s.fragment) old.outstanding.items ++ begun_items (lane_meaning m) number (message_meaning s.fragment m) count
    → map (queued_by s.fragment) new.queue.items ≡ without_place place (map (queued_by s.fragment) old.queue.items)
    → map (track_meaning s.fragment) new.streams.items ≡ set (map (track_meaning s.fragment) old.streams.items) m.stream (counted_track (kind_meaning m.kind) left (track_of (map (track_meaning s.fragment) old.streams.items) m.stream))
    → left ≡ rest_from s.fragment m number count → numbers_of new.tickets.items ≡ numbers_of old.tickets.items ++ m.ticket ∷ [] → new.turn ≡ turn
    → number ≡ number_on (map (track_meaning s.fragment) old.streams.items) (lane_meaning m) → new.outstanding.capacity ≡ old.outstanding.capacity
    → stocked s new ≡ begun (stocked s old) (queued_meaning s.fragment m) place count turn (old.outstanding.capacity)
begun_is s old new m place count number turn left items queue tracks rest told turned numbered space =
    let fates : all_numbered s.fates (numbers_of new.tickets.items) ≡ set (all_numbered s.fates (numbers_of old.tickets.items)) (m.ticket - 1) Numbered = ap (all_numbered s.fates) told ∙ numbered_push s.fates (numbers_of old.tickets.items) m.ticket in
    rw (items, queue, tracks, fates, turned, rest, numbered, space) refl

-- a message in part went on
pub gone_on_is : (s : Kept) (old new : Stock) (t : Taken) (stream turn : ℕ)
    → map (item_meaning s.fragment) new.outstanding.items ≡ map (item_meaning s.fragment) old.outstanding.items ++ fragment_item s.fragment t.message.value t.number t.fragment Sent ∷ []
    → new.queue ≡ old.queue
    → map (track_meaning s.fragment) new.streams.items
    ≡ set (map (track_meaning s.fragment) old.streams.items) stream (record (track_of (map (track_meaning s.fragment) old.streams.items) stream) { rest = rest_after (taken_meaning s.fragment t).entry (taken_meaning s.fragment t).message })
    → new.tickets ≡ old.tickets → new.turn ≡ turn → new.outstanding.capacity ≡ old.outstanding.capacity
    → stocked s new ≡ gone_on (stocked s old) (taken_meaning s.fragment t) stream turn (old.outstanding.capacity)
gone_on_is s old new t stream turn items queue tracks told turned space = rw (items, queue, tracks, told, turned, space) refl

-- a stream with a message in part has its next fragment
pub never_taken : (size n at stream : ℕ) (ts : List TrackFields) → n ≡ size → at ≡ stream → rest_at (map (track_meaning n) ts) at ≡ None → has_rest (rest_at (map (track_meaning size) ts) stream) ≡ true → ⊥
never_taken size n at stream ts same is none some =
    let off : has_rest (rest_at (map (track_meaning size) ts) stream) ≡ false = ap (λ (k : ℕ). has_rest (rest_at (map (track_meaning k) ts) stream)) (sym same) ∙ ap (λ (j : ℕ). has_rest (rest_at (map (track_meaning n) ts) j)) (sym is) ∙ ap has_rest none in
    cc

-- a place of the queue is empty now
pub taken_out : (size place : ℕ) (ms : List (Arc MessageFields Global)) → map (queued_by size) (remove ms place) ≡ without_place place (map (queued_by size) ms)
taken_out size place ms = map-append (queued_by size) (take place ms) (drop (suc place) ms) ∙ sym (rw (take-map (queued_by size) place ms, drop-map (queued_by size) (suc place) ms) refl)

-- a stream's track is another now
pub set_on : (size at stream : ℕ) (ts : List TrackFields) (y : TrackFields) (z : Track) → at ≡ stream → track_meaning size y ≡ z → map (track_meaning size) (set ts at y) ≡ set (map (track_meaning size) ts) stream z
set_on size at stream ts y z same is = map-set (track_meaning size) ts at y ∙ rw (same, is) refl

-- the track that was read
pub track_there : (size at stream : ℕ) (ts : List TrackFields) (x : TrackFields) → at ≡ stream → stream < length ts → x ≡ get_or ts at x → track_of (map (track_meaning size) ts) stream ≡ track_meaning size x
track_there size at stream ts x same low read = ap (track_of (map (track_meaning size) ts)) (sym same) ∙ read_at (track_meaning size) ts at x fresh_track (omega arith) read

-- so much is left on a stream now
pub left_on : (size at stream : ℕ) (ts us : List TrackFields) (x : TrackFields) (rest : Option RestFields) → at ≡ stream → stream < length ts → x ≡ get_or ts at x → us ≡ set ts at (record x { rest = rest })
    → map (track_meaning size) us ≡ set (map (track_meaning size) ts) stream (left_track (rests_meaning size (track_of (map (track_meaning size) ts) stream) rest) (track_of (map (track_meaning size) ts) stream))
left_on size at stream ts us x rest same low read is =
    ap (map (track_meaning size)) is ∙ set_on size at stream ts (record x { rest = rest }) _ same (ap (λ (t : Track). left_track (rests_meaning size t rest) t) (sym (track_there size at stream ts x same low read)))
