-- Whether what is assigned next may go, as the code tests it: flow, room, and the window.
use Rattle.std.proofs.Common.{◌≡◌, ℕ, suc, ◌+◌, ◌*◌, ◌%◌, ◌^◌, ◌<◌, ◌≤◌, List, length, map, get_or, Bool, true, false, Option, Some, None, refl, sym, ap, ◌∙◌, arith}
use Rattle.std.specs.Prelude.{nat_le, ◌&&◌, option_map, Result, Ok, Err, OnErr, nat_lt}
use Rattle.std.proofs.lemmas.Bool.Decides.{nat_tests}
use Rattle.std.proofs.lemmas.Option.{slice_get-get_or}
use Rattle.sctp_model.specs.numbers.Limits.{WINDOW}
use Rattle.sctp_model.specs.messages.Format.{Format, ordered_lane}
use Rattle.sctp_model.specs.wire.Chunk.{ChunkMeaning}
use Rattle.sctp_model.specs.messages.Plan.{End}
use Rattle.sctp_model.specs.sender.SenderView.{SenderView}
use Rattle.sctp_model.specs.sender.Words.{when}
use Rattle.sctp_model.specs.sender.Queueing.{cut}
use Rattle.sctp_model.specs.sender.Assigning.{assigned}
use Rattle.sctp_model.specs.sender.Readers.{outstanding}
use Rattle.sctp_model.specs.sender.Filling.{Wish, newcomer, next_wish, may_go, bytes_of_wish, chunk_of, room_of, goes}
use Rattle.sctp_model.proofs.sender.Bounds.{is_bounded}
use Rattle.sctp_model.proofs.sender.FillLaws.{goes_parts}
use Rattle.sctp_model.proofs.sender.OwedLaws.{is_windowed}
use Rattle.sctp_packet.specs.Draft.{Draft as PacketDraft, room_in, has_room}
use Rattle.sctp_send.specs.SenderKept.{Item, Rest, Track, Kept}
use Rattle.sctp_send.specs.SenderStands.{Keeps}
use Rattle.sctp_send.specs.OutstandingFields.{item_meaning}
use Rattle.sctp_send.specs.SenderFields.{track_meaning}
use Rattle.sctp_send.specs.inner.Walks.{total, one_if_rest}
use Rattle.sctp_send.specs.inner.Wishing.{item_flight, lets_flow}
use Rattle.sctp_send.specs.inner.Newcomers.{rest_at, has_rest, one_if}
use Rattle.sctp_send.specs.inner.Asking.{IsAsked}
use Rattle.sctp_send.specs.inner.Stocking.{stocked, NothingStands}
use Rattle.sctp_send.proofs.KeepLemmas.{kept_length}
use Rattle.std.proofs.lemmas.List.{length-map}
use Rattle.sctp_send.specs.declared.stock.Stock.{Stock}
use Rattle.sctp_send.proofs.QueueLemmas.{kept_in_part}
use Rattle.sctp_send.proofs.fill.RoomLemmas.{has_room_is, go_new}

-- ---- the tests, as the code makes them

-- the window has room for so many indexes more of a stream, whose message then has more fragments or not
abbrev pub in_window : Kept → Stock → (count stream : ℕ) → (more : Bool) → Bool
in_window s d count stream more =
    nat_le (length d.outstanding.items + count + (total (λ t. one_if_rest t.rest) (map (track_meaning s.fragment) d.streams.items) % 2 ^ 32 + one_if more))
    (WINDOW + one_if (has_rest (rest_at (map (track_meaning s.fragment) d.streams.items) stream)))

-- as it was read, where the stream had a message in part or not
pub window_read : (s : Kept) (d : Stock) (count stream : ℕ) (more had r b : Bool) → has_rest (rest_at (map (track_meaning s.fragment) d.streams.items) stream) ≡ had
    → r ≡ nat_le (length d.outstanding.items + count + (total (λ t. one_if_rest t.rest) (map (track_meaning s.fragment) d.streams.items) % 2 ^ 32 + one_if more)) (WINDOW + one_if had) → r ≡ b → in_window s d count stream more ≡ b
window_read s d count stream more had r b is read tested = rw is (sym read ∙ tested)

-- ---- may it go

-- what is assigned next goes exactly where it may flow, fits, and keeps within the window
pub new_may : (f : Format) (s : Kept) (v u : SenderView) (p : PacketDraft) (old : Stock) (c : ChunkMeaning) (bytes : List ℕ) → Keeps f (stocked s old) v → assigned f v ≡ Some u
    → chunk_of f (newcomer v u) ≡ c → bytes_of_wish (newcomer v u) ≡ bytes
    → may_go f (room_in p) (newcomer v u) ≡ ((lets_flow (item_flight (map (item_meaning s.fragment) old.outstanding.items)) (length bytes) s.rwnd && has_room p c) && nat_le (outstanding u) WINDOW)
new_may f s v u p old c bytes k is chunk said =
    let room : nat_le (room_of f (newcomer v u)) (room_in p) ≡ has_room p c = sym (has_room_is f p (newcomer v u)) ∙ ap (has_room p) chunk in
    let flight = item_flight (map (item_meaning s.fragment) old.outstanding.items) in
    go_new f (stocked s old) v u (room_in p) k is
    ∙ ap (λ (b : Bool). b && (lets_flow flight (length (bytes_of_wish (newcomer v u))) s.rwnd && nat_le (outstanding u) WINDOW)) room
    ∙ ap (λ (ds : List ℕ). has_room p c && (lets_flow flight (length ds) s.rwnd && nat_le (outstanding u) WINDOW)) said
    ∙ regroup (has_room p c) (lets_flow flight (length bytes) s.rwnd) (nat_le (outstanding u) WINDOW)
  where
    regroup : (a b c : Bool) → (a && (b && c)) ≡ ((b && a) && c)
    regroup true true c = refl
    regroup true false c = refl
    regroup false true c = refl
    regroup false false c = refl

-- nothing that has an index goes out, so this is the next wish
pub next_is : (f : Format) (v u : SenderView) → NothingStands f v → assigned f v ≡ Some u → next_wish f v ≡ Some (newcomer v u)
next_is f v u stands is = stands ∙ ap (option_map (newcomer v)) is

-- the wish that may go is the next one
pub asked_is : (f : Format) (v : SenderView) (w : Wish) (p : PacketDraft) → next_wish f v ≡ Some w → IsAsked f v p true → goes f (room_in p) v ≡ Some w
asked_is f v w p next asked = asked.1 ∙ (sym (goes_parts f (room_in p) v asked.0 asked.1).0 ∙ next)

-- ---- the window

-- messages in part are few, since they count in the window
pub few_parts : (f : Format) (s : Kept) (v : SenderView) → Keeps f s v → total (λ t. one_if_rest t.rest) s.tracks < 2 ^ 32
few_parts f s v k =
    let all = kept_in_part f s v k in
    let most = is_windowed f v k.reached in
    let low = (is_bounded f v k.reached).within in
    omega (arith, all, most, low)

-- a stream's rest that was read, and whether there is one
pub rest_read : (ts : List Track) (j : ℕ) (x : Track) → j < length ts → one_if_rest (get_or ts j x).rest ≡ one_if (has_rest (rest_at ts j))
rest_read ts j x low = rw (slice_get-get_or ts j x low) (counts (get_or ts j x).rest)
  where
    counts : (o : Option Rest) → one_if_rest o ≡ one_if (has_rest o)
    counts None = refl
    counts (Some r) = refl

pub when_rest : (b : Bool) (r : Rest) → one_if_rest (when b r) ≡ one_if b
when_rest true r = refl
when_rest false r = refl

-- two ways to test the window
pub window_test : (o had count all more w : ℕ) → o + had ≡ count + (all + more) → all < 2 ^ 32 → nat_le o w ≡ nat_le (count + (all % 2 ^ 32 + more)) (w + had)
window_test o had count all more w is small = let same : all % 2 ^ 32 ≡ all = omega arith in rw same (grind (arith, nat_tests))

-- held back by the second test
pub and_off : (a b : Bool) → b ≡ false → (a && b) ≡ false
and_off true b is = is
and_off false b is = refl

-- ---- what is in flight

-- what is counted modulo 2^64 is all that is in flight: so few entries hold no more
pub flying_is : (f : Format) (s : Kept) (v : SenderView) (d : Stock) (flying : ℕ) → Keeps f (stocked s d) v → d.outstanding.size ≡ s.fragment
    → flying ≡ item_flight (map (item_meaning d.outstanding.size) d.outstanding.items) % 2 ^ 64 → item_flight (map (item_meaning d.outstanding.size) d.outstanding.items) ≤ length d.outstanding.items * 65535
    → flying ≡ item_flight (map (item_meaning s.fragment) d.outstanding.items)
flying_is f s v d flying k sized counted few =
    let count = kept_length f (stocked s d) v k in
    let long = length-map d.outstanding.items (item_meaning s.fragment) in
    let most = is_windowed f v k.reached in
    let all : flying ≡ item_flight (map (item_meaning d.outstanding.size) d.outstanding.items) = omega (arith, counted, few, count, long, most) in
    all ∙ ap (λ (n : ℕ). item_flight (map (item_meaning n) d.outstanding.items)) sized

-- ---- as the code reads it

-- what is so anyway is so after an error
pub on_err : {A E : Type 0} (P : Type 0) (r : Result A E) → P → OnErr r P
on_err P (Ok x) p = tt
on_err P (Err e) p = p

-- whether a message has more fragments, as it was read
pub more_read : (fragment size n count : ℕ) (bytes items : List ℕ) → suc fragment < 2 ^ 32 → count ≡ length (cut size bytes) → size ≡ n → bytes ≡ items
    → nat_lt ((fragment + 1) % 2 ^ 32) count ≡ nat_lt (suc fragment) (length (cut n items))
more_read fragment size n count bytes items small many one same =
    let next : (fragment + 1) % 2 ^ 32 ≡ suc fragment = omega arith in
    ap (λ (k : ℕ). nat_lt k count) next ∙ ap (nat_lt (suc fragment)) (many ∙ ap (λ (k : ℕ). length (cut k bytes)) one ∙ ap (λ (bs : List ℕ). length (cut n bs)) same)

-- an item, for an offset at which there is none
pub no_item : Item
no_item = record { entry = End (ordered_lane 0) 0; message = None; sent = false; marked = false; covered = false; abandoned = false; repeats = 0 }
