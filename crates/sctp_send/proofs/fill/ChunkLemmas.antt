-- The chunk of the fragment that goes out, by its item: what it says, which bytes it has, and that it can be written.
use Rattle.std.proofs.Common.{◌≡◌, ℕ, zero, suc, ◌+◌, ◌-◌, ◌*◌, ◌<◌, ◌≤◌, ◌^◌, List, [], ◌∷◌, ◌++◌, length, map, get_or, take, drop, Bool, true, false, Option, Some, refl, sym, ap, ◌∙◌, subst, arith}
use Rattle.std.specs.Prelude.{slice_get, slice_index_or, unwrap_or, nat_lt, ◌==◌, if◌then◌else◌}
use Rattle.std.specs.Int.{div_ceil}
use Rattle.std.proofs.Math.Nat.{mul-le-mul_right}
use Rattle.std.proofs.Math.ListN.{drop_of_length-le}
use Rattle.std.proofs.lemmas.Grind.{div_ceil_times}
use Rattle.std.proofs.lemmas.List.{length-take}
use Rattle.std.proofs.lemmas.Bool.Decides.{nat_tests}
use Rattle.sctp_model.specs.messages.Format.{Format, Plain, Interleaved, Kind, Ordered, Unordered, Lane, ordered_lane}
use Rattle.sctp_model.specs.messages.Framing.{data_chunk, wire_number}
use Rattle.sctp_model.specs.messages.Pieces.{word_of}
use Rattle.sctp_model.specs.messages.Plan.{Message, Entry, Part, End, entry_at}
use Rattle.sctp_model.specs.sender.SenderView.{Queued, SenderView}
use Rattle.sctp_model.specs.sender.Words.{count_up}
use Rattle.sctp_model.specs.sender.Entries.{entry_lane, entry_number, entry_fragment, entry_message, bytes_in}
use Rattle.sctp_model.specs.sender.Queueing.{fragment_of, cut}
use Rattle.sctp_model.specs.sender.PieceSaid.{piece_said}
use Rattle.sctp_model.specs.sender.Filling.{Wish, standing, newcomer, wished, bytes_of_wish, chunk_of}
use Rattle.sctp_model.proofs.sender.CutLaws.{length-cut, cut_at}
use Rattle.sctp_model.proofs.sender.PlanLaws.{message_new}
use Rattle.sctp_model.proofs.sender.PointLaws.{get-drop}
use Rattle.sctp_wire.specs.Layouts.{Fits}
use Rattle.sctp_send.specs.SenderKept.{Item, Track, Kept}
use Rattle.sctp_send.specs.SenderStands.{item_here, items_from, Keeps}
use Rattle.sctp_send.specs.OutstandingFields.{lane_meaning, message_meaning, entry_meaning, no_base}
use Rattle.sctp_send.specs.ResetsKept.{base_of}
use Rattle.sctp_send.specs.declared.kept.message.Message.{Message as MessageFields}
use Rattle.sctp_send.specs.declared.kept.entry.Content.{Content}
use Rattle.sctp_send.specs.declared.kept.entry.Content.TheVariants.{Fragment, EndMark}
use Rattle.sctp_send.proofs.KeepLemmas.{kept_length}
use Rattle.sctp_send.proofs.fill.NewItems.{numbered}
use Rattle.sctp_send.proofs.fill.AssignLemmas.{number_in, number_is, track_at}
use Rattle.sctp_send.proofs.fill.GoingOnLemmas.{gone_on}

-- ---- what goes out, by its entry

-- a wish is for this entry of this message
record IsFor (w : Wish) (e : Entry) (m : Option Message) : Type 0 where
  entry : wished w ≡ e
  message : entry_message w.view.plan e ≡ m

chunk_for : (f : Format) (w : Wish) (e : Entry) (m : Option Message) (base : Lane → ℕ) (initial index : ℕ) → IsFor w e m → w.view.resets.base ≡ base → w.view.initial ≡ initial → w.index ≡ index
    → chunk_of f w ≡ data_chunk f (piece_said f initial base index e m)
chunk_for f w e m base initial index for based from at =
    ap (λ (b : Lane → ℕ). data_chunk f (piece_said f w.view.initial b w.index (wished w) (entry_message w.view.plan (wished w)))) based
    ∙ ap (λ (x : Entry). data_chunk f (piece_said f w.view.initial base w.index x (entry_message w.view.plan x))) for.entry
    ∙ ap (λ (x : Option Message). data_chunk f (piece_said f w.view.initial base w.index e x)) for.message
    ∙ ap (λ (n : ℕ). data_chunk f (piece_said f n base w.index e m)) from ∙ ap (λ (n : ℕ). data_chunk f (piece_said f initial base n e m)) at

bytes_for : (w : Wish) (e : Entry) (m : Option Message) → IsFor w e m → bytes_of_wish w ≡ bytes_in e m
bytes_for w e m for = ap (λ (x : Entry). bytes_in x (entry_message w.view.plan x)) for.entry ∙ ap (bytes_in e) for.message

-- ---- what has its index

pub item_there : (v : SenderView) (i : ℕ) (es : List Entry) (at : ℕ) (d : Item) → at < length (items_from v i es) → (e : Entry) × (slice_get es at ≡ Some e) × (get_or (items_from v i es) at d ≡ item_here v (i + at) e)
item_there v i [] at d low = absurd (omega arith)
item_there v i (e ∷ es) zero d low = let same : i + 0 ≡ i = omega arith in (e, refl, rw same refl)
item_there v i (e ∷ es) (suc at) d low =
    let r = item_there v (suc i) es at d (omega arith) in
    let next : suc i + at ≡ i + suc at = omega arith in
    (r.0, r.1, rw next at r.2)

stands_for : (f : Format) (s : Kept) (v : SenderView) (at : ℕ) (d : Item) → Keeps f s v → at < length s.items → IsFor (standing v (suc (v.cum + at))) (get_or s.items at d).entry (get_or s.items at d).message
stands_for f s v at d k low =
    let es = drop v.cum v.plan.entries in
    let r = item_there v (suc v.cum) es at d (subst (λ (xs : List Item). at < length xs) k.holds.items low) in
    let item = ap (λ (xs : List Item). get_or xs at d) k.holds.items ∙ r.2 in
    let entry = ap (λ (x : Item). x.entry) item in
    let there : entry_at v.plan (suc (v.cum + at)) ≡ Some r.0 = get-drop v.cum v.plan.entries at ∙ r.1 in
    record {
      entry = ap (λ (o : Option Entry). unwrap_or o (End (ordered_lane 0) 0)) there ∙ sym entry;
      message = ap (entry_message v.plan) entry ∙ sym (ap (λ (x : Item). x.message) item);
    }

pub chunk_standing : (f : Format) (s : Kept) (v : SenderView) (at : ℕ) (d : Item) → Keeps f s v → at < length s.items
    → chunk_of f (standing v (suc (v.cum + at))) ≡ data_chunk f (piece_said f s.initial (base_of s.resets) (suc (s.cum + at)) (get_or s.items at d).entry (get_or s.items at d).message)
chunk_standing f s v at d k low =
    chunk_for f (standing v (suc (v.cum + at))) (get_or s.items at d).entry (get_or s.items at d).message (base_of s.resets) s.initial (suc (s.cum + at)) (stands_for f s v at d k low) k.resets.base (sym k.holds.initial)
    (ap (λ (n : ℕ). suc (n + at)) (sym k.holds.cum))

pub bytes_standing : (f : Format) (s : Kept) (v : SenderView) (at : ℕ) (d : Item) → Keeps f s v → at < length s.items
    → bytes_of_wish (standing v (suc (v.cum + at))) ≡ bytes_in (get_or s.items at d).entry (get_or s.items at d).message
bytes_standing f s v at d k low = bytes_for (standing v (suc (v.cum + at))) (get_or s.items at d).entry (get_or s.items at d).message (stands_for f s v at d k low)

-- ---- what takes its index

behind : (es : List Entry) (e : Entry) (more : List Entry) → slice_get (es ++ e ∷ more) (length es) ≡ Some e
behind [] e more = refl
behind (x ∷ es) e more = behind es e more

-- its index
next_index : (f : Format) (s : Kept) (v : SenderView) → Keeps f s v → suc (length v.plan.entries) ≡ suc (s.cum + length s.items)
next_index f s v k = let count = kept_length f s v k in let cum = k.holds.cum in omega arith

begins_for : (f : Format) (s : Kept) (v : SenderView) (q : Queued) (rest : List Queued) (d turn : ℕ) (x : Track) → Keeps f s v → q.lane.stream < v.streams
    → IsFor (newcomer v (numbered v q (suc d) rest turn)) (Part q.lane (number_in q.lane.kind (get_or s.tracks q.lane.stream x)) 0) (Some q.message)
begins_for f s v q rest d turn x k low =
    let number = ap (number_in q.lane.kind) (track_at f s v q.lane.stream x k low) ∙ number_is v q.lane in
    rw number (record {
      entry = ap (λ (o : Option Entry). unwrap_or o (End (ordered_lane 0) 0)) (behind v.plan.entries (Part q.lane (length (v.plan.messages q.lane)) 0) _);
      message = message_new v.plan q (suc d);
    })

pub chunk_begun : (f : Format) (s : Kept) (v : SenderView) (q : Queued) (rest : List Queued) (d turn : ℕ) (x : Track) → Keeps f s v → q.lane.stream < v.streams
    → chunk_of f (newcomer v (numbered v q (suc d) rest turn))
    ≡ data_chunk f (piece_said f s.initial (base_of s.resets) (suc (s.cum + length s.items)) (Part q.lane (number_in q.lane.kind (get_or s.tracks q.lane.stream x)) 0) (Some q.message))
chunk_begun f s v q rest d turn x k low =
    chunk_for f (newcomer v (numbered v q (suc d) rest turn)) _ _ (base_of s.resets) s.initial (suc (s.cum + length s.items)) (begins_for f s v q rest d turn x k low) k.resets.base (sym k.holds.initial) (next_index f s v k)

pub bytes_begun : (f : Format) (s : Kept) (v : SenderView) (q : Queued) (rest : List Queued) (d turn : ℕ) (x : Track) → Keeps f s v → q.lane.stream < v.streams
    → bytes_of_wish (newcomer v (numbered v q (suc d) rest turn)) ≡ bytes_in (Part q.lane (number_in q.lane.kind (get_or s.tracks q.lane.stream x)) 0) (Some q.message)
bytes_begun f s v q rest d turn x k low = bytes_for (newcomer v (numbered v q (suc d) rest turn)) _ _ (begins_for f s v q rest d turn x k low)

continues_for : (v : SenderView) (e : Entry) (turn : ℕ) → IsFor (newcomer v (gone_on v e turn)) e (entry_message v.plan e)
continues_for v e turn = record { entry = ap (λ (o : Option Entry). unwrap_or o (End (ordered_lane 0) 0)) (behind v.plan.entries e []); message = refl }

pub chunk_continued : (f : Format) (s : Kept) (v : SenderView) (e : Entry) (turn : ℕ) → Keeps f s v
    → chunk_of f (newcomer v (gone_on v e turn)) ≡ data_chunk f (piece_said f s.initial (base_of s.resets) (suc (s.cum + length s.items)) e (entry_message v.plan e))
chunk_continued f s v e turn k = chunk_for f (newcomer v (gone_on v e turn)) e (entry_message v.plan e) (base_of s.resets) s.initial (suc (s.cum + length s.items)) (continues_for v e turn) k.resets.base (sym k.holds.initial) (next_index f s v k)

pub bytes_continued : (v : SenderView) (e : Entry) (turn : ℕ) → bytes_of_wish (newcomer v (gone_on v e turn)) ≡ bytes_in e (entry_message v.plan e)
bytes_continued v e turn = bytes_for (newcomer v (gone_on v e turn)) e (entry_message v.plan e) (continues_for v e turn)

-- ---- bytes of a fragment

past : (xs : List (List ℕ)) (k : ℕ) → length xs ≤ k → get_or xs k [] ≡ []
past [] k le = refl
past (x ∷ xs) zero le = absurd (omega arith)
past (x ∷ xs) (suc k) le = past xs k (omega arith)

take_none : (n : ℕ) (xs : List ℕ) → xs ≡ [] → take n xs ≡ []
take_none zero xs is = refl
take_none (suc n) xs is = rw is refl

-- a fragment is a range of its message's bytes; behind the last one there is nothing
pub fragment_is : (size k : ℕ) (bytes : List ℕ) → 0 < size → slice_index_or (cut size bytes) k [] ≡ take size (drop (k * size) bytes)
fragment_is size k bytes some = by_at (nat_lt k (length (cut size bytes))) refl
  where
    by_at : (b : Bool) → nat_lt k (length (cut size bytes)) ≡ b → get_or (cut size bytes) k [] ≡ take size (drop (k * size) bytes)
    by_at true low = cut_at size k bytes (grind (arith, nat_tests))
    by_at false high =
        let over : length (cut size bytes) ≤ k = grind (arith, nat_tests) in
        let many = length-cut size bytes in
        let up = (div_ceil_times (length bytes) size some).0 in
        let all : div_ceil (length bytes) size * size ≤ k * size = mul-le-mul_right size (omega arith) in
        past (cut size bytes) k over ∙ sym (take_none size (drop (k * size) bytes) (drop_of_length-le bytes (omega (arith, up, all))))

-- none has more bytes than the size says
fragment_short : (size i n k : ℕ) (bytes : List ℕ) → length (slice_index_or (map (fragment_of size bytes) (count_up i n)) k []) ≤ size
fragment_short size i zero k bytes = omega arith
fragment_short size i (suc n) zero bytes = omega (arith, length-take size (drop (i * size) bytes))
fragment_short size i (suc n) (suc k) bytes = fragment_short size (suc i) n k bytes

-- ---- the chunk can be written

word_small : (f : Format) (payload k : ℕ) → payload < 2 ^ 32 → k < 2 ^ 32 → word_of f payload k < 2 ^ 32
word_small Plain payload k one two = one
word_small Interleaved payload k one two = by_test (k == 0)
  where
    by_test : (b : Bool) → (if b then payload else k) < 2 ^ 32
    by_test true = one
    by_test false = two

ssn_small : (k : Kind) (n : ℕ) → wire_number Plain k n < 2 ^ 16
ssn_small Ordered n = omega arith
ssn_small Unordered n = omega arith

-- what is said of a fragment is within its bits
entry_fits : (f : Format) (initial i : ℕ) (e : Entry) (x : Message) → (entry_lane e).stream < 2 ^ 16 → x.payload < 2 ^ 32 → entry_fragment e < 2 ^ 32 → length (bytes_in e (Some x)) ≤ 1400
    → Fits (data_chunk f (piece_said f initial no_base i e (Some x)))
entry_fits Plain initial i e x stream payload few short = record {
  fields = record { tsn = omega arith; stream = stream; number = ssn_small (entry_lane e).kind (entry_number e - 0); word = payload };
  length = omega (arith, short);
  plain = tt;
}
entry_fits Interleaved initial i e x stream payload few short = record {
  fields = record { tsn = omega arith; stream = stream; number = omega arith; word = word_small Interleaved x.payload (entry_fragment e) payload few };
  length = omega (arith, short);
  plain = tt;
}

pub piece_fits : (f : Format) (initial i n size : ℕ) (m : MessageFields) (p : Content) → size ≤ 1400 → m.stream < 2 ^ 16 → m.payload_id < 2 ^ 32 → entry_fragment (entry_meaning (lane_meaning m) n p) < 2 ^ 32
    → Fits (data_chunk f (piece_said f initial no_base i (entry_meaning (lane_meaning m) n p) (Some (message_meaning size m))))
piece_fits f initial i n size m (Fragment k) short stream payload few =
    let most = fragment_short size 0 (div_ceil (length m.bytes.items) size) k m.bytes.items in
    entry_fits f initial i (Part (lane_meaning m) n k) (message_meaning size m) stream payload few (omega (arith, most, short))
piece_fits f initial i n size m EndMark short stream payload few = entry_fits f initial i (End (lane_meaning m) n) (message_meaning size m) stream payload few (omega arith)
