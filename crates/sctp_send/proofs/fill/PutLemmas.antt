-- What has its index is put into a packet, or isn't: an entry that is marked, or one that never went out.
use Rattle.std.proofs.Common.{◌≡◌, ℕ, zero, suc, ◌+◌, ◌<◌, List, [], ◌∷◌, ◌++◌, length, map, drop, get_or, set, Bool, true, false, Option, Some, None, refl, sym, ap, ◌∙◌, subst, arith, append-nil}
use Rattle.std.specs.Prelude.{not, ◌&&◌, ◌||◌, if◌then◌else◌, option_map}
use Rattle.std.proofs.lemmas.Bool.{and_parts}
use Rattle.std.proofs.lemmas.List.{length-map}
use Rattle.sctp_model.specs.messages.Format.{Format}
use Rattle.sctp_model.specs.wire.Chunk.{ChunkMeaning}
use Rattle.sctp_model.specs.messages.Plan.{Entry}
use Rattle.sctp_model.specs.sender.SenderView.{SenderView}
use Rattle.sctp_model.specs.sender.Entries.{bytes_in, in_flight}
use Rattle.sctp_model.specs.sender.Filling.{Wish, standing, is_let_flow, may_go, bytes_of_wish, chunk_of, gone}
use Rattle.sctp_model.proofs.sender.FillLaws.{goes_is, goes_not}
use Rattle.sctp_model.proofs.sender.MarkLaws.{is_marked_well}
use Rattle.sctp_model.specs.messages.Framing.{data_chunk}
use Rattle.sctp_model.specs.sender.PieceSaid.{piece_said}
use Rattle.sctp_packet.specs.Draft.{Draft as PacketDraft, room_in, has_room, with_chunks}
use Rattle.sctp_send.specs.SenderKept.{Item, Kept}
use Rattle.sctp_send.specs.SenderStands.{item_here, Keeps}
use Rattle.sctp_send.specs.PartsKept.{OutstandingKept, changed_at, changed}
use Rattle.sctp_send.specs.OutstandingFields.{item_meaning, lane_meaning, message_meaning, entry_meaning}
use Rattle.sctp_send.specs.ResetsKept.{base_of}
use Rattle.sctp_send.specs.inner.Asking.{IsAsked, flows, let_in, IsPending, IsNextPending, PendingAnswer}
use Rattle.sctp_send.specs.inner.Wishing.{first_offset, is_item_marked, is_item_unsent, lets_flow}
use Rattle.sctp_send.specs.inner.Newcomers.{gone_item}
use Rattle.sctp_send.specs.inner.Stocking.{numbers_of, stocked, fragment_chunk, went_out, IsPut, NothingStands}
use Rattle.sctp_send.specs.declared.stock.Stock.{Stock}
use Rattle.sctp_send.specs.declared.kept.entry.Entry.{Entry as EntryFields}
use Rattle.sctp_send.specs.declared.kept.message.Message.{Message as MessageFields}
use Rattle.sctp_send.proofs.kept.ItemLemmas.{item_read}
use Rattle.sctp_send.proofs.fill.NewMayLemmas.{asked_is, no_item}
use Rattle.sctp_send.proofs.fill.WishLemmas.{wish_marked, wish_unsent, wish_new}
use Rattle.sctp_send.proofs.fill.GoneLemmas.{keeps_gone}
use Rattle.sctp_send.proofs.fill.RoomLemmas.{has_room_is, flight_kept, within_window}
use Rattle.sctp_send.proofs.fill.ChunkLemmas.{item_there, chunk_standing, bytes_standing}
use Rattle.sctp_send.proofs.fill.NewlyLemmas.{newly_standing}

-- ---- the first that passes

-- what was found passes
record IsFound (test : Item → Bool) (xs : List Item) (at : ℕ) (d : Item) : Type 0 where
  within : at < length xs
  passes : test (get_or xs at d) ≡ true

found : (test : Item → Bool) (xs : List Item) (at : ℕ) (d : Item) → first_offset test xs ≡ Some at → IsFound test xs at d
found test [] at d is = absurd (cc)
found test (x ∷ xs) at d is = by_test (test x) refl is (λ k there. found test xs k d there)
  where
    by_at : (o : Option ℕ) → option_map suc o ≡ Some at → ((k : ℕ) → o ≡ Some k → IsFound test xs k d) → IsFound test (x ∷ xs) at d
    by_at None none further = absurd (cc)
    by_at (Some k) some further =
        let r = further k refl in
        let low = r.within in
        let same : suc k ≡ at = cc in
        subst (λ (n : ℕ). IsFound test (x ∷ xs) n d) same (record { within = omega arith; passes = r.passes })

    by_test : (b : Bool) → test x ≡ b → (if b then Some 0 else option_map suc (first_offset test xs)) ≡ Some at → ((k : ℕ) → first_offset test xs ≡ Some k → IsFound test xs k d) → IsFound test (x ∷ xs) at d
    by_test true on here further = let same : 0 ≡ at = cc in subst (λ (n : ℕ). IsFound test (x ∷ xs) n d) same (record { within = omega arith; passes = on })
    by_test false off here further = by_at (first_offset test xs) here further

-- the item at this offset, as the view has it
record IsThere (s : Kept) (v : SenderView) (at : ℕ) (d : Item) : Type 0 where
  entry : Entry
  item : get_or s.items at d ≡ item_here v (suc (v.cum + at)) entry

kept_there : (f : Format) (s : Kept) (v : SenderView) (at : ℕ) (d : Item) → Keeps f s v → at < length s.items → IsThere s v at d
kept_there f s v at d k low =
    let r = item_there v (suc v.cum) (drop v.cum v.plan.entries) at d (subst (λ (xs : List Item). at < length xs) k.holds.items low) in
    let index : suc v.cum + at ≡ suc (v.cum + at) = omega arith in
    record { entry = r.0; item = ap (λ (xs : List Item). get_or xs at d) k.holds.items ∙ rw index at r.2 }

-- what is marked is the next wish, and was sent; or else what never went out is
pub pending_next : (f : Format) (s : Kept) (v : SenderView) (at : ℕ) (again : Bool) (d : Item) → Keeps f s v → IsPending s.items at again → (at < length s.items) × IsNextPending f v at again
pending_next f s v at true d k is =
    let r = found is_item_marked s.items at d is in
    let there = kept_there f s v at d k r.within in
    let on : v.marked (suc (v.cum + at)) ≡ true = sym (ap (λ (x : Item). x.marked) there.item) ∙ r.passes in
    (r.within, record { next = wish_marked f s v at k is; sent = (is_marked_well f v k.reached).sent (suc (v.cum + at)) on })
pending_next f s v at false d k is =
    let r = found is_item_unsent s.items at d is.1 in
    let there = kept_there f s v at d k r.within in
    let wanted = and_parts (not (get_or s.items at d).sent) (not (get_or s.items at d).covered && not (get_or s.items at d).abandoned) r.passes in
    (r.within, record { next = wish_unsent f s v at k is.0 is.1; sent = sym (ap (λ (x : Item). x.sent) there.item) ∙ off (get_or s.items at d).sent wanted.0 })
  where
    off : (b : Bool) → not b ≡ true → b ≡ false
    off true is_not = absurd (cc)
    off false is_not = refl

-- ---- an entry goes

-- its chunk, by what the stock keeps
standing_chunk : (f : Format) (s : Kept) (v : SenderView) (old : Stock) (at : ℕ) (x : EntryFields) → Keeps f (stocked s old) v → at < length old.outstanding.items → x ≡ get_or old.outstanding.items at x
    → chunk_of f (standing v (suc (v.cum + at))) ≡ fragment_chunk f (base_of s.resets) s.fragment s.initial (suc (s.cum + at)) x.message.value x.number x.content
standing_chunk f s v old at x k low read =
    let long = length-map old.outstanding.items (item_meaning s.fragment) in
    let item = item_read s.fragment old.outstanding.items at x read in
    chunk_standing f (stocked s old) v at (item_meaning s.fragment x) k (omega arith) ∙ ap (λ (y : Item). data_chunk f (piece_said f s.initial (base_of s.resets) (suc (s.cum + at)) y.entry y.message)) item

-- what a stock keeps when the entry at this offset went out
abbrev pub with_gone : Kept → Stock → (at : ℕ) → EntryFields → Kept
with_gone s d at x = record (stocked s d) { items = set (map (item_meaning s.fragment) d.outstanding.items) at (item_meaning s.fragment (went_out x)) }

pub entry_goes : (f : Format) (s : Kept) (v : SenderView) (before after : PacketDraft) (old new : Stock) (at : ℕ) (again : Bool) (x : EntryFields) → Keeps f (stocked s old) v → IsNextPending f v at again → IsAsked f v before true
    → at < length old.outstanding.items → x ≡ get_or old.outstanding.items at x
    → after ≡ with_chunks before (fragment_chunk f (base_of s.resets) s.fragment s.initial (suc (s.cum + at)) x.message.value x.number x.content ∷ []) → stocked s new ≡ with_gone s old at x
    → numbers_of new.tickets.items ≡ numbers_of old.tickets.items → IsPut f s v before after old new
entry_goes f s v before after old new at again x k premise asked low read packet kept tickets =
    let w = standing v (suc (v.cum + at)) in
    let chunk = standing_chunk f s v old at x k low read in
    let goes_now = asked_is f v w before premise.next asked in
    let long = length-map old.outstanding.items (item_meaning s.fragment) in
    let item = item_read s.fragment old.outstanding.items at x read in
    let gone_now = keeps_gone f (stocked s old) v (room_in before) at (item_meaning s.fragment x) k goes_now (omega arith) in
    let same = ap (λ (y : Item). record (stocked s old) { items = set (map (item_meaning s.fragment) old.outstanding.items) at (gone_item y) }) item in
    record {
      wish = w;
      next = goes_now;
      chunk = packet ∙ ap (λ (c : ChunkMeaning). with_chunks before (c ∷ [])) (sym chunk);
      keeps = subst (λ (y : Kept). Keeps f y (gone w)) (same ∙ sym kept) gone_now;
      told = tickets ∙ sym (ap (λ (ts : List ℕ). numbers_of old.tickets.items ++ ts) (newly_standing v (suc (v.cum + at))) ∙ append-nil (numbers_of old.tickets.items));
    }

-- it may go where it is let in: it went out before or may flow, and its chunk fits
pub entry_asked : (f : Format) (s : Kept) (v : SenderView) (p : PacketDraft) (old : Stock) (at : ℕ) (again : Bool) (x : EntryFields) (b : Bool) → Keeps f (stocked s old) v → IsNextPending f v at again
    → at < length old.outstanding.items → x ≡ get_or old.outstanding.items at x
    → b ≡ let_in f again s old (suc (s.cum + at)) p (entry_meaning (lane_meaning x.message.value) x.number x.content) (Some (message_meaning s.fragment x.message.value)) → IsAsked f v p b
entry_asked f s v p old at again x b k premise low read is = by_room b (may ∙ sym is)
  where
    w : Wish
    w = standing v (suc (v.cum + at))

    e : Entry
    e = entry_meaning (lane_meaning x.message.value) x.number x.content

    flow : is_let_flow w ≡ (again || flows s old (bytes_in e (Some (message_meaning s.fragment x.message.value))))
    flow =
        let long = length-map old.outstanding.items (item_meaning s.fragment) in
        let item = item_read s.fragment old.outstanding.items at x read in
        let bytes = bytes_standing f (stocked s old) v at (item_meaning s.fragment x) k (omega arith) ∙ ap (λ (y : Item). bytes_in y.entry y.message) item in
        let flight = flight_kept f (stocked s old) v k in
        let rwnd = k.holds.rwnd in
        ap (λ (c : Bool). c || lets_flow (in_flight v) (length (bytes_of_wish w)) v.rwnd) premise.sent ∙ rw (bytes, flight, ← rwnd) refl

    regroup : (c d : Bool) → (c && (d && true)) ≡ (d && c)
    regroup true true = refl
    regroup true false = refl
    regroup false true = refl
    regroup false false = refl

    may : may_go f (room_in p) w ≡ let_in f again s old (suc (s.cum + at)) p e (Some (message_meaning s.fragment x.message.value))
    may =
        let window = within_window f v k.reached in
        let fits = sym (has_room_is f p w) ∙ ap (has_room p) (standing_chunk f s v old at x k low read) in
        rw (flow, window, fits) (regroup _ _)

    by_room : (c : Bool) → may_go f (room_in p) w ≡ c → IsAsked f v p c
    by_room true here = (w, goes_is f (room_in p) v w premise.next here)
    by_room false here = goes_not f (room_in p) v w premise.next here

-- the stock in which an entry went out
pub sent_stock : (s : Kept) (old : Stock) (w : OutstandingKept) (at : ℕ) (x : EntryFields) → x ≡ get_or old.outstanding.items at x → w ≡ changed went_out at old.outstanding → stocked s (record old { outstanding = w }) ≡ with_gone s old at x
sent_stock s old w at x read is = ap (λ (y : OutstandingKept). stocked s (record old { outstanding = y })) is ∙ ap (λ (xs : List Item). record (stocked s old) { items = xs }) (goes_out at old.outstanding.items read)
  where
    goes_out : (n : ℕ) (es : List EntryFields) → x ≡ get_or es n x → map (item_meaning s.fragment) (changed_at went_out n es) ≡ set (map (item_meaning s.fragment) es) n (item_meaning s.fragment (went_out x))
    goes_out n [] here = refl
    goes_out zero (e ∷ es) here = ap (λ (y : EntryFields). item_meaning s.fragment (went_out y) ∷ map (item_meaning s.fragment) es) (sym here)
    goes_out (suc n) (e ∷ es) here = ap (λ (xs : List Item). item_meaning s.fragment e ∷ xs) (goes_out n es here)

-- the entry that was found is the next wish, and may go where it is let in, by the stock that was searched
pub pending_asked : (f : Format) (s : Kept) (v : SenderView) (p : PacketDraft) (d : Stock) (w : OutstandingKept) (at : ℕ) (again : Bool) (x : EntryFields) (m : MessageFields) (b : Bool) → Keeps f (stocked s d) v
    → w ≡ d.outstanding → d.outstanding.size ≡ s.fragment → IsPending (map (item_meaning d.outstanding.size) d.outstanding.items) at again → at < length d.outstanding.items → x ≡ get_or w.items at x → m ≡ x.message.value
    → (Keeps f (stocked s (record d { outstanding = w })) v
    → b ≡ let_in f again s (record d { outstanding = w }) (suc (s.cum + at)) p (entry_meaning (lane_meaning m) x.number x.content) (Some (message_meaning s.fragment m)))
    → IsNextPending f v at again × IsAsked f v p b
pending_asked f s v p d w at again x m b k same sized is low read its let_is =
    let pending = subst (λ (n : ℕ). IsPending (map (item_meaning n) d.outstanding.items) at again) sized is in
    let next = (pending_next f (stocked s d) v at again no_item k pending).1 in
    let by : b ≡ let_in f again s d (suc (s.cum + at)) p (entry_meaning (lane_meaning x.message.value) x.number x.content) (Some (message_meaning s.fragment x.message.value)) =
    rw (same, its) at let_is k in
    (next, entry_asked f s v p d at again x b k next low (read ∙ ap (λ (y : OutstandingKept). get_or y.items at x) same) by)

-- none was found: the next wish is for what takes the next index
pub nothing_pending : (f : Format) (s : Kept) (v : SenderView) (d : Stock) → Keeps f (stocked s d) v → d.outstanding.size ≡ s.fragment → PendingAnswer (map (item_meaning d.outstanding.size) d.outstanding.items) None → NothingStands f v
nothing_pending f s v d k sized is = let none = subst (λ (n : ℕ). PendingAnswer (map (item_meaning n) d.outstanding.items) None) sized is in wish_new f (stocked s d) v k none.0 none.1
