-- A message in part goes on: its next fragment is put into a packet, or isn't.
use Rattle.std.proofs.Common.{◌≡◌, ℕ, suc, ◌+◌, ◌%◌, ◌^◌, ◌<◌, List, [], ◌∷◌, ◌++◌, length, map, Bool, true, false, Option, Some, None, refl, sym, ap, ◌∙◌, subst, arith, append-nil}
use Rattle.std.specs.Prelude.{nat_le, nat_lt, ◌&&◌}
use Rattle.std.proofs.lemmas.Option.{slice_get-get_or}
use Rattle.std.proofs.lemmas.List.{length-map}
use Rattle.sctp_model.specs.numbers.Limits.{WINDOW}
use Rattle.sctp_model.specs.messages.Format.{Format}
use Rattle.sctp_model.specs.wire.Chunk.{ChunkMeaning}
use Rattle.sctp_model.specs.messages.Framing.{data_chunk}
use Rattle.sctp_model.specs.sender.PieceSaid.{piece_said}
use Rattle.sctp_model.specs.messages.Plan.{Message, Entry, Part}
use Rattle.sctp_model.specs.sender.SenderView.{SenderView}
use Rattle.sctp_model.specs.sender.Entries.{entry_message, bytes_in, continued}
use Rattle.sctp_model.specs.sender.Queueing.{cut}
use Rattle.sctp_model.specs.sender.Assigning.{stream_after, going_on, assigned}
use Rattle.sctp_model.specs.sender.Readers.{outstanding}
use Rattle.sctp_model.specs.sender.Filling.{newcomer, may_go, chunk_of, goes, gone}
use Rattle.sctp_model.proofs.sender.FillLaws.{goes_is, goes_not}
use Rattle.sctp_packet.specs.Draft.{Draft as PacketDraft, room_in, has_room, with_chunks}
use Rattle.sctp_send.specs.SenderKept.{Rest, Track, Kept}
use Rattle.sctp_send.specs.SenderStands.{rest_here, track_here, Keeps}
use Rattle.sctp_send.specs.OutstandingFields.{item_meaning, lane_meaning, message_meaning}
use Rattle.sctp_send.specs.ResetsKept.{base_of}
use Rattle.sctp_send.specs.SenderFields.{track_meaning}
use Rattle.sctp_send.specs.inner.Walks.{total, one_if_rest}
use Rattle.sctp_send.specs.inner.Newcomers as kept
use Rattle.sctp_send.specs.inner.Newcomers.{rest_after, rest_at, has_rest, one_if, fresh_track, track_of, IsContinued}
use Rattle.sctp_send.specs.inner.Asking.{IsAsked, flows, let_in}
use Rattle.sctp_send.specs.inner.Stocking.{numbers_of, stocked, fragment_chunk, IsPut, NothingStands}
use Rattle.sctp_send.specs.declared.stock.Stock.{Stock}
use Rattle.sctp_send.specs.declared.kept.entry.Content.TheVariants.{Fragment}
use Rattle.sctp_send.specs.declared.kept.message.Message.{Message as MessageFields}
use Rattle.sctp_send.proofs.TableLemmas.{length-table}
use Rattle.sctp_send.proofs.fill.AssignLemmas.{track_at}
use Rattle.sctp_send.proofs.fill.GoingOnLemmas.{gone_on}
use Rattle.sctp_send.proofs.fill.AssignedKept.{continued_kept, outstanding_continued}
use Rattle.sctp_send.proofs.fill.ChunkLemmas.{chunk_continued, bytes_continued}
use Rattle.sctp_send.proofs.fill.FewLemmas.{few_fragments}
use Rattle.sctp_send.proofs.fill.NewlyLemmas.{newly_continued}
use Rattle.sctp_send.proofs.fill.NewMayLemmas.{in_window, new_may, next_is, asked_is, few_parts, rest_read, when_rest, window_test, and_off}
use Rattle.sctp_send.proofs.RoomKept.{room_assigned, room_goes_on}

-- ---- a message goes on

-- what is left, as the code reads it, is what the view goes on with
record IsRestOf (v : SenderView) (stream : ℕ) (r : Rest) : Type 0 where
  on : continued v.plan stream ≡ Some r.entry
  message : r.message ≡ entry_message v.plan r.entry

rest_of_view : (f : Format) (s : Kept) (v : SenderView) (stream : ℕ) (r : Rest) → Keeps f s v → stream < v.streams → Some r ≡ rest_at s.tracks stream → IsRestOf v stream r
rest_of_view f s v stream r k low there = by_next (continued v.plan stream) refl (there ∙ here)
  where
    here : rest_at s.tracks stream ≡ rest_here v.plan (continued v.plan stream)
    here =
        let x = track_here v stream in
        let wide = ap (λ (ts : List Track). length ts) k.holds.tracks ∙ length-table (track_here v) 0 v.streams in
        rw (slice_get-get_or s.tracks stream x (omega (arith, wide, low))) (ap (λ (t : Track). t.rest) (track_at f s v stream x k low))

    by_next : (o : Option Entry) → continued v.plan stream ≡ o → Some r ≡ rest_here v.plan o → IsRestOf v stream r
    by_next None on is = absurd (cc)
    by_next (Some e) on is = let same : record { entry = e; message = entry_message v.plan e } ≡ r = cc in subst (λ (x : Rest). IsRestOf v stream x) same (record { on = on; message = refl })

-- a message that goes on has something left
pub never_ended : (f : Format) (s : Kept) (v : SenderView) (old : Stock) (stream : ℕ) → Keeps f (stocked s old) v → IsContinued f v stream → None ≡ rest_at (map (track_meaning s.fragment) old.streams.items) stream → ⊥
never_ended f s v old stream k c none =
    let x = track_here v stream in
    let ts = (stocked s old).tracks in
    let wide = ap (λ (ys : List Track). length ys) k.holds.tracks ∙ length-table (track_here v) 0 v.streams in
    let low = c.low in
    let here : rest_at ts stream ≡ rest_here v.plan (continued v.plan stream) = rw (slice_get-get_or ts stream x (omega (arith, wide, low))) (ap (λ (t : Track). t.rest) (track_at f (stocked s old) v stream x k low)) in
    let some = none ∙ here ∙ ap (rest_here v.plan) c.on in
    absurd (cc)

-- what is left of a message, as the code keeps it
abbrev rest_part : (size : ℕ) → MessageFields → (number fragment : ℕ) → Rest
rest_part size m n k = record { entry = Part (lane_meaning m) n k; message = Some (message_meaning size m) }

-- a stock, and what is left of the message in part of a stream
module _ (f : Format) (s : Kept) (v : SenderView) (old : Stock) (m : MessageFields) (number fragment stream : ℕ) (k : Keeps f (stocked s old) v) (stands : NothingStands f v) (c : IsContinued f v stream)
    (its : Some (rest_part s.fragment m number fragment) ≡ rest_at (map (track_meaning s.fragment) old.streams.items) stream) where
  abbrev e : Entry
  e = Part (lane_meaning m) number fragment

  abbrev led : SenderView
  led = gone_on v e (stream_after v stream)

  left : IsRestOf v stream (rest_part s.fragment m number fragment)
  left = rest_of_view f (stocked s old) v stream (rest_part s.fragment m number fragment) k c.low its

  led_is : assigned f v ≡ Some led
  led_is = let same : Some c.entry ≡ Some e = sym c.on ∙ left.on in let one : c.entry ≡ e = cc in subst (λ (x : Entry). assigned f v ≡ Some (going_on v stream x)) one c.assigned

  -- its stream is there
  pub continued_there : stream < length old.streams.items
  continued_there =
      let tracks = ap (λ (ts : List Track). length ts) k.holds.tracks ∙ length-table (track_here v) 0 v.streams in
      let long = length-map old.streams.items (track_meaning s.fragment) in
      let low = c.low in
      omega (arith, tracks, long, low)

  -- the fragment leaves room to count
  pub continued_few : suc fragment < 2 ^ 32
  continued_few = few_fragments f v stream e k.reached k.limits left.on

  -- its chunk
  continued_chunk : chunk_of f (newcomer v led) ≡ fragment_chunk f (base_of s.resets) s.fragment s.initial (suc (s.cum + length old.outstanding.items)) m number (Fragment fragment)
  continued_chunk =
      let long = length-map old.outstanding.items (item_meaning s.fragment) in
      chunk_continued f (stocked s old) v e (stream_after v stream) k ∙ ap (λ (n : ℕ). data_chunk f (piece_said f s.initial (base_of s.resets) (suc (s.cum + n)) e (entry_message v.plan e))) long
      ∙ ap (λ (x : Option Message). data_chunk f (piece_said f s.initial (base_of s.resets) (suc (s.cum + length old.outstanding.items)) e x)) (sym left.message)

  continued_may : (p : PacketDraft) → may_go f (room_in p) (newcomer v led)
      ≡ ((flows s old (bytes_in e (Some (message_meaning s.fragment m)))
      && has_room p (fragment_chunk f (base_of s.resets) s.fragment s.initial (suc (s.cum + length old.outstanding.items)) m number (Fragment fragment))) && nat_le (outstanding led) WINDOW)
  continued_may p = new_may f s v led p old _ _ k led_is continued_chunk (bytes_continued v e (stream_after v stream) ∙ ap (bytes_in e) (sym left.message))

  -- how the code tests the window
  continued_window : (more : Bool) → more ≡ nat_lt (suc fragment) (length (cut s.fragment m.bytes.items)) → nat_le (outstanding led) WINDOW
      ≡ in_window s old 1 stream more
  continued_window more is =
      let ts = map (track_meaning s.fragment) old.streams.items in
      let long = length-map old.outstanding.items (item_meaning s.fragment) in
      let wide = length-map old.streams.items (track_meaning s.fragment) in
      let there = continued_there in
      let had = rest_read ts stream fresh_track (omega arith) in
      let all = outstanding_continued f (stocked s old) v stream (stream_after v stream) e fresh_track k c.low left.on in
      let next : one_if_rest (rest_after e (entry_message v.plan e)) ≡ one_if more =
      ap (λ (x : Option Message). one_if_rest (rest_after e x)) (sym left.message) ∙ when_rest (nat_lt (suc fragment) (length (cut s.fragment m.bytes.items))) _ ∙ ap one_if (sym is) in
      window_test (outstanding led) (one_if (has_rest (rest_at ts stream))) (length old.outstanding.items + 1) (total (λ t. one_if_rest t.rest) ts) (one_if more) WINDOW
      (omega (arith, all, had, next, long)) (few_parts f (stocked s old) v k)

  continued_goes : (p : PacketDraft) (more : Bool) → more ≡ nat_lt (suc fragment) (length (cut s.fragment m.bytes.items))
      → in_window s old 1 stream more ≡ true
      → let_in f false s old (suc (s.cum + length old.outstanding.items)) p e (Some (message_meaning s.fragment m)) ≡ true
      → goes f (room_in p) v ≡ Some (newcomer v led)
  continued_goes p more is window on =
      goes_is f (room_in p) v (newcomer v led) (next_is f v led stands led_is) (continued_may p ∙ ap (λ (x : Bool). x && nat_le (outstanding led) WINDOW) on ∙ continued_window more is ∙ window)

  -- within the window it may go if it is let in
  pub continued_asked : (p : PacketDraft) (more b : Bool) → more ≡ nat_lt (suc fragment) (length (cut s.fragment m.bytes.items)) → in_window s old 1 stream more ≡ true
      → let_in f false s old (suc (s.cum + length old.outstanding.items)) p e (Some (message_meaning s.fragment m)) ≡ b → IsAsked f v p b
  continued_asked p more true is window on = (newcomer v led, continued_goes p more is window on)
  continued_asked p more false is window off = goes_not f (room_in p) v (newcomer v led) (next_is f v led stands led_is) (continued_may p ∙ ap (λ (x : Bool). x && nat_le (outstanding led) WINDOW) off)

  -- the window has no room for it
  pub continued_full : (p : PacketDraft) (more : Bool) → more ≡ nat_lt (suc fragment) (length (cut s.fragment m.bytes.items)) → in_window s old 1 stream more ≡ false → goes f (room_in p) v ≡ None
  continued_full p more is window = goes_not f (room_in p) v (newcomer v led) (next_is f v led stands led_is) (continued_may p ∙ and_off _ (nat_le (outstanding led) WINDOW) (continued_window more is ∙ window))

  -- it is in the packet, and took its index
  pub continued_put : (p q : PacketDraft) (new : Stock) (at : ℕ) → IsAsked f v p true → at ≡ length old.outstanding.items
      → stocked s new ≡ kept.gone_on (stocked s old) (rest_part s.fragment m number fragment) stream (suc stream % s.streams) old.outstanding.capacity → new.tickets ≡ old.tickets
      → q ≡ with_chunks p (fragment_chunk f (base_of s.resets) s.fragment s.initial (suc (s.cum + at)) m number (Fragment fragment) ∷ []) → IsPut f s v p q old new
  continued_put p q new at asked here same tickets put =
      let capacity = old.outstanding.capacity in
      let goes_now = asked_is f v (newcomer v led) p (next_is f v led stands led_is) asked in
      let streams = k.holds.streams in
      let room = room_assigned f (stocked s old) v led k led_is in
      let h = continued_kept f (stocked s old) v stream (stream_after v stream) capacity (room_in p) e fresh_track k c.low left.on goes_now room in
      let mine = subst (λ (x : Option Message). Keeps f (kept.gone_on (stocked s old) (record { entry = e; message = x }) stream (stream_after v stream) capacity) (gone (newcomer v led))) (sym left.message) h in
      let turned = subst (λ (n : ℕ). Keeps f (kept.gone_on (stocked s old) (rest_part s.fragment m number fragment) stream (suc stream % n) capacity) (gone (newcomer v led))) (sym streams) mine in
      record {
        wish = newcomer v led;
        next = goes_now;
        chunk =
            put ∙ ap (λ (n : ℕ). with_chunks p (fragment_chunk f (base_of s.resets) s.fragment s.initial (suc (s.cum + n)) m number (Fragment fragment) ∷ [])) here
            ∙ ap (λ (x : ChunkMeaning). with_chunks p (x ∷ [])) (sym continued_chunk);
        keeps = subst (λ (y : Kept). Keeps f y (gone (newcomer v led))) (sym same) turned;
        told = ap (λ (ts : _). numbers_of ts.items) tickets
            ∙ sym (ap (λ (ts : List ℕ). numbers_of old.tickets.items ++ ts) (newly_continued f v stream (stream_after v stream) e k.reached left.on) ∙ append-nil (numbers_of old.tickets.items));
      }

  -- its entry has room
  pub continued_room : length old.outstanding.items < old.outstanding.capacity
  continued_room = let room = room_goes_on f (stocked s old) v stream k c in let long = length-map old.outstanding.items (item_meaning s.fragment) in omega (arith, room, long)
