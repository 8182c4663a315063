-- A message that begins is put into a packet, or isn't; and what it takes is there.
use Rattle.std.proofs.Common.{◌≡◌, ℕ, suc, ◌+◌, ◌^◌, ◌<◌, inl, inr, List, [], ◌∷◌, ◌++◌, length, map, get_or, Bool, true, false, Some, None, sym, ap, ◌∙◌, subst, arith}
use Rattle.std.specs.Prelude.{nat_le, nat_lt, ◌&&◌}
use Rattle.std.proofs.lemmas.Option.{get_or_from_slice_get}
use Rattle.std.proofs.lemmas.List.{length-map}
use Rattle.std.specs.declared.sync.Arc.{Arc}
use Rattle.std.specs.declared.alloc.Global.{Global}
use Rattle.sctp_model.specs.numbers.Limits.{WINDOW}
use Rattle.sctp_model.specs.messages.Format.{Format}
use Rattle.sctp_model.specs.wire.Chunk.{ChunkMeaning}
use Rattle.sctp_model.specs.messages.Framing.{data_chunk}
use Rattle.sctp_model.specs.sender.PieceSaid.{piece_said}
use Rattle.sctp_model.specs.messages.Plan.{Part}
use Rattle.sctp_model.specs.sender.SenderView.{Queued, SenderView}
use Rattle.sctp_model.specs.sender.Entries.{bytes_in, continued}
use Rattle.sctp_model.specs.sender.Queueing.{cut}
use Rattle.sctp_model.specs.sender.Assigning.{assigned}
use Rattle.sctp_model.specs.sender.Readers.{outstanding}
use Rattle.sctp_model.specs.sender.Filling.{newcomer, may_go, chunk_of, goes, gone}
use Rattle.sctp_model.proofs.sender.FillLaws.{goes_is, goes_not}
use Rattle.sctp_model.proofs.sender.SetLaws.{AllFilled, is_filled}
use Rattle.sctp_model.proofs.sender.CountLaws.{first_there}
use Rattle.sctp_model.proofs.sender.QueueLaws.{IsTaken, taken_head, taken_first}
use Rattle.sctp_packet.specs.Draft.{Draft as PacketDraft, room_in, has_room, with_chunks}
use Rattle.sctp_send.specs.SenderKept.{Track, Kept}
use Rattle.sctp_send.specs.SenderStands.{rest_here, track_here, Keeps}
use Rattle.sctp_send.specs.OutstandingFields.{item_meaning, lane_meaning, message_meaning, queued_meaning}
use Rattle.sctp_send.specs.ResetsKept.{base_of}
use Rattle.sctp_send.specs.SenderFields.{queued_by, track_meaning}
use Rattle.sctp_send.specs.inner.Walks.{total, one_if_rest}
use Rattle.sctp_send.specs.inner.Newcomers.{number_in, begun_track, rest_at, has_rest, one_if, without_place, fresh_track, number_on, begun, IsBegun}
use Rattle.sctp_send.specs.inner.Asking.{IsAsked, flows, let_in, IsEntrance}
use Rattle.sctp_send.specs.inner.Stocking.{numbers_of, stocked, fragment_chunk, IsPut, NothingStands}
use Rattle.std.proofs.lemmas.Option.{slice_get-get_or}
use Rattle.sctp_send.specs.declared.stock.Stock.{Stock}
use Rattle.sctp_send.specs.declared.kept.message.Message.{Message as MessageFields}
use Rattle.sctp_send.specs.declared.kept.entry.Content.TheVariants.{Fragment}
use Rattle.sctp_send.proofs.TableLemmas.{length-table}
use Rattle.sctp_send.proofs.fill.NewItems.{numbered}
use Rattle.sctp_send.proofs.fill.AssignLemmas.{number_is, track_at}
use Rattle.sctp_send.specs.inner.Expiring.{queue_messages}
use Rattle.sctp_send.specs.inner.Dues.{some_late}
use Rattle.sctp_send.proofs.DueLemmas.{late_taken, IsLeftIdle}
use Rattle.sctp_send.proofs.fill.AssignedKept.{begun_kept, outstanding_begun}
use Rattle.sctp_send.proofs.fill.ChunkLemmas.{chunk_begun, bytes_begun}
use Rattle.sctp_send.proofs.fill.FewLemmas.{few_messages}
use Rattle.sctp_send.proofs.fill.NewlyLemmas.{newly_begun}
use Rattle.sctp_send.proofs.fill.NewMayLemmas.{in_window, new_may, next_is, asked_is, few_parts, rest_read, when_rest, window_test, and_off}
use Rattle.sctp_send.proofs.RoomKept.{room_assigned, room_begins}
use Rattle.sctp_send.proofs.WalkLemmas.{queue_read}
use Rattle.sctp_send.proofs.fill.IdleLemmas.{ready}

-- ---- a message begins

-- the message that was read from the stock's queue is the one that begins
pub begun_message : (f : Format) (s : Kept) (v : SenderView) (old : Stock) (place count turn : ℕ) (x : Arc MessageFields Global) → Keeps f (stocked s old) v → (b : IsBegun f v place count turn) → x ≡ get_or old.queue.items place x
    → queued_meaning s.fragment x.value ≡ b.message
begun_message f s v old place count turn x k b read =
    sym (queue_read s.fragment old.queue.items place x read) ∙ ap (λ (qs : List Queued). get_or qs place (queued_by s.fragment x)) k.holds.queue
    ∙ get_or_from_slice_get v.queue place b.message (queued_by s.fragment x) b.there

-- what is known of a message that begins
record IsBegunBy (f : Format) (v : SenderView) (q : Queued) (place count turn : ℕ) : Type 0 where
  less : ℕ
  some : count ≡ suc less
  taken : IsTaken q (without_place place v.queue) v.queue
  idle : (now t : ℕ) → some_late now t (queue_messages v.queue) ≡ false → IsLeftIdle now t q (without_place place v.queue)
  low : q.lane.stream < v.streams
  assigned : assigned f v ≡ Some (numbered v q (suc less) (without_place place v.queue) turn)

begun_by : (f : Format) (s : Kept) (v : SenderView) (place count turn : ℕ) → Keeps f s v → (b : IsBegun f v place count turn) → IsBegunBy f v b.message place count turn
begun_by f s v place count turn k b =
    elim b.first [
      | inl whole ↦ record {
        less = b.less;
        some = b.some;
        taken = subst (λ (qs : List Queued). IsTaken b.message (without_place place v.queue) qs) (sym whole) (taken_head b.message (without_place place v.queue));
        idle = λ now t none. late_taken now t place v.queue b.message b.there none;
        low = (subst (λ (qs : List Queued). AllFilled v.streams qs) whole (is_filled f v k.reached)).0.1;
        assigned = now;
      }
      | inr first ↦ record {
        less = b.less;
        some = b.some;
        taken = subst (λ (qs : List Queued). IsTaken b.message qs v.queue) first.1 (taken_first b.message.lane.stream b.message v.queue first.0);
        idle = λ now t none. late_taken now t place v.queue b.message b.there none;
        low = first_there v.streams b.message.lane.stream b.message v.queue (is_filled f v k.reached) first.0;
        assigned = now;
      }
    ]
  where
    now : assigned f v ≡ Some (numbered v b.message (suc b.less) (without_place place v.queue) turn)
    now = b.assigned ∙ ap (λ (n : ℕ). Some (numbered v b.message n (without_place place v.queue) turn)) b.some

-- a stock, and the message that begins: it stands at a place of the queue, and this is its number
module _ (f : Format) (s : Kept) (v : SenderView) (old : Stock) (m : MessageFields) (place count turn number : ℕ) (k : Keeps f (stocked s old) v) (stands : NothingStands f v) (b : IsBegun f v place count turn)
    (mine : queued_meaning s.fragment m ≡ b.message) (its : number ≡ number_on (stocked s old).tracks (lane_meaning m)) where
  abbrev by : IsBegunBy f v (queued_meaning s.fragment m) place count turn
  by = subst (λ (q : Queued). IsBegunBy f v q place count turn) (sym mine) (begun_by f (stocked s old) v place count turn k b)

  abbrev led : SenderView
  led = numbered v (queued_meaning s.fragment m) (suc by.less) (without_place place v.queue) turn

  -- its number leaves room to count
  pub begun_few : suc number < 2 ^ 64
  begun_few =
      let l = lane_meaning m in
      let same : number ≡ length (v.plan.messages l) = its ∙ ap (number_in l.kind) (track_at f (stocked s old) v l.stream fresh_track k by.low) ∙ number_is v l in
      let few = few_messages f v l k.reached in
      omega (arith, same, few)

  -- its chunk
  begun_chunk : chunk_of f (newcomer v led) ≡ fragment_chunk f (base_of s.resets) s.fragment s.initial (suc (s.cum + length old.outstanding.items)) m number (Fragment 0)
  begun_chunk =
      let q = queued_meaning s.fragment m in
      let long = length-map old.outstanding.items (item_meaning s.fragment) in
      chunk_begun f (stocked s old) v q (without_place place v.queue) by.less turn fresh_track k by.low
      ∙ ap (λ (n : ℕ). data_chunk f (piece_said f s.initial (base_of s.resets) (suc (s.cum + n)) (Part q.lane (number_on (stocked s old).tracks (lane_meaning m)) 0) (Some q.message))) long
      ∙ ap (λ (n : ℕ). fragment_chunk f (base_of s.resets) s.fragment s.initial (suc (s.cum + length old.outstanding.items)) m n (Fragment 0)) (sym its)

  begun_may : (p : PacketDraft) → may_go f (room_in p) (newcomer v led)
      ≡ ((flows s old (bytes_in (Part (lane_meaning m) number 0) (Some (message_meaning s.fragment m)))
      && has_room p (fragment_chunk f (base_of s.resets) s.fragment s.initial (suc (s.cum + length old.outstanding.items)) m number (Fragment 0))) && nat_le (outstanding led) WINDOW)
  begun_may p =
      let q = queued_meaning s.fragment m in
      let bytes = bytes_begun f (stocked s old) v q (without_place place v.queue) by.less turn fresh_track k by.low in
      new_may f s v led p old _ _ k by.assigned begun_chunk (bytes ∙ ap (λ (n : ℕ). bytes_in (Part q.lane n 0) (Some q.message)) (sym its))

  -- it can enter its stream: it has so many fragments, nothing is in part there, and its entries have room
  pub begun_enters : IsEntrance s.fragment old m.stream count (length (cut s.fragment m.bytes.items))
  begun_enters =
      let ts = (stocked s old).tracks in
      let j = m.stream in
      let x = track_here v j in
      let wide = ap (λ (ys : List Track). length ys) k.holds.tracks ∙ length-table (track_here v) 0 v.streams in
      let long = length-map old.streams.items (track_meaning s.fragment) in
      let low = by.low in
      let here : rest_at ts j ≡ rest_here v.plan (continued v.plan j) = rw (slice_get-get_or ts j x (omega (arith, wide, low))) (ap (λ (t : Track). t.rest) (track_at f (stocked s old) v j x k low)) in
      let is_ready = ready f v place count turn k.reached b in
      let all = ap (λ (q : Queued). length q.message.fragments) mine in
      let many = is_ready.within in
      let none = ap (λ (q : Queued). continued v.plan q.lane.stream) mine ∙ is_ready.idle in
      let space = room_begins f (stocked s old) v place count turn k b in
      let entries = length-map old.outstanding.items (item_meaning s.fragment) in
      record {
        there = omega (arith, wide, long, low);
        within = omega (arith, all, many);
        idle = ap has_rest (here ∙ ap (rest_here v.plan) none);
        room = omega (arith, space, entries);
      }

  -- how the code tests the window
  begun_window : (more : Bool) → more ≡ nat_lt count (length (cut s.fragment m.bytes.items)) → nat_le (outstanding led) WINDOW
      ≡ in_window s old count m.stream more
  begun_window more is =
      let q = queued_meaning s.fragment m in
      let ts = map (track_meaning s.fragment) old.streams.items in
      let long = length-map old.outstanding.items (item_meaning s.fragment) in
      let wide = length-map old.streams.items (track_meaning s.fragment) in
      let there = begun_enters.there in
      let had = rest_read ts m.stream fresh_track (omega arith) in
      let all = outstanding_begun f (stocked s old) v q (without_place place v.queue) by.less turn fresh_track k by.low in
      let left : one_if_rest (begun_track q (suc by.less) (get_or ts m.stream fresh_track)).rest ≡ one_if more =
      when_rest (nat_lt (suc by.less) (length q.message.fragments)) _ ∙ ap (λ (n : ℕ). one_if (nat_lt n (length q.message.fragments))) (sym by.some) ∙ ap one_if (sym is) in
      let some = by.some in
      window_test (outstanding led) (one_if (has_rest (rest_at ts m.stream))) (length old.outstanding.items + count) (total (λ t. one_if_rest t.rest) ts) (one_if more) WINDOW
      (omega (arith, all, had, left, long, some)) (few_parts f (stocked s old) v k)

  begun_goes : (p : PacketDraft) (more : Bool) → more ≡ nat_lt count (length (cut s.fragment m.bytes.items))
      → in_window s old count m.stream more ≡ true
      → let_in f false s old (suc (s.cum + length old.outstanding.items)) p (Part (lane_meaning m) number 0) (Some (message_meaning s.fragment m)) ≡ true
      → goes f (room_in p) v ≡ Some (newcomer v led)
  begun_goes p more is window on =
      goes_is f (room_in p) v (newcomer v led) (next_is f v led stands by.assigned) (begun_may p ∙ ap (λ (x : Bool). x && nat_le (outstanding led) WINDOW) on ∙ begun_window more is ∙ window)

  -- within the window it may go if it is let in
  pub begun_asked : (p : PacketDraft) (more b : Bool) → more ≡ nat_lt count (length (cut s.fragment m.bytes.items)) → in_window s old count m.stream more ≡ true
      → let_in f false s old (suc (s.cum + length old.outstanding.items)) p (Part (lane_meaning m) number 0) (Some (message_meaning s.fragment m)) ≡ b → IsAsked f v p b
  begun_asked p more true is window on = (newcomer v led, begun_goes p more is window on)
  begun_asked p more false is window off = goes_not f (room_in p) v (newcomer v led) (next_is f v led stands by.assigned) (begun_may p ∙ ap (λ (x : Bool). x && nat_le (outstanding led) WINDOW) off)

  -- the window has no room for it
  pub begun_full : (p : PacketDraft) (more : Bool) → more ≡ nat_lt count (length (cut s.fragment m.bytes.items)) → in_window s old count m.stream more ≡ false → goes f (room_in p) v ≡ None
  begun_full p more is window = goes_not f (room_in p) v (newcomer v led) (next_is f v led stands by.assigned) (begun_may p ∙ and_off _ (nat_le (outstanding led) WINDOW) (begun_window more is ∙ window))

  -- it is in the packet, and took its number
  pub begun_put : (p r : PacketDraft) (new : Stock) (at : ℕ) → IsAsked f v p true → at ≡ length old.outstanding.items
      → stocked s new ≡ begun (stocked s old) (queued_meaning s.fragment m) place count turn old.outstanding.capacity → numbers_of new.tickets.items ≡ numbers_of old.tickets.items ++ m.ticket ∷ []
      → r ≡ with_chunks p (fragment_chunk f (base_of s.resets) s.fragment s.initial (suc (s.cum + at)) m number (Fragment 0) ∷ []) → IsPut f s v p r old new
  begun_put p r new at asked here kept tickets put =
      let q = queued_meaning s.fragment m in
      let capacity = old.outstanding.capacity in
      let goes_now = asked_is f v (newcomer v led) p (next_is f v led stands by.assigned) asked in
      let room = room_assigned f (stocked s old) v led k by.assigned in
      let h = begun_kept f (stocked s old) v q (without_place place v.queue) by.less turn capacity (room_in p) fresh_track k by.taken by.idle by.low goes_now room in
      let queue = subst (λ (qs : List Queued). Keeps f (record (begun (stocked s old) q place (suc by.less) turn capacity) { queue = without_place place qs }) (gone (newcomer v led))) (sym k.holds.queue) h in
      let counted = subst (λ (n : ℕ). Keeps f (begun (stocked s old) q place n turn capacity) (gone (newcomer v led))) (sym by.some) queue in
      record {
        wish = newcomer v led;
        next = goes_now;
        chunk =
            put ∙ ap (λ (n : ℕ). with_chunks p (fragment_chunk f (base_of s.resets) s.fragment s.initial (suc (s.cum + n)) m number (Fragment 0) ∷ [])) here
            ∙ ap (λ (c : ChunkMeaning). with_chunks p (c ∷ [])) (sym begun_chunk);
        keeps = subst (λ (y : Kept). Keeps f y (gone (newcomer v led))) (sym kept) counted;
        told = tickets ∙ ap (λ (ts : List ℕ). numbers_of old.tickets.items ++ ts) (sym (newly_begun v q (without_place place v.queue) by.less turn));
      }
