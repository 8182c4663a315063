use Rattle.std.proofs.Common.{◌≡◌, ◌∙◌, ℕ, ◌+◌, ◌%◌, ◌^◌, ◌≤◌, suc, [], ◌∷◌, ◌++◌, false, length, map, get_or, refl, sym, ap, subst, arith}
use Rattle.std.proofs.lemmas.Bool.Decides.{nat_tests}
use Rattle.std.proofs.lemmas.List.{map-append}
use Rattle.std.specs.Vec.{vec_len, vec_capacity}
use Rattle.sctp_model.specs.sender.Queueing.{cut}
use Rattle.sctp_packet.specs.Draft.{with_chunks}
use Rattle.sctp_send.specs.PartsKept.{OutstandingKept, QueueKept, StreamsKept, changed_at}
use Rattle.sctp_send.specs.OutstandingFields.{item_meaning, lane_meaning, message_meaning}
use Rattle.sctp_send.specs.ResetsKept.{base_of}
use Rattle.sctp_send.specs.SenderFields.{queued_by, track_meaning}
use Rattle.sctp_send.specs.inner.Newcomers.{number_on, begun_items, has_rest, rest_at, without_place}
use Rattle.sctp_send.specs.inner.Owning.{IsOwned}
use Rattle.sctp_send.specs.inner.Stocking.{bare, numbers_of, fragment_chunk, rest_from, FitsInto}
use Rattle.sctp_send.specs.inner.Entering.{fragment_entry, counted_to, HaveEntered}
use Rattle.sctp_send.specs.declared.stock.Stock.{Stock}
use Rattle.sctp_send.specs.declared.kept.entry.Content.TheVariants.{Fragment}
use Rattle.sctp_send.specs.declared.kept.entry.Standing.TheVariants.{Sent}
use Rattle.sctp_send.specs.declared.kept.message.Message.{Message as MessageFields}
use Rattle.sctp_values.specs.declared.kind.Kind.{Kind}
use Rattle.sctp_values.specs.declared.ticket.Ticket.{Ticket}
use Rattle.sctp_send.proofs.fill.EnterLemmas.{begun_is, taken_out}
use Rattle.sctp_send.proofs.fill.OwnerLemmas.{entered_all, pushed_none, IsPushed}
use Rattle.sctp_send.proofs.kept.TrackCounts.{long_stays, idle_counted, entered_tracks}
use Rattle.sctp_send.proofs.fill.BegunPut.{begun_message, begun_few, begun_put}
use Rattle.sctp_send.proofs.told.Told.begin.Given.{Over}
use Rattle.sctp_send.proofs.told.Told.begin.Goals.{then-not-is_empty, else-not-is_empty}
use Rattle.sctp_send.proofs.told.Told.begin.Goals as goal

pub enter_others-requires-clause-stream : goal.enter_others-requires-clause-stream
enter_others-requires-clause-stream g c =
    let low = (c.requires.can.enters c.in-Some.waiting.message c.in-Some.ensures.message.1).there in
    let stream = ap (λ (m : MessageFields). m.stream) c.deref.ensures in
    let many = (c.number_one-number.result + 1) % 2 ^ 64 in
    let wide = ap (λ (w : StreamsKept). length w.items) c.number_one-number.ensures.counted ∙ long_stays many c.from.result c.deref-3.result.now.kind c.args.stock.now.streams.items in
    omega (arith, low, stream, wide)

-- nothing is in part on the stream where a message took its number
idle_there : (size many at stream : ℕ) (k : Kind) (old new : StreamsKept) (m y : MessageFields) → new ≡ record old { items = changed_at (counted_to k many) at old.items } → old.size ≡ size → stream ≡ y.stream → y ≡ m
    → has_rest (rest_at (map (track_meaning size) old.items) m.stream) ≡ false → has_rest (rest_at (map (track_meaning new.size) new.items) stream) ≡ false
idle_there size many at stream k old new m y is sized on same idle =
    subst (λ (w : StreamsKept). has_rest (rest_at (map (track_meaning w.size) w.items) stream) ≡ false) (sym is) (idle_counted old.size many at stream k old.items ∙ rw (sized, on, same) idle)

pub enter_others-requires-clause-idle : goal.enter_others-requires-clause-idle
enter_others-requires-clause-idle g c =
    idle_there c.args.self.now.fragment ((c.number_one-number.result + 1) % 2 ^ 64) c.from.result c.deref.result.now.stream c.deref-3.result.now.kind c.args.stock.now.streams c.number_one-number.new.self c.in-Some.waiting.message.value c.deref.result.now
    c.number_one-number.ensures.counted c.requires.sized.tracks refl c.deref.ensures (c.requires.can.enters c.in-Some.waiting.message c.in-Some.ensures.message.1).idle

pub enter_others-requires-clause-owned : goal.enter_others-requires-clause-owned
enter_others-requires-clause-owned g c =
    let x = c.in-Some.waiting in
    let same = c.requires.sized.queue ∙ sym (ap (λ (w : StreamsKept). w.size) c.number_one-number.ensures.counted ∙ c.requires.sized.tracks) in
    (x.message, subst (λ (j : ℕ). IsOwned j 0 x.message x.others.items) same c.in-Some.ensures.owned)

pub put_piece-requires-clause-fits : goal.put_piece-requires-clause-fits
put_piece-requires-clause-fits g c =
    subst (λ (m : MessageFields). FitsInto g.F.Framing.format c.args.packet.now c.args.self.now.fragment m (Fragment 0)) (sym c.deref-4.ensures) (c.requires.can.fits c.in-Some.waiting.message c.in-Some.ensures.message.1)

-- what the stock was, once the first fragment entered
abbrev first : (g : Over) → goal.Joined-drop g → Stock
first g c = record c.args.stock.now { outstanding = c.put.new.self; queue = c.remove.new.self; streams = c.number_one-number.new.self; tickets = c.push_reserved.new.self }

-- the others entered, where there are any
entered : (g : Over) (c : goal.Joined-drop g) → HaveEntered c.args.self.now.fragment c.in-Some.waiting.message.value c.in-Some.waiting.message.value.stream c.number_one-number.result c.args.next.count (first g c) c.if-not-is_empty.stock
entered g c =
    let x = c.in-Some.waiting.message in
    let others = c.in-Some.waiting.others.items in
    let d = first g c in
    let stream = c.deref.result.now.stream in
    let n = c.number_one-number.result in
    let count = c.args.next.count in
    let size = c.number_one-number.new.self.size in
    let sized = ap (λ (w : StreamsKept). w.size) c.number_one-number.ensures.counted ∙ c.requires.sized.tracks in
    let owned = subst (λ (j : ℕ). IsOwned j 0 x others) (c.requires.sized.queue ∙ sym sized) c.in-Some.ensures.owned in
    let all : HaveEntered size x.value stream n count d c.if-not-is_empty.stock =
    elim c.if-not-is_empty.branch [
      | then-not-is_empty w ↦ subst (λ (y : Stock). HaveEntered size x.value stream n count d y) (sym w.stock-is) (w.enter_others.ensures x owned)
      | else-not-is_empty w ↦
          let empty : length others ≡ 0 = grind (arith, nat_tests, c.is_empty.ensures, w.if-not-is_empty.false, c.in-Some.waiting.others.ok.0) in
          let many = owned.many in
          let within = subst (λ (j : ℕ). count ≤ length (cut j x.value.bytes.items)) (sym sized) (c.requires.can.enters x c.in-Some.ensures.message.1).within in
          let one : 1 ≡ count = omega (arith, empty, many, within, c.requires.can.some) in
          let idle = idle_there c.args.self.now.fragment ((n + 1) % 2 ^ 64) c.from.result stream c.deref-3.result.now.kind c.args.stock.now.streams c.number_one-number.new.self x.value c.deref.result.now
          c.number_one-number.ensures.counted c.requires.sized.tracks refl c.deref.ensures (c.requires.can.enters x c.in-Some.ensures.message.1).idle in
          let pushed = subst (λ (j : ℕ). IsPushed d d others others n j) one (pushed_none d others n) in
          subst (λ (y : Stock). HaveEntered size x.value stream n count d y) (sym w.stock-is) (entered_all size stream n count x others others d d pushed c.requires.can.some empty idle owned)
    ] in
    let on = subst (λ (m : MessageFields). HaveEntered size x.value m.stream n count d c.if-not-is_empty.stock) c.deref.ensures all in
    subst (λ (j : ℕ). HaveEntered j x.value x.value.stream n count d c.if-not-is_empty.stock) sized on

pub returns-clause-put : goal.returns-clause-put
returns-clause-put g c = λ v keeps stands next asked.
    let f = g.F.Framing.format in
    let s = bare c.args.self.now in
    let old = c.args.stock.now in
    let p = c.args.packet.now in
    let place = c.args.next.place in
    let count = c.args.next.count in
    let turn = c.args.next.turn in
    let size = s.fragment in
    let x = c.in-Some.waiting.message in
    let low = c.in-Some.ensures.message.0 in
    let read : x ≡ get_or old.queue.items place x = c.in-Some.ensures.message.1 in
    let n = c.number_one-number.result in
    let many = (n + 1) % 2 ^ 64 in
    let number : n ≡ number_on (map (track_meaning size) old.streams.items) (lane_meaning x.value) = rw (c.from.ensures, c.deref.ensures, c.deref-3.ensures) at (c.number_one-number.ensures.number size) in
    let mine = begun_message f s v old place count turn x keeps next read in
    let few = begun_few f s v old x.value place count turn n keeps stands next mine number in
    let all = entered g c in
    let told : numbers_of c.if-not-is_empty.stock.tickets.items ≡ numbers_of old.tickets.items ++ x.value.ticket ∷ [] =
    ap (λ (d : Stock). numbers_of d.tickets.items) all.same ∙ ap numbers_of c.push_reserved.ensures.items ∙ map-append (λ (t : Ticket). t.0) old.tickets.items _
    ∙ ap (λ (y : MessageFields). numbers_of old.tickets.items ++ y.ticket ∷ []) c.deref-2.ensures in
    let e = fragment_entry x n 0 Sent in
    let first_in : map (item_meaning size) c.put.new.self.items ≡ map (item_meaning size) old.outstanding.items ++ begun_items (lane_meaning x.value) n (message_meaning size x.value) 1 =
    ap (λ (w : OutstandingKept). map (item_meaning size) w.items) c.put.ensures ∙ map-append (item_meaning size) old.outstanding.items (e ∷ []) in
    let items = all.items (map (item_meaning size) old.outstanding.items) first_in in
    let waits : map (queued_by size) c.if-not-is_empty.stock.queue.items ≡ without_place place (map (queued_by size) old.queue.items) =
    ap (λ (d : Stock). map (queued_by size) d.queue.items) all.same ∙ ap (λ (w : QueueKept). map (queued_by size) w.items) (c.remove.ensures.some low) ∙ taken_out size place old.queue.items in
    let counted : c.number_one-number.new.self.items ≡ changed_at (counted_to x.value.kind many) x.value.stream old.streams.items =
    rw (c.from.ensures, c.deref.ensures, c.deref-3.ensures) at (ap (λ (w : StreamsKept). w.items) c.number_one-number.ensures.counted) in
    let streams = entered_tracks size n many count x.value old.streams.items c.number_one-number.new.self.items _ (c.requires.can.enters x read).there counted (omega (arith, few)) number all.tracks in
    let space = all.room.capacity ∙ ap (λ (w : OutstandingKept). w.capacity) c.put.ensures in
    let d : Stock = record c.if-not-is_empty.stock { turn = turn } in
    let put = c.put_piece.ensures.put ∙ ap (λ (m : MessageFields). with_chunks p (fragment_chunk f (base_of s.resets) size s.initial (suc (s.cum + c.len-at.result)) m n (Fragment 0) ∷ [])) c.deref-4.ensures in
    begun_put f s v old x.value place count turn n keeps stands next mine number p c.put_piece.new.packet d c.len-at.result asked c.len-at.ensures
    (begun_is s old d x.value place count n turn (rest_from size x.value n count) items waits streams refl told refl number space) told put

pub returns-clause-sized : goal.returns-clause-sized
returns-clause-sized g c =
    let all = entered g c in
    record {
      some = c.requires.sized.some;
      short = c.requires.sized.short;
      window = all.room.size ∙ ap (λ (w : OutstandingKept). w.size) c.put.ensures ∙ c.requires.sized.window;
      header = all.room.header ∙ ap (λ (w : OutstandingKept). w.header) c.put.ensures ∙ c.requires.sized.header;
      queue = ap (λ (d : Stock). d.queue.size) all.same ∙ ap (λ (w : QueueKept). w.size) (c.remove.ensures.some c.in-Some.ensures.message.0) ∙ c.requires.sized.queue;
      tracks = all.sized ∙ ap (λ (w : StreamsKept). w.size) c.number_one-number.ensures.counted ∙ c.requires.sized.tracks;
    }

pub returns-clause-one : goal.returns-clause-one
returns-clause-one g c = let same = ap (λ (d : Stock). vec_len d.tickets) (entered g c).same in omega (arith, same, c.push_reserved.ensures.len)

pub returns-clause-capacity : goal.returns-clause-capacity
returns-clause-capacity g c = ap (λ (d : Stock). vec_capacity d.tickets) (entered g c).same ∙ c.push_reserved.ensures.capacity
