use Rattle.std.proofs.Common.{◌≡◌, ℕ, min, suc, ◌+◌, ◌-◌, ◌<◌, ◌≤◌, false, List, Option, Some, ◌∷◌, length, map, set, inl, inr, refl, sym, ◌∙◌, ap, subst, arith}
use Rattle.std.proofs.lemmas.Grind.{common_steps}
use Rattle.std.proofs.lemmas.Option.{slice_get_read}
use Rattle.sctp_model.specs.numbers.Limits.{WINDOW}
use Rattle.sctp_model.specs.numbers.Serial.{COUNTS}
use Rattle.sctp_model.specs.numbers.Lists.{Has}
use Rattle.sctp_model.specs.messages.Format.{ordered_lane, unordered_lane}
use Rattle.sctp_model.specs.messages.Pieces.{Piece}
use Rattle.sctp_model.specs.receiver.Reading.{lane_of, piece_at}
use Rattle.sctp_model.proofs.receiver.OfLane.{of_says}
use Rattle.sctp_chains.specs.StandsFor.{IsNew}
use Rattle.sctp_wire.specs.ChunkTree.{piece_meaning}
use Rattle.std.specs.Prelude.{slice_get}
use Rattle.sctp_chains.specs.Cells.{IsOf}
use Rattle.sctp_recv.specs.Fields.{inbound_of, known_of, unboxed, stream_of}
use Rattle.sctp_recv.specs.declared.inbound.Inbound.{Inbound}
use Rattle.sctp_recv.specs.ReceiverKept.{StreamKept, stream_at}
use Rattle.std.specs.Box.{with_value}
use Rattle.std.proofs.lemmas.List.{length-map, length-set}
use Rattle.sctp_chains.specs.StandsFor as lane
use Rattle.sctp_chains.specs.Cells.{counted}
use Rattle.sctp_model.specs.receiver.KeptOfLane.{of_lane}
use Rattle.sctp_recv.specs.Filed.{lane_in, AreFiled}
use Rattle.sctp_recv.specs.KeptOf.{kept_of}
use Rattle.sctp_recv.specs.SeenKept.{SeenKept, is_reached}
use Rattle.sctp_recv.specs.StandsFor.{StandsFor, KeepsView}
use Rattle.sctp_recv.specs.inner.Giving.{sized, SameChunks, GivesBy, RecordsNew}
use Rattle.sctp_recv.proofs.ResultLemmas.{if_err, ok_of, ok_either}
use Rattle.sctp_recv.proofs.StreamLemmas.{stream_mapped, stream_set_same, set_mapped, set_unchanged}
use Rattle.sctp_recv.proofs.FiledLemmas.{filed_same, same_lanes, stream_size}
use Rattle.sctp_recv.proofs.ChunkLemmas.{lane_filed, chunk_new}
use Rattle.sctp_recv.proofs.RecordedLemmas.{keeps_same, IsKeepable}
use Rattle.sctp_recv.specs.inner.Bits.{IsSameBut}
use Rattle.sctp_recv.proofs.ShownLemmas.{same_but, shown_list, shown_view}
use Rattle.sctp_recv.proofs.TakenLemmas.{boxed, keeps_taken_in}
use Rattle.sctp_recv.proofs.receiver.Receiver.keep.Goals as goal

pub returns-in_err-reserve-clause-refused : goal.returns-in_err-reserve-clause-refused
unfolding StandsFor
returns-in_err-reserve-clause-refused g c = λ v w.
    if_err c.from_residual.result (keeps_same g.F.Framing.format (kept_of c.args.self.now) v c.reserve.new.self.kept _ w.0 c.reserve.ensures.same refl, w.1)

pub returns-in_err-make-clause-refused : goal.returns-in_err-make-clause-refused
unfolding StandsFor
returns-in_err-make-clause-refused g c = λ v w.
    let items = c.args.self.now.streams.items in
    let l : c.from-stream.result < length items = omega (arith, c.len.ensures, c.if-stream-len.false, c.args.self.now.streams.ok) in
    let got = slice_get_read items (length items) c.from-stream.result c.index_mut.result.now refl l c.index_mut.ensures.value in
    let same = set_unchanged items c.from-stream.result c.make.new.stream c.index_mut.result.now l c.index_mut.ensures.value c.make.ensures.same in
    if_err c.from_residual-in_err-make.result (
      keeps_same g.F.Framing.format (kept_of c.args.self.now) v c.reserve.new.self.kept _ w.0 c.reserve.ensures.same same,
      (filed_same g.F.Framing.format v.kept items c.from-stream.result c.index_mut.result.now c.make.new.stream w.1.0 l got c.make.ensures.chunks, w.1.1),
    )

pub returns-in_err-given-clause-refused : goal.returns-in_err-given-clause-refused
unfolding StandsFor
returns-in_err-given-clause-refused g c = λ v w.
    let f = g.F.Framing.format in
    let items = c.args.self.now.streams.items in
    let i = c.from-stream.result in
    let l : i < length items = omega (arith, c.len.ensures, c.if-stream-len.false, c.args.self.now.streams.ok) in
    let got = slice_get_read items (length items) i c.index_mut.result.now refl l c.index_mut.ensures.value in
    let same = set_unchanged items i c.make.new.stream c.index_mut.result.now l c.index_mut.ensures.value c.make.ensures.same in
    let filed = filed_same f v.kept items i c.index_mut.result.now c.make.new.stream w.1.0 l got c.make.ensures.chunks in
    let made = set items i c.make.new.stream in
    let low : i < length made = let n = length-set items i c.make.new.stream in omega (arith, l, n) in
    let x = c.index_mut-2.result.now in
    let there : x ≡ boxed c.in-Some.made = λ j. record { inbound = c.in-Some.is j } in
    let found = slice_get_read made (length made) i x refl low c.index_mut-2.ensures.value ∙ ap Some there in
    let was = c.deref_mut-inbound.ensures.value in
    let y = boxed (with_value c.in-Some.made c.keep_in.new.inbound) in
    let unchanged = set_unchanged made i y x low c.index_mut-2.ensures.value (c.in_err-given.ensures.refused.0 ∙ ap inbound_of was ∙ ap stream_of (sym there)) in
    let chunks = subst (λ (z : Inbound _). SameChunks f z c.keep_in.new.inbound) was c.in_err-given.ensures.refused.1 in
    if_err c.from_residual-in_err-given.result (
      keeps_same f (kept_of c.args.self.now) v c.reserve.new.self.kept _ w.0 c.reserve.ensures.same (unchanged ∙ same),
      (filed_same f v.kept made i (boxed c.in-Some.made) y filed low found (same_lanes f c.in-Some.made.value c.keep_in.new.inbound chunks), w.1.1),
    )

pub returns-clause-kept : goal.returns-clause-kept
unfolding StandsFor
returns-clause-kept g c = λ v w want.
    let f = g.F.Framing.format in
    let k = kept_of c.args.self.now in
    let p = piece_meaning c.args.piece.now in
    let s = p.stream in
    let x = piece_at f v k.seen.cumulative p in
    let y = counted c.args.index p c.args.number in
    let seen = c.add.new.self.kept in
    let items = c.args.self.now.streams.items in
    let at = c.from-stream.result in
    let old = c.in-Some.made in
    let new = with_value old c.keep_in.new.inbound in
    let is : y ≡ x = ap (λ (i : ℕ). counted i p c.args.number) want.new.index ∙ ap (λ (n : Option ℕ). counted x.index p n) want.number in
    let index : c.args.index ≡ x.index = want.new.index in
    let l : at < length items = omega (arith, c.len.ensures, c.if-stream-len.false, c.args.self.now.streams.ok) in
    let before = slice_get_read items (length items) at c.index_mut.result.now refl l c.index_mut.ensures.value in
    let same = set_unchanged items at c.make.new.stream c.index_mut.result.now l c.index_mut.ensures.value c.make.ensures.same in
    let all_filed = filed_same f v.kept items at c.index_mut.result.now c.make.new.stream w.1.0 l before c.make.ensures.chunks in
    let made = set items at c.make.new.stream in
    let size = length-set items at c.make.new.stream in
    let low : s < length made = omega (arith, l, size, c.from-stream.ensures) in
    let found = slice_get_read made (length made) at c.index_mut-2.result.now refl (omega (arith, l, size)) c.index_mut-2.ensures.value in
    let got = subst (λ (q : ℕ). slice_get made q ≡ Some (boxed old)) c.from-stream.ensures (found ∙ (λ j. Some (record { inbound = c.in-Some.is j }))) in
    let was : c.deref_mut-inbound.result.now ≡ old.value = c.deref_mut-inbound.ensures.value in
    let is_ok = ok_either c.add.result (λ far. c.add.ensures.memory (c.in_ok-reserve.ensures.room far)) c.add.ensures.gap in
    let recorded : RecordsNew k.seen seen c.args.index = subst (λ (n : SeenKept). RecordsNew n seen c.args.index) c.reserve.ensures.same (ok_of c.add.result is_ok c.add.ensures.recorded) in
    let able : IsKeepable f k v x seen = record {
      keeps = w.0;
      records = subst (λ (i : ℕ). RecordsNew k.seen seen i) index recorded;
      new = subst (λ (i : ℕ). is_reached k.seen i ≡ false) index want.new.new;
      near = subst (λ (i : ℕ). i ≤ k.seen.cumulative + WINDOW) index want.new.near;
      small = subst (λ (i : ℕ). suc i < COUNTS) index want.new.count;
      unseen = subst (λ (i : ℕ). v.seen i ≡ false) index want.new.unseen;
      wanted = want.wanted;
      number = λ n e. want.small n (want.number ∙ e);
      stream = want.stream;
      fits = want.fits;
    } in
    let filed = all_filed.each s (boxed old) got in
    let kept = of_lane (lane_of s p.unordered) v.kept in
    let fresh : IsNew f (lane_of s p.unordered) kept y = subst (λ (z : Piece). IsNew f (lane_of s p.unordered) kept z) (sym is)
    (chunk_new f k v x seen able (subst (λ (z : Piece). IsOf f (lane_of s p.unordered) z) is want.of)) in
    let numbers : (z : Piece) (n : ℕ) → Has (y ∷ kept) z → z.number ≡ Some n → suc n < COUNTS = λ z n has number. elim has [
      | inl e ↦ want.small n (ap (λ (u : Piece). u.number) e ∙ number)
      | inr there ↦ w.0.numbers z n (of_says (lane_of s p.unordered) v.kept z there).0 number
    ] in
    let own = subst (λ (z : Inbound _). lane.StandsFor f (lane_in z p.unordered) (lane_of s p.unordered) kept) (sym was) (lane_filed f v.kept s (boxed old) p.unordered filed) in
    let gives = subst (λ (z : Inbound _). GivesBy p.unordered f s x kept z new.value c.in_ok-given.given) was
    (subst (λ (z : Piece). GivesBy p.unordered f s z kept c.deref_mut-inbound.result.now new.value c.in_ok-given.given) is (c.in_ok-given.ensures.given kept own fresh numbers)) in
    let bytes_before : c.kept_bytes-before.result ≡ sized (stream_size v.kept s) =
    c.kept_bytes-before.ensures (ordered_lane s) (unordered_lane s) (of_lane (ordered_lane s) v.kept) (of_lane (unordered_lane s) v.kept)
    (subst (λ (z : Inbound _). lane.StandsFor f z.ordered (ordered_lane s) (of_lane (ordered_lane s) v.kept)) (sym was) filed.ordered)
    (subst (λ (z : Inbound _). lane.StandsFor f z.unordered (unordered_lane s) (of_lane (unordered_lane s) v.kept)) (sym was) filed.unordered) in
    let held = c.saturating_add-self.ensures ∙ (λ j. sized (c.saturating_add.ensures j + c.in_ok-given.given)) ∙ (λ j. sized (sized (c.saturating_sub.ensures j + c.kept_bytes.result) + c.in_ok-given.given))
    ∙ (λ j. sized (sized (k.held - bytes_before j + c.kept_bytes.result) + c.in_ok-given.given)) in
    let m = keeps_taken_in f k v x seen able made s old new (sym same) all_filed got low refl p.unordered c.in_ok-given.given c.saturating_add-self.result c.kept_bytes.result refl gives
    (λ ks on. c.kept_bytes.ensures (ordered_lane s) (unordered_lane s) (of_lane (ordered_lane s) ks) (of_lane (unordered_lane s) ks) on.ordered on.unordered) held in
    let there = subst (λ (q : ℕ). KeepsView f (record k { seen = seen; streams = set k.streams q (inbound_of new.value); held = c.saturating_add-self.result }) m.0) (sym c.from-stream.ensures) m.2.0 in
    let files = subst (λ (q : ℕ). AreFiled f m.0.kept (set made q (boxed new))) (sym c.from-stream.ensures) m.2.1 in
    let ws = c.args.self.now.ready.words.items in
    let put = set_mapped made at (boxed new) ∙ ap (λ (ss : List StreamKept). set ss at (inbound_of new.value)) same in
    let but_made = subst (λ (ss : List StreamKept). IsSameBut at ss (map stream_of (set made at (boxed new)))) same (same_but made at (boxed new)) in
    let but = subst (λ (q : ℕ). IsSameBut q k.streams (map stream_of (set made at (boxed new)))) c.from-stream.ensures but_made in
    let long = length-map items stream_of in
    let count = length-set made at (boxed new) in
    let x2 = c.index_mut-2.result.now in
    let there_before : stream_at k.streams s ≡ inbound_of old.value =
    ap (λ (ss : List StreamKept). stream_at ss s) (sym same) ∙ ap (λ (q : ℕ). stream_at (map stream_of made) q) (sym c.from-stream.ensures)
    ∙ stream_mapped made at x2 (omega (arith, l, size)) c.index_mut-2.ensures.value ∙ (λ j. known_of (unboxed (c.in-Some.is j))) in
    let waited = ap (λ (m : StreamKept). min 1 (length m.waiting)) (there_before ∙ sym (ap inbound_of was)) ∙ c.has_message-had_message.ensures in
    let now : stream_at (map stream_of (set made at (boxed new))) s ≡ inbound_of new.value =
    ap (λ (ss : List StreamKept). stream_at ss s) (set_mapped made at (boxed new)) ∙ ap (λ (q : ℕ). stream_at (set (map stream_of made) at (inbound_of new.value)) q) (sym c.from-stream.ensures)
    ∙ stream_set_same (map stream_of made) at (inbound_of new.value) (let m = length-map made stream_of in omega (arith, l, size, m)) in
    let waits = ap (λ (m : StreamKept). min 1 (length m.waiting)) now ∙ c.has_message-has_message.ensures in
    let list = c.show_change.ensures k.streams (shown_list f ws k v w.0 w.1.1.1.1) (omega (arith, long, size, count)) but waited waits in
    let shown = shown_view f _ _ _ m.0 there put list in
    (m.0, m.1, (rw (set_mapped made at (boxed new) ∙ ap (λ (ss : List StreamKept). set ss at (inbound_of new.value)) same) there, files), shown)

pub returns-then-stream-len-clause-kept : goal.returns-then-stream-len-clause-kept
returns-then-stream-len-clause-kept g c = grind (arith, common_steps)
