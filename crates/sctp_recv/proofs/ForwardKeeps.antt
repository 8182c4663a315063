-- What a receiver keeps after a FORWARD was handled, and what was then due delivered.
use Rattle.std.proofs.Common.{◌≡◌, ℕ, zero, suc, ◌+◌, ◌-◌, ◌≤◌, max, Bool, false, List, [], ◌∷◌, ◌++◌, length, map, Some, inl, inr, refl, sym, ◌∙◌, ap, subst, arith}
use Rattle.std.specs.Prelude.{not, if◌then◌else◌, slice_get}
use Rattle.std.proofs.lemmas.Bool.{cases_lt}
use Rattle.std.proofs.lemmas.List.{length-map}
use Rattle.sctp_model.specs.numbers.Lists.{Has}
use Rattle.sctp_model.specs.wire.Chunk.{SkipMeaning, ForwardMeaning}
use Rattle.sctp_model.specs.messages.Format.{Format, Interleaved, Unordered, Lane, same_lane, ordered_lane, unordered_lane}
use Rattle.sctp_model.specs.messages.Framing.{lets_go}
use Rattle.sctp_model.specs.messages.Pieces.{Piece}
use Rattle.sctp_model.specs.receiver.Incoming.{Incoming}
use Rattle.sctp_model.specs.receiver.ReceiverView.{Handed, ReceiverView, held_bytes, size_of_pieces, size_of_waiting}
use Rattle.sctp_model.specs.receiver.Receiving.{GivesAll}
use Rattle.sctp_model.specs.receiver.Reading.{index_at, lane_of}
use Rattle.sctp_model.specs.receiver.ForwardTaken.{names_other_stream, skips_read, jumped, let_go, forwarded}
use Rattle.sctp_model.specs.receiver.ForwardTaken as model
use Rattle.sctp_model.specs.receiver.Top.{top}
use Rattle.sctp_model.specs.receiver.ResetTaken.{past_top}
use Rattle.sctp_model.proofs.receiver.ForwardAtRest.{skips_below, skipped_other}
use Rattle.sctp_model.proofs.receiver.Giving.{at_elsewhere, AreServed, all_served}
use Rattle.sctp_model.proofs.receiver.HeldBytes.{all_holds, filter_size}
use Rattle.sctp_model.proofs.receiver.Filters.{filter_turned, filter_where, filter_none}
use Rattle.sctp_model.proofs.receiver.OfLane.{of_says}
use Rattle.sctp_model.proofs.receiver.OneStep.{filter_has, fewer_apart}
use Rattle.sctp_recv.specs.declared.stream.Stream.{Stream}
use Rattle.sctp_recv.specs.Fields.{stream_of}
use Rattle.sctp_model.specs.receiver.KeptOfLane.{of_lane}
use Rattle.sctp_recv.specs.Filed.{AreFiled}
use Rattle.sctp_recv.specs.SeenKept.{SeenKept}
use Rattle.sctp_recv.specs.SeenStands.{SeenStands, Jumps}
use Rattle.sctp_recv.specs.ReceiverKept.{StreamKept, ReceiverKept, FRESH, stream_at, past_of, near_of}
use Rattle.sctp_recv.specs.declared.restart.Restart.{Restart}
use Rattle.sctp_recv.specs.Resets.{restart_in, KeepsResets}
use Rattle.sctp_recv.specs.StandsFor.{KeepsView}
use Rattle.sctp_recv.specs.inner.Rows.{offset_from, IsAbove}
use Rattle.sctp_recv.specs.inner.Forwarding.{one_past, most_skipped, lowest_after, skip_after, AreCounts, stay, AreToPass, ArePassed}
use Rattle.sctp_recv.proofs.AnswerLemmas.{near_reads}
use Rattle.sctp_recv.proofs.FiledLemmas.{got_below}
use Rattle.sctp_recv.proofs.StreamLemmas.{past_streams, got_stream}
use Rattle.sctp_recv.proofs.ResetsStay.{all_resets, all_taken}
use Rattle.sctp_recv.proofs.PastLaws.{top_is, past_all_given, past_let_go, past_skips}
use Rattle.sctp_recv.proofs.ForwardSkips.{unordered_read, ordered_read}

-- ---- what is read near one count or another

skipped_near : (f : Format) (q c d a b : ℕ) (xs : List SkipMeaning) → (f ≡ Interleaved → c ≡ d) → (f ≡ Interleaved → a ≡ b) → most_skipped f (unordered_lane q) c a xs ≡ most_skipped f (unordered_lane q) d b xs
skipped_near f q c d a b [] base same = refl
skipped_near f q c d a b (x ∷ xs) base same =
    (λ i. max (if same_lane (unordered_lane q) (lane_of x.stream x.unordered) then one_past (near_reads f c d a b x.number base same i) else 0) (skipped_near f q c d a b xs base same i))

lowest_near : (f : Format) (q c d a b lowest : ℕ) (xs : List SkipMeaning) → (f ≡ Interleaved → c ≡ d) → (f ≡ Interleaved → a ≡ b) → lowest_after f (unordered_lane q) c a lowest xs ≡ lowest_after f (unordered_lane q) d b lowest xs
lowest_near f q c d a b lowest xs base same = ap (λ (n : ℕ). max lowest n) (skipped_near f q c d a b xs base same)

-- ---- what handing over on all streams leaves

pub gives_rest : (f : Format) (n : ℕ) (r t : ReceiverView) → GivesAll f n r t → (t.jump ≡ r.jump) × (t.duplicates ≡ r.duplicates) × (t.reserve ≡ r.reserve)
gives_rest f zero r t is = (ap (λ (v : ReceiverView). v.jump) is, ap (λ (v : ReceiverView). v.duplicates) is, ap (λ (v : ReceiverView). v.reserve) is)
gives_rest f (suc n) r t (mid, before, (ms, m, due, is)) =
    let b = gives_rest f n r mid before in
    (ap (λ (v : ReceiverView). v.jump) is ∙ b.0, ap (λ (v : ReceiverView). v.duplicates) is ∙ b.1, ap (λ (v : ReceiverView). v.reserve) is ∙ b.2)

pub gives_past : (f : Format) (n : ℕ) (r t : ReceiverView) → GivesAll f n r t → (q : ℕ) → n ≤ q → t.waiting q ≡ r.waiting q
gives_past f zero r t is q high = ap (λ (v : ReceiverView). v.waiting q) is
gives_past f (suc n) r t (mid, before, (ms, m, due, is)) q high =
    ap (λ (v : ReceiverView). v.waiting q) is ∙ at_elsewhere mid.waiting n (mid.waiting n ++ ms) q (λ e. omega (arith, high, e)) ∙ gives_past f n r mid before q (omega (arith, high))

module _ (f : Format) (k : ReceiverKept) (v : ReceiverView) (x : ForwardMeaning) (i : ℕ) (h : KeepsView f k v) (above : IsAbove k.initial k.seen.cumulative x.cumulative i)
    (named : names_other_stream (length k.streams) x.skips ≡ false) where
  -- the view with index and numbers taken, and the one without what is let go
  abbrev passed : ReceiverView
  passed = jumped f v k.seen.cumulative x

  abbrev left : ReceiverView
  left = forwarded f v k.seen.cumulative x

  abbrev b : ℕ → Restart
  b = restart_in k.resets

  index_is : index_at v k.seen.cumulative x.cumulative ≡ i
  index_is = ap (λ (n : ℕ). k.seen.cumulative + offset_from n k.seen.cumulative x.cumulative) h.initial ∙ sym above.index

  jump_is : passed.jump ≡ i
  jump_is = let same = index_is in let low = h.seen.jumped in let high = above.above in omega (arith, same, low, high)

  -- a lane of a stream that isn't there
  skip_other : (l : Lane) → length k.streams ≤ l.stream → passed.skip l ≡ v.skip l
  skip_other l past = skipped_other (skips_read f v x.skips) l
      (λ y there same. let low = skips_below f v (length k.streams) x.skips named y there in let stream : l.stream ≡ y.lane.stream = ap (λ (o : Lane). o.stream) same in omega (arith, low, stream, past)) v.skip

  abbrev stays : Piece → Bool
  stays y = model.stays_by y.lane.kind f passed y

  module _ {F : Type 0} (streams : List (Stream F)) (streams_are : k.streams ≡ map stream_of streams) where
    count : length k.streams ≡ length streams
    count = ap (λ (ss : List StreamKept). length ss) streams_are ∙ length-map streams stream_of

    pub stream_is : (q : ℕ) (z : Stream F) → slice_get streams q ≡ Some z → stream_at k.streams q ≡ stream_of z
    stream_is q z got = ap (λ (ss : List StreamKept). stream_at ss q) streams_are ∙ got_stream streams q z got

    ordered_stay : (q : ℕ) → of_lane (ordered_lane q) left.kept ≡ of_lane (ordered_lane q) v.kept
    ordered_stay q =
        filter_turned (λ (y : Piece). same_lane y.lane (ordered_lane q)) stays v.kept
        ∙ filter_none stays (of_lane (ordered_lane q) v.kept) (λ y has. ap (λ (l : Lane). model.stays_by l.kind f passed y) (of_says (ordered_lane q) v.kept y has).1)

    past_is : (q : ℕ) (z : Stream F) → slice_get streams q ≡ Some z → f ≡ Interleaved → past_top v q ≡ past_of (stream_of z)
    past_is q z got idata = h.past q idata ∙ ap past_of (stream_is q z got)

    near_is : (q : ℕ) (z : Stream F) → slice_get streams q ≡ Some z → f ≡ Interleaved → top v q ≡ near_of (stream_of z) Unordered
    near_is q z got idata = top_is v q ∙ ap (λ (n : ℕ). n - 1) (past_is q z got idata)

    skip_now : (q : ℕ) (z : Stream F) → slice_get streams q ≡ Some z → passed.skip (unordered_lane q) ≡ skip_after f (b q) q (stream_of z) x.skips
    skip_now q z got =
        unordered_read f v q x.skips
        ∙ lowest_near f q (v.resets.base (unordered_lane q)) (b q).unordered (top v q) (near_of (stream_of z) Unordered) (v.skip (unordered_lane q)) x.skips (h.resets.unordered q) (near_is q z got)
        ∙ ap (λ (n : ℕ). lowest_after f (unordered_lane q) (b q).unordered (near_of (stream_of z) Unordered) n x.skips) (h.skip q ∙ ap (λ (a : StreamKept). a.skip) (stream_is q z got))

    -- what is let go had lower numbers than those that are skipped
    past_passed : (q : ℕ) → f ≡ Interleaved → past_top left q ≡ max (past_top v q) (passed.skip (unordered_lane q))
    past_passed q idata =
        let more : v.skip (unordered_lane q) ≤ passed.skip (unordered_lane q) = let read = unordered_read f v q x.skips in omega (arith, read) in
        ap (λ (g : Format). past_top (let_go g passed) q) idata ∙ past_let_go passed q ∙ past_skips v passed.jump passed.skip q more

    past_now : (q : ℕ) (z : Stream F) → slice_get streams q ≡ Some z → f ≡ Interleaved → past_top left q ≡ max (skip_after f (b q) q (stream_of z) x.skips) (stream_of z).past
    past_now q z got idata =
        let all = past_passed q idata in
        let past = past_is q z got idata in
        let skip = skip_now q z got in
        omega (arith, all, past, skip)

    unordered_stay : (q : ℕ) (z : Stream F) → slice_get streams q ≡ Some z → of_lane (unordered_lane q) left.kept ≡ stay f i (skip_after f (b q) q (stream_of z) x.skips) (of_lane (unordered_lane q) v.kept)
    unordered_stay q z got =
        filter_turned (λ (y : Piece). same_lane y.lane (unordered_lane q)) stays v.kept
        ∙ filter_where stays (λ (y : Piece). not (lets_go f y.index y.number i (skip_after f (b q) q (stream_of z) x.skips))) (of_lane (unordered_lane q) v.kept)
        (λ y has.
        let lane = (of_says (unordered_lane q) v.kept y has).1 in
        ap (λ (l : Lane). model.stays_by l.kind f passed y) lane
        ∙ (λ j. not (lets_go f y.index y.number (jump_is j) ((ap passed.skip lane ∙ skip_now q z got) j))))

    pub to_pass : AreFiled f v.kept streams → ((q : ℕ) (z : Stream F) → slice_get streams q ≡ Some z → AreCounts f (b q) q (stream_of z) x.skips) → AreToPass f b i x.skips v left streams k.held
    to_pass filed counts = record {
      filed = filed;
      counted = h.numbers;
      stream = λ q z got. record { next = h.next q ∙ ap (λ (a : StreamKept). a.next) (stream_is q z got); waiting = h.waiting q ∙ ap (λ (a : StreamKept). a.waiting) (stream_is q z got) };
      ordered = ordered_stay;
      unordered = unordered_stay;
      within = λ y has. filter_has stays v.kept y has;
      skip = skip_now;
      past = past_now;
      counts = counts;
      floor = λ q z got. subst (λ (n : ℕ). max n (passed.skip (ordered_lane q)) ≡ lowest_after f (ordered_lane q) (b q).ordered n n x.skips) (h.next q ∙ ap (λ (a : StreamKept). a.next) (stream_is q z got))
          (subst (λ (c : ℕ). max (v.next q) (passed.skip (ordered_lane q)) ≡ lowest_after f (ordered_lane q) c (v.next q) (v.next q) x.skips) (h.resets.ordered q) (ordered_read f v q x.skips (h.skipped q)));
      next = refl;
      waiting = refl;
      held = h.held ∙ ap (λ (n : ℕ). size_of_pieces v.kept + size_of_waiting v.waiting n) (h.streams ∙ count);
      small = let room = h.room in let small = h.small in omega (arith, room, small);
    }

    -- ---- what it leaves

    module _ (t : ReceiverView) (gives : GivesAll f (length streams) left t) (news : List (Stream F)) (size : length news ≡ length streams) (held : ℕ) (p : ArePassed f t news held) (seen : SeenKept)
        (jumps : Jumps k.seen seen i) where
      served : AreServed f (length streams) left t
      served = all_served f (length streams) left t gives

      fewer : (y : Piece) → Has t.kept y → Has v.kept y
      fewer y has = filter_has stays v.kept y (served.giving.fewer y has)

      each_field : {A : Type 0} (field : StreamKept → A) (new : ℕ → A) → ((q : ℕ) (z : Stream F) → slice_get news q ≡ Some z → new q ≡ field (stream_of z)) →
          ((q : ℕ) → length streams ≤ q → new q ≡ field FRESH) → (q : ℕ) → new q ≡ field (stream_at (map stream_of news) q)
      each_field field new there past q = elim (cases_lt q (length streams)) [
        | inl low ↦
            let z = got_below news q (omega (arith, low, size)) in
            there q z.0 z.1 ∙ ap field (sym (got_stream news q z.0 z.1))
        | inr high ↦ past q high ∙ ap field (sym (past_streams (map stream_of news) q (let m = length-map news stream_of in omega (arith, high, m, size))))
      ]

      fresh_past : {A : Type 0} (field : StreamKept → A) (q : ℕ) → length streams ≤ q → field (stream_at k.streams q) ≡ field FRESH
      fresh_past field q high = ap field (past_streams k.streams q (let n = count in omega (arith, n, high)))

      skip_is : (l : Lane) → t.skip l ≡ passed.skip l
      skip_is l = ap (λ (g : Lane → ℕ). g l) served.giving.skip

      skipped_under : (q : ℕ) → t.skip (ordered_lane q) ≤ t.next q
      skipped_under q = elim (cases_lt q (length streams)) [
        | inl low ↦ (served.waits q low).passed
        | inr high ↦
            let skip = skip_is (ordered_lane q) ∙ skip_other (ordered_lane q) (let n = count in omega (arith, n, high)) in
            let next = served.others q high in
            let was = h.skipped q in
            omega (arith, skip, next, was)
      ]

      -- a stream that isn't there has no numbers
      none_past : (q : ℕ) → length streams ≤ q → f ≡ Interleaved → past_top t q ≡ past_of FRESH
      none_past q high idata =
          let all = past_all_given f (length streams) left t q gives ∙ past_passed q idata in
          let was : past_top v q ≡ 0 = h.past q idata ∙ fresh_past past_of q high in
          let skip : passed.skip (unordered_lane q) ≡ 0 = skip_other (unordered_lane q) (let n = count in omega (arith, n, high)) ∙ h.skip q ∙ fresh_past (λ (a : StreamKept). a.skip) q high in
          omega (arith, all, was, skip)

      streams_now : t.streams ≡ length news
      streams_now = served.giving.streams ∙ h.streams ∙ count ∙ sym size

      under : held ≤ k.buffer
      under =
          let less = (all_holds f (length streams) left t gives).held in
          let fewer = filter_size stays v.kept in
          let was = h.held in
          let room = h.room in
          let now : held ≡ held_bytes t = p.held ∙ ap (λ (n : ℕ). size_of_pieces t.kept + size_of_waiting t.waiting n) (sym streams_now) in
          omega (arith, less, fewer, was, room, now)

      resets_kept : KeepsResets f k.resets t.initial t.streams t.taken t.resets
      resets_kept =
          subst (λ (n : ℕ). KeepsResets f k.resets n t.streams t.taken t.resets) (sym served.giving.initial)
          (subst (λ (n : ℕ). KeepsResets f k.resets v.initial n t.taken t.resets) (sym served.giving.streams)
          (subst (λ (g : ℕ → List Handed). KeepsResets f k.resets v.initial v.streams g t.resets) (sym (all_taken f (length streams) left t gives))
          (subst (λ (y : Incoming). KeepsResets f k.resets v.initial v.streams v.taken y) (sym (all_resets f (length streams) left t gives)) h.resets)))

      pub keeps_forwarded : KeepsView f (record k { seen = seen; streams = map stream_of news; held = held }) t
      keeps_forwarded = record {
        seen = stands;
        counts = λ j came. h.counts j (ap (λ (g : ℕ → Bool). g j) (sym served.giving.seen) ∙ came);
        apart = fewer_apart f v.kept t.kept fewer h.apart;
        recorded = λ y has. ap (λ (g : ℕ → Bool). g y.index) served.giving.seen ∙ h.recorded y (fewer y has);
        numbers = λ y n has. h.numbers y n (fewer y has);
        next = each_field (λ (a : StreamKept). a.next) t.next (λ q z got. (p.stream q z got).0.next)
            (λ q high. served.others q high ∙ h.next q ∙ fresh_past (λ (a : StreamKept). a.next) q high);
        skip = each_field (λ (a : StreamKept). a.skip) (λ (q : ℕ). t.skip (unordered_lane q)) (λ q z got. (p.stream q z got).1)
            (λ q high. skip_is (unordered_lane q) ∙ skip_other (unordered_lane q) (let n = count in omega (arith, n, high)) ∙ h.skip q ∙ fresh_past (λ (a : StreamKept). a.skip) q high);
        past = λ q idata. each_field past_of (λ (j : ℕ). past_top t j) (λ j z got. (p.stream j z got).2 idata) (λ j high. none_past j high idata) q;
        skipped = skipped_under;
        waiting = each_field (λ (a : StreamKept). a.waiting) t.waiting (λ q z got. (p.stream q z got).0.waiting)
            (λ q high. gives_past f (length streams) left t gives q high ∙ h.waiting q ∙ fresh_past (λ (a : StreamKept). a.waiting) q high);
        streams = streams_now ∙ sym (length-map news stream_of);
        few_streams = let few = h.few_streams in let n = count in let m = length-map news stream_of in omega (arith, few, n, m, size);
        duplicates = (gives_rest f (length streams) left t gives).1 ∙ h.duplicates;
        resets = resets_kept;
        held = p.held ∙ ap (λ (n : ℕ). size_of_pieces t.kept + size_of_waiting t.waiting n) (sym streams_now);
        room = under;
        small = h.small;
        initial = served.giving.initial ∙ h.initial;
        buffer = served.giving.buffer ∙ h.buffer;
        reserve = (gives_rest f (length streams) left t gives).2 ∙ h.reserve;
      }
        where
          stands : SeenStands seen t.seen t.jump
          stands = subst (λ (g : ℕ → Bool). SeenStands seen g t.jump) (sym served.giving.seen)
              (subst (λ (n : ℕ). SeenStands seen v.seen n) (sym ((gives_rest f (length streams) left t gives).0 ∙ ap (λ (n : ℕ). max v.jump n) index_is)) (jumps v.seen v.jump h.seen))
