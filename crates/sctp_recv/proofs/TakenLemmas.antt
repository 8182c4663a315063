-- What a receiver keeps after a chunk was kept, and what was then due delivered.
use Rattle.std.proofs.Common.{◌≡◌, ℕ, suc, ◌+◌, ◌-◌, ◌<◌, ◌≤◌, ◌⊎◌, max, Bool, true, false, ◌==◌, List, [], ◌∷◌, ◌++◌, length, set, map, Option, None, Some, inl, inr, refl, sym, ◌∙◌, ap, subst, arith}
use Rattle.std.specs.Prelude.{not, slice_get}
use Rattle.std.specs.declared.alloc.Global.{Global}
use Rattle.std.specs.declared.boxed.Box.{Box}
use Rattle.std.proofs.lemmas.Bool.{cases_Bool}
use Rattle.std.proofs.lemmas.Bool.Decides.{nat_tests}
use Rattle.std.proofs.lemmas.List.{length-map}
use Rattle.sctp_model.specs.numbers.Lists.{Has, at}
use Rattle.sctp_model.specs.messages.Format.{Format, Interleaved, Kind, Ordered, Unordered, Lane, ordered_lane, unordered_lane}
use Rattle.sctp_model.specs.messages.Pieces.{Piece}
use Rattle.sctp_model.specs.receiver.ReceiverView.{Handed, ReceiverView, size_of_pieces, size_of_messages, size_of_waiting}
use Rattle.sctp_model.specs.receiver.Receiving.{IsDue, is_below, without_below, handed_ordered, without_message, goes_with, handed_unordered, IsWholeWith, message_of, GivesOrdered, GivesUnordered, Gives, TakesPiece}
use Rattle.sctp_model.specs.receiver.Reading.{lane_of}
use Rattle.sctp_model.specs.receiver.ResetTaken.{past_on, past_top}
use Rattle.sctp_model.proofs.receiver.OfLane.{of_more, of_other, of_below, of_below_other, with_of, without_of, without_other}
use Rattle.sctp_model.proofs.receiver.OneStep.{filter_has}
use Rattle.sctp_model.proofs.receiver.RowFacts.{row_same}
use Rattle.sctp_model.proofs.receiver.Sizes.{due_size, message_size}
use Rattle.sctp_chains.specs.StandsFor as lane
use Rattle.sctp_chains.specs.WholeOf.{from_number}
use Rattle.sctp_recv.specs.declared.inbound.Inbound.{Inbound}
use Rattle.sctp_recv.specs.declared.stream.Stream.{Stream}
use Rattle.sctp_recv.specs.Fields.{inbound_of, stream_of}
use Rattle.sctp_model.specs.receiver.KeptOfLane.{of_lane}
use Rattle.sctp_recv.specs.Filed.{IsFiledOn, AreFiled}
use Rattle.sctp_recv.specs.SeenKept.{SeenKept}
use Rattle.sctp_recv.specs.ReceiverKept.{StreamKept, ReceiverKept, stream_at, past_of, or_past}
use Rattle.sctp_recv.specs.StandsFor.{KeepsView}
use Rattle.sctp_recv.specs.inner.Giving.{sized, IsDueView, GivesDue, GivesWhole, GivesNone, GivesBy}
use Rattle.sctp_recv.proofs.StreamLemmas.{one_stream, same_field, length_set, got_stream}
use Rattle.sctp_recv.proofs.FiledLemmas.{SameOff, filed_set, sum_has, stream_size, all_sizes, size_changed}
use Rattle.sctp_recv.proofs.DueLemmas.{due_above}
use Rattle.sctp_recv.proofs.KeptLemmas.{with_chunk, held_counted, all_apart, all_recorded, all_numbers, past_with, keeps_fewer}
use Rattle.sctp_recv.proofs.PastLaws.{ordered_none, number_own, past_given, past_whole}
use Rattle.sctp_recv.proofs.RecordedLemmas.{at_cases, IsKeepable}

-- past a number, where that is the one of its lane
or_past_is : (n m : ℕ) (o : Option ℕ) → ((i : ℕ) → o ≡ Some i → m ≡ suc i) × (o ≡ None → m ≡ 0) → or_past n o ≡ max n m
or_past_is n m None (some, none) = let is = none refl in omega (arith, is)
or_past_is n m (Some i) (some, none) = let is = some i refl in omega (arith, is)

-- under I-DATA a whole message that goes leaves the largest number as it was
past_whole_in : (f : Format) (r : ReceiverView) (x : Piece) (xs : List Piece) (q : ℕ) → f ≡ Interleaved → Has r.kept x → past_top (handed_unordered f r x xs) q ≡ past_top r q
past_whole_in f r x xs q idata there = ap (λ (g : Format). past_top (handed_unordered g r x xs) q) idata ∙ past_whole r x xs q there

-- a stream of which this is known
abbrev pub boxed : {F : Type 0} → Box (Inbound F) Global → Stream F
boxed b = record { inbound = Some b }

module _ (f : Format) (k : ReceiverKept) (v : ReceiverView) (x : Piece) (seen : SeenKept) (h : IsKeepable f k v x seen) where
  module _ {F : Type 0} (streams : List (Stream F)) (s : ℕ) (was now : Box (Inbound F) Global) (streams_are : k.streams ≡ map stream_of streams) (filed : AreFiled f v.kept streams)
      (got : slice_get streams s ≡ Some (boxed was)) (low : s < length streams) (mine : x.lane.stream ≡ s) where
    abbrev old : Inbound F
    old = was.value

    abbrev new : Inbound F
    new = now.value

    there_before : (y : Piece) → Has v.kept y → y.lane.stream < length streams
    there_before = filed.there

    there_now : (y : Piece) → Has (x ∷ v.kept) y → y.lane.stream < length streams
    there_now y (inl is) = let same : x.lane.stream ≡ y.lane.stream = ap (λ (z : Piece). z.lane.stream) is in omega (arith, same, mine, low)
    there_now y (inr has) = filed.there y has

    within : s < length k.streams
    within = let m = ap (λ (ss : List StreamKept). length ss) streams_are ∙ length-map streams stream_of in omega (arith, m, low)

    stream_is : stream_at k.streams s ≡ inbound_of old
    stream_is = ap (λ (ss : List StreamKept). stream_at ss s) streams_are ∙ got_stream streams s (boxed was) got

    -- the bytes held, where these chunks are kept then
    counts_kept : (now : List Piece) (ms : List Handed) (held after given : ℕ) → ((y : Piece) → Has now y → y.lane.stream < length streams) → SameOff s v.kept now →
        size_of_messages ms + size_of_pieces now ≤ size_of_pieces (x ∷ v.kept) → after ≡ sized (stream_size now s) → given ≡ sized (size_of_messages ms) →
        held ≡ sized (sized (k.held - sized (stream_size v.kept s) + after) + given) → held + (length x.bytes + size_of_pieces v.kept) ≡ k.held + length x.bytes + size_of_pieces now + size_of_messages ms
    counts_kept now ms held after given there off size a g is =
        let changed = size_changed (length streams) s v.kept now low there_before there off in
        let sum = all_sizes (length streams) v.kept there_before in
        let part = sum_has (stream_size v.kept) s (length streams) low in
        let was : k.held ≡ size_of_pieces v.kept + size_of_waiting v.waiting v.streams = h.keeps.held in
        held_counted k.held (stream_size v.kept s) (stream_size now s) (size_of_messages ms) (size_of_pieces v.kept) (size_of_pieces now) (length x.bytes) k.buffer
        changed (omega (arith, sum, part)) (omega (arith, was)) size h.fits h.keeps.small held (is ∙ (λ j. sized (sized (k.held - sized (stream_size v.kept s) + a j) + g j)))

    -- an ordered chunk is kept, and what is then due handed over
    pub keeps_due : (given held after : ℕ) → x.lane ≡ ordered_lane s → GivesDue f s old.next (x ∷ of_lane (ordered_lane s) v.kept) old new given →
        ((kept : List Piece) → IsFiledOn f kept s (boxed now) → after ≡ sized (stream_size kept s)) → held ≡ sized (sized (k.held - sized (stream_size v.kept s) + after) + given) →
        (t : ReceiverView) × GivesOrdered f s (with_chunk v x) t × (KeepsView f (record k { seen = seen; streams = set k.streams s (inbound_of new); held = held }) t × AreFiled f t.kept (set streams s (boxed now)))
    keeps_due given held after lane_is g afters counts = (handed_ordered (with_chunk v x) s g.messages g.next, (g.messages, g.next, due, refl), (stands, files))
      where
        view : IsDueView f (x ∷ of_lane (ordered_lane s) v.kept) s old.next old.next (with_chunk v x)
        view = record {
          same = of_more (ordered_lane s) x v.kept lane_is;
          above = let under = h.keeps.skipped s in let next = h.keeps.next s in let own = ap (λ (a : StreamKept). a.next) stream_is in omega (arith, under, next, own);
          skipped = λ n lo hi. absurd (omega (arith, lo, hi));
        }

        next_is : v.next s ≡ old.next
        next_is = h.keeps.next s ∙ ap (λ (a : StreamKept). a.next) stream_is

        due : IsDue f (with_chunk v x) s (v.next s) g.messages g.next
        due = subst (λ (n : ℕ). IsDue f (with_chunk v x) s n g.messages g.next) (sym next_is) (g.due (with_chunk v x) view)

        above : (q : ℕ) → v.skip (ordered_lane q) ≤ at v.next s g.next q
        above q = elim (cases_Bool (q == s)) [
          | inl e ↦
              let here : s ≡ q = grind (arith, e, nat_tests) in
              let ends = (due_above f (with_chunk v x) s (v.next s) g.messages g.next due).0 in
              rw e (subst (λ (i : ℕ). v.skip (ordered_lane i) ≤ g.next) here ends)
          | inr e ↦ rw e (h.keeps.skipped q)
        ]

        off : SameOff s v.kept (without_below (x ∷ v.kept) s g.next)
        off l other = of_below_other l s g.next (x ∷ v.kept) (λ e. other (ap (λ (m : Lane). m.stream) e)) ∙ of_other l x v.kept (λ e. other (ap (λ (m : Lane). m.stream) (sym e) ∙ mine))

        own : of_lane (ordered_lane s) (without_below (x ∷ v.kept) s g.next) ≡ from_number g.next (x ∷ of_lane (ordered_lane s) v.kept)
        own = of_below s g.next (x ∷ v.kept) ∙ ap (from_number g.next) (of_more (ordered_lane s) x v.kept lane_is)

        loose : of_lane (unordered_lane s) (without_below (x ∷ v.kept) s g.next) ≡ of_lane (unordered_lane s) v.kept
        loose =
            of_below_other (unordered_lane s) s g.next (x ∷ v.kept) (λ e. let no : Unordered ≡ Ordered = ap (λ (l : Lane). l.kind) e in cc)
            ∙ of_other (unordered_lane s) x v.kept (λ e. let no : Ordered ≡ Unordered = ap (λ (l : Lane). l.kind) (sym lane_is ∙ e) in cc)

        here : IsFiledOn f (without_below (x ∷ v.kept) s g.next) s (boxed now)
        here = record {
          ordered = subst (λ (ps : List Piece). lane.StandsFor f new.ordered (ordered_lane s) ps) (sym own) g.left;
          unordered = subst (λ (ps : List Piece). lane.StandsFor f new.unordered (unordered_lane s) ps) (sym loose) (g.others (unordered_lane s) (of_lane (unordered_lane s) v.kept) (filed.each s (boxed was) got).unordered);
        }

        files : AreFiled f (without_below (x ∷ v.kept) s g.next) (set streams s (boxed now))
        files = filed_set f v.kept (without_below (x ∷ v.kept) s g.next) streams s (boxed now) filed low here off (λ y has. there_now y (filter_has (λ (z : Piece). not (is_below s g.next z)) (x ∷ v.kept) y has))

        size : size_of_messages g.messages + size_of_pieces (without_below (x ∷ v.kept) s g.next) ≤ size_of_pieces (x ∷ v.kept)
        size = due_size f (with_chunk v x) s (v.next s) g.messages g.next due

        skip_same : (inbound_of new).skip ≡ (stream_at k.streams s).skip
        skip_same = ap (λ (c : StreamKept). c.skip) g.stream ∙ sym (ap (λ (c : StreamKept). c.skip) stream_is)

        near_same : past_of (inbound_of new) ≡ past_of (stream_at k.streams s)
        near_same = ap (λ (c : StreamKept). past_of c) g.stream ∙ sym (ap (λ (c : StreamKept). past_of c) stream_is)

        past_after_now : (q : ℕ) → f ≡ Interleaved → past_top (handed_ordered (with_chunk v x) s g.messages g.next) q ≡ past_of (stream_at (set k.streams s (inbound_of new)) q)
        past_after_now q idata =
            let none : past_on (unordered_lane s) x.lane x.number ≡ 0 = ap (λ (l : Lane). past_on (unordered_lane s) l x.number) lane_is ∙ ordered_none s s x.number in
            let same = near_same in
            past_given f s (with_chunk v x) (handed_ordered (with_chunk v x) s g.messages g.next) q (g.messages, g.next, due, refl)
            ∙ past_with f k v x seen h s (inbound_of new) within mine skip_same (omega (arith, none, same)) q idata

        stands : KeepsView f (record k { seen = seen; streams = set k.streams s (inbound_of new); held = held }) (handed_ordered (with_chunk v x) s g.messages g.next)
        stands = keeps_fewer f k v x seen h s (λ (z : Piece). not (is_below s g.next z)) (inbound_of new) held (at v.next s g.next) g.messages within
            (one_stream v.next (λ (c : StreamKept). c.next) k.streams s (inbound_of new) g.next within h.keeps.next (sym (ap (λ (c : StreamKept). c.next) g.stream))) above
            skip_same past_after_now
            (ap (λ (c : StreamKept). c.waiting) g.stream ∙ ap (λ (hs : List Handed). hs ++ g.messages) (sym (ap (λ (c : StreamKept). c.waiting) stream_is)))
            size (counts_kept (without_below (x ∷ v.kept) s g.next) g.messages held after given (λ y has. there_now y (filter_has (λ (z : Piece). not (is_below s g.next z)) (x ∷ v.kept) y has)) off size (afters (without_below (x ∷ v.kept) s g.next) here) g.bytes counts)

    -- an unordered chunk is kept, and its message handed over where it is whole
    module _ (given held after : ℕ) (lane_is : x.lane ≡ unordered_lane s) (afters : (kept : List Piece) → IsFiledOn f kept s (boxed now) → after ≡ sized (stream_size kept s))
        (counts : held ≡ sized (sized (k.held - sized (stream_size v.kept s) + after) + given)) (others : (l : Lane) (ks : List Piece) → lane.StandsFor f old.ordered l ks → lane.StandsFor f new.ordered l ks) where
      ordered_here : lane.StandsFor f new.ordered (ordered_lane s) (of_lane (ordered_lane s) v.kept)
      ordered_here = others (ordered_lane s) (of_lane (ordered_lane s) v.kept) (filed.each s (boxed was) got).ordered

      not_ordered : x.lane ≡ ordered_lane s → ⊥
      not_ordered e = let no : Unordered ≡ Ordered = ap (λ (l : Lane). l.kind) (sym lane_is ∙ e) in cc

      more : of_lane (unordered_lane s) (x ∷ v.kept) ≡ x ∷ of_lane (unordered_lane s) v.kept
      more = of_more (unordered_lane s) x v.kept lane_is

      -- the chunk's number counts among its stream's
      past_now : (inbound_of new).past ≡ or_past old.past x.number → (inbound_of new).skip ≡ old.skip → (q : ℕ) → f ≡ Interleaved →
          past_top (with_chunk v x) q ≡ past_of (stream_at (set k.streams s (inbound_of new)) q)
      past_now past skip q idata =
          let own = number_own s x.number in
          let lane : past_on (unordered_lane s) x.lane x.number ≡ past_on (unordered_lane s) (unordered_lane s) x.number = ap (λ (l : Lane). past_on (unordered_lane s) l x.number) lane_is in
          let was : past_of (stream_at k.streams s) ≡ max old.skip old.past = ap (λ (a : StreamKept). past_of a) stream_is in
          let raised = or_past_is old.past (past_on (unordered_lane s) (unordered_lane s) x.number) x.number own in
          past_with f k v x seen h s (inbound_of new) within mine (skip ∙ sym (ap (λ (a : StreamKept). a.skip) stream_is)) (omega (arith, past, skip, lane, was, raised)) q idata

      off_chunk : SameOff s v.kept (x ∷ v.kept)
      off_chunk l other = of_other l x v.kept (λ e. other (ap (λ (m : Lane). m.stream) (sym e) ∙ mine))

      keeps_whole : GivesWhole f s x (of_lane (unordered_lane s) v.kept) old new given →
          (t : ReceiverView) × GivesUnordered f x (with_chunk v x) t × (KeepsView f (record k { seen = seen; streams = set k.streams s (inbound_of new); held = held }) t × AreFiled f t.kept (set streams s (boxed now)))
      keeps_whole g = (handed_unordered f (with_chunk v x) g.head g.rest, inl (g.head, g.rest, whole, refl), (then_so, files))
        where
          whole : IsWholeWith f (x ∷ v.kept) x (g.head ∷ g.rest)
          whole = (with_of f (x ∷ v.kept) (unordered_lane s) x (g.head ∷ g.rest) lane_is).1 (subst (λ (ps : List Piece). IsWholeWith f ps x (g.head ∷ g.rest)) (sym more) g.whole)

          head_lane : g.head.lane ≡ unordered_lane s
          head_lane = sym (row_same f g.head g.rest x whole.0.1 whole.2).0 ∙ lane_is

          off : SameOff s v.kept (without_message f (x ∷ v.kept) (g.head ∷ g.rest))
          off l other = without_other f (x ∷ v.kept) l g.head g.rest x (all_apart f k v x seen h) whole (λ e. other (ap (λ (m : Lane). m.stream) (sym e ∙ head_lane))) ∙ off_chunk l other

          here : IsFiledOn f (without_message f (x ∷ v.kept) (g.head ∷ g.rest)) s (boxed now)
          here = record {
            ordered = subst (λ (ps : List Piece). lane.StandsFor f new.ordered (ordered_lane s) ps)
                (sym (without_other f (x ∷ v.kept) (ordered_lane s) g.head g.rest x (all_apart f k v x seen h) whole (λ e. let no : Unordered ≡ Ordered = ap (λ (l : Lane). l.kind) (sym head_lane ∙ e) in cc)
                ∙ of_other (ordered_lane s) x v.kept not_ordered)) ordered_here;
            unordered = subst (λ (ps : List Piece). lane.StandsFor f new.unordered (unordered_lane s) ps)
                (sym (without_of f (x ∷ v.kept) (unordered_lane s) (g.head ∷ g.rest) ∙ ap (λ (ps : List Piece). without_message f ps (g.head ∷ g.rest)) more)) g.left;
          }

          there : (y : Piece) → Has (without_message f (x ∷ v.kept) (g.head ∷ g.rest)) y → y.lane.stream < length streams
          there y has = there_now y (filter_has (λ (z : Piece). not (goes_with f (g.head ∷ g.rest) z)) (x ∷ v.kept) y has)

          files : AreFiled f (without_message f (x ∷ v.kept) (g.head ∷ g.rest)) (set streams s (boxed now))
          files = filed_set f v.kept (without_message f (x ∷ v.kept) (g.head ∷ g.rest)) streams s (boxed now) filed low here off there

          size : size_of_messages (message_of f g.head g.rest ∷ []) + size_of_pieces (without_message f (x ∷ v.kept) (g.head ∷ g.rest)) ≤ size_of_pieces (x ∷ v.kept)
          size = let less = message_size f (x ∷ v.kept) x g.head g.rest whole in omega (arith, less)

          bytes : given ≡ sized (size_of_messages (message_of f g.head g.rest ∷ []))
          bytes = let own = g.bytes in omega (arith, own)

          past_whole_now : (q : ℕ) → f ≡ Interleaved →
              past_top (record (with_chunk v x) { waiting = at v.waiting s (v.waiting s ++ message_of f g.head g.rest ∷ []); kept = without_message f (x ∷ v.kept) (g.head ∷ g.rest) }) q
              ≡ past_of (stream_at (set k.streams s (inbound_of new)) q)
          past_whole_now q idata =
              ap (λ (i : ℕ). past_top (record (with_chunk v x) { waiting = at v.waiting i (v.waiting i ++ message_of f g.head g.rest ∷ []); kept = without_message f (x ∷ v.kept) (g.head ∷ g.rest) }) q)
              (sym (ap (λ (m : Lane). m.stream) head_lane))
              ∙ past_whole_in f (with_chunk v x) g.head g.rest q idata (whole.1 g.head (inl refl))
              ∙ past_now (ap (λ (c : StreamKept). c.past) g.stream) (ap (λ (c : StreamKept). c.skip) g.stream) q idata

          first_so : KeepsView f (record k { seen = seen; streams = set k.streams s (inbound_of new); held = held })
              (record (with_chunk v x) { waiting = at v.waiting s (v.waiting s ++ message_of f g.head g.rest ∷ []); kept = without_message f (x ∷ v.kept) (g.head ∷ g.rest) })
          first_so = keeps_fewer f k v x seen h s (λ (z : Piece). not (goes_with f (g.head ∷ g.rest) z)) (inbound_of new) held v.next (message_of f g.head g.rest ∷ []) within
              (λ q. h.keeps.next q ∙ sym (same_field (λ (c : StreamKept). c.next) k.streams s (inbound_of new) within (ap (λ (c : StreamKept). c.next) g.stream ∙ sym (ap (λ (c : StreamKept). c.next) stream_is)) q)) h.keeps.skipped
              (ap (λ (c : StreamKept). c.skip) g.stream ∙ sym (ap (λ (c : StreamKept). c.skip) stream_is)) past_whole_now
              (ap (λ (c : StreamKept). c.waiting) g.stream ∙ ap (λ (hs : List Handed). hs ++ message_of f g.head g.rest ∷ []) (sym (ap (λ (c : StreamKept). c.waiting) stream_is)))
              size (counts_kept (without_message f (x ∷ v.kept) (g.head ∷ g.rest)) (message_of f g.head g.rest ∷ []) held after given there off size (afters (without_message f (x ∷ v.kept) (g.head ∷ g.rest)) here) bytes counts)

          then_so : KeepsView f (record k { seen = seen; streams = set k.streams s (inbound_of new); held = held }) (handed_unordered f (with_chunk v x) g.head g.rest)
          then_so = subst (λ (q : ℕ). KeepsView f (record k { seen = seen; streams = set k.streams s (inbound_of new); held = held })
              (record (with_chunk v x) { waiting = at v.waiting q (v.waiting q ++ message_of f g.head g.rest ∷ []); kept = without_message f (x ∷ v.kept) (g.head ∷ g.rest) }))
              (sym (ap (λ (m : Lane). m.stream) head_lane)) first_so

      -- or it stays with the others
      keeps_part : GivesNone f s x (of_lane (unordered_lane s) v.kept) old new given →
          (t : ReceiverView) × GivesUnordered f x (with_chunk v x) t × (KeepsView f (record k { seen = seen; streams = set k.streams s (inbound_of new); held = held }) t × AreFiled f t.kept (set streams s (boxed now)))
      keeps_part g = (with_chunk v x, inr (none, refl), (stands, filed_set f v.kept (x ∷ v.kept) streams s (boxed now) filed low here off_chunk there_now))
        where
          none : (xs : List Piece) → IsWholeWith f (x ∷ v.kept) x xs → ⊥
          none xs whole = g.none xs (subst (λ (ps : List Piece). IsWholeWith f ps x xs) more ((with_of f (x ∷ v.kept) (unordered_lane s) x xs lane_is).0 whole))

          here : IsFiledOn f (x ∷ v.kept) s (boxed now)
          here = record {
            ordered = subst (λ (ps : List Piece). lane.StandsFor f new.ordered (ordered_lane s) ps) (sym (of_other (ordered_lane s) x v.kept not_ordered)) ordered_here;
            unordered = subst (λ (ps : List Piece). lane.StandsFor f new.unordered (unordered_lane s) ps) (sym more) g.left;
          }

          same : {A : Type 0} (field : StreamKept → A) → field (inbound_of new) ≡ field (inbound_of old) → (q : ℕ) → field (stream_at (set k.streams s (inbound_of new)) q) ≡ field (stream_at k.streams q)
          same field stays q = same_field field k.streams s (inbound_of new) within (stays ∙ sym (ap field stream_is)) q

          total : held + (length x.bytes + size_of_pieces v.kept) ≡ k.held + length x.bytes + size_of_pieces (x ∷ v.kept) + 0
          total = counts_kept (x ∷ v.kept) [] held after given there_now off_chunk (omega arith) (afters (x ∷ v.kept) here) (let none_given = g.bytes in omega (arith, none_given)) counts

          stands : KeepsView f (record k { seen = seen; streams = set k.streams s (inbound_of new); held = held }) (with_chunk v x)
          stands = record {
            seen = h.records h.new h.near v.seen v.jump h.keeps.seen;
            counts = λ j came. elim (at_cases v.seen x.index j came) [ inl e ↦ let c = h.small in omega arith | inr there ↦ h.keeps.counts j there ];
            apart = all_apart f k v x seen h;
            recorded = all_recorded f k v x seen h;
            numbers = all_numbers f k v x seen h;
            next = λ q. h.keeps.next q ∙ sym (same (λ (c : StreamKept). c.next) (ap (λ (c : StreamKept). c.next) g.stream) q);
            skip = λ q. h.keeps.skip q ∙ sym (same (λ (c : StreamKept). c.skip) (ap (λ (c : StreamKept). c.skip) g.stream) q);
            past = past_now (ap (λ (c : StreamKept). c.past) g.stream) (ap (λ (c : StreamKept). c.skip) g.stream);
            skipped = h.keeps.skipped;
            waiting = λ q. h.keeps.waiting q ∙ sym (same (λ (c : StreamKept). c.waiting) (ap (λ (c : StreamKept). c.waiting) g.stream) q);
            streams = h.keeps.streams ∙ sym (length_set k.streams s (inbound_of new));
            few_streams = let few = h.keeps.few_streams in let size = length_set k.streams s (inbound_of new) in omega (arith, few, size);
            duplicates = h.keeps.duplicates;
            resets = h.keeps.resets;
            held = let was : k.held ≡ size_of_pieces v.kept + size_of_waiting v.waiting v.streams = h.keeps.held in let all = total in omega (arith, was, all);
            room = let fits = h.fits in let all = total in omega (arith, fits, all);
            small = h.keeps.small;
            initial = h.keeps.initial;
            buffer = h.keeps.buffer;
            reserve = h.keeps.reserve;
          }

    -- by its kind
    pub keeps_taken_in : (unordered : Bool) (given held after : ℕ) → x.lane ≡ lane_of s unordered → GivesBy unordered f s x (of_lane (lane_of s unordered) v.kept) old new given →
        ((kept : List Piece) → IsFiledOn f kept s (boxed now) → after ≡ sized (stream_size kept s)) → held ≡ sized (sized (k.held - sized (stream_size v.kept s) + after) + given) →
        (t : ReceiverView) × TakesPiece f v x t × (KeepsView f (record k { seen = seen; streams = set k.streams s (inbound_of new); held = held }) t × AreFiled f t.kept (set streams s (boxed now)))
    keeps_taken_in true given held after is g afters counts = finish g.gives
      where
        finish : GivesWhole f s x (of_lane (unordered_lane s) v.kept) old new given ⊎ GivesNone f s x (of_lane (unordered_lane s) v.kept) old new given →
            (t : ReceiverView) × TakesPiece f v x t × (KeepsView f (record k { seen = seen; streams = set k.streams s (inbound_of new); held = held }) t × AreFiled f t.kept (set streams s (boxed now)))
        finish (inl whole) =
            let m = keeps_whole given held after is afters counts g.others whole in
            (m.0, subst (λ (c : Kind). Gives f c x (with_chunk v x) m.0) (ap (λ (l : Lane). l.kind) (sym is)) m.1, m.2)
        finish (inr none) =
            let m = keeps_part given held after is afters counts g.others none in
            (m.0, subst (λ (c : Kind). Gives f c x (with_chunk v x) m.0) (ap (λ (l : Lane). l.kind) (sym is)) m.1, m.2)
    keeps_taken_in false given held after is g afters counts =
        let m = keeps_due given held after is g afters counts in
        (m.0, subst (λ (l : Lane). Gives f l.kind x (with_chunk v x) m.0) (sym is) (subst (λ (q : ℕ). GivesOrdered f q (with_chunk v x) m.0) (sym mine) m.1), m.2)
