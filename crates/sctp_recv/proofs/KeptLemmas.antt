-- What a receiver keeps after a chunk was kept, with some of the chunks dropped and one stream changed; and the bytes held.
use Rattle.std.proofs.Common.{◌≡◌, ℕ, suc, ◌+◌, ◌-◌, ◌^◌, ◌<◌, ◌≤◌, max, Bool, true, false, ◌==◌, List, ◌∷◌, ◌++◌, length, set, filter, Some, inl, inr, sym, ◌∙◌, ap, arith}
use Rattle.std.proofs.lemmas.Bool.{cases_eq}
use Rattle.std.proofs.lemmas.Bool.Decides.{nat_tests}
use Rattle.sctp_model.specs.numbers.Serial.{COUNTS}
use Rattle.sctp_model.specs.numbers.Lists.{Has, at}
use Rattle.sctp_model.specs.messages.Format.{Format, Interleaved, ordered_lane, unordered_lane}
use Rattle.sctp_model.specs.messages.Pieces.{Piece}
use Rattle.sctp_model.specs.receiver.ReceiverView.{Handed, ReceiverView, size_of_pieces, size_of_messages, size_of_waiting}
use Rattle.sctp_model.specs.receiver.Receiving.{recorded}
use Rattle.sctp_model.specs.receiver.Laws.{IsFilledOnce}
use Rattle.sctp_model.specs.receiver.ResetTaken.{past_on, past_top}
use Rattle.sctp_model.proofs.receiver.OneStep.{filter_has, filter_apart, kept_apart}
use Rattle.sctp_recv.specs.SeenKept.{SeenKept}
use Rattle.sctp_recv.specs.ReceiverKept.{StreamKept, ReceiverKept, stream_at, past_of}
use Rattle.sctp_recv.specs.StandsFor.{KeepsView}
use Rattle.sctp_recv.specs.inner.Giving.{sized}
use Rattle.sctp_recv.proofs.StreamLemmas.{one_stream, same_field, stream_set_same, stream_set_other, length_set, waiting_set, size_append}
use Rattle.sctp_recv.proofs.PastLaws.{past_chunk, other_stream}
use Rattle.sctp_recv.proofs.RecordedLemmas.{at_cases, at_stays, at_here, IsKeepable}

-- the view with the chunk kept, before anything is handed over
abbrev pub with_chunk : ReceiverView → Piece → ReceiverView
with_chunk v x = record (recorded v x) { kept = x ∷ v.kept }

-- The bytes held, less those of a stream's chunks before, and with those after and those handed over: nothing is cut off.
pub held_counted : (was before after given old new more all : ℕ) → new + before ≡ old + after → before ≤ old → old ≤ was → given + new ≤ more + old → was + more ≤ all → all < 2 ^ 32 →
    (held : ℕ) → held ≡ sized (sized (was - sized before + sized after) + sized given) → held + (more + old) ≡ was + more + new + given
held_counted was before after given old new more all changed part within less fits small held is =
    let b : sized before ≡ before = omega (arith, part, within, fits, small) in
    let a : sized after ≡ after = omega (arith, changed, part, within, less, fits, small) in
    let g : sized given ≡ given = omega (arith, less, within, fits, small) in
    let first : sized (was - sized before + sized after) ≡ was - before + after = omega (arith, a, b, changed, part, within, less, fits, small) in
    omega (arith, is, first, g, changed, part, within, less, fits, small)

module _ (f : Format) (k : ReceiverKept) (v : ReceiverView) (x : Piece) (seen : SeenKept) (h : IsKeepable f k v x seen) where
  pub all_apart : IsFilledOnce f (x ∷ v.kept)
  all_apart = kept_apart f v x (record { apart = h.keeps.apart; recorded = h.keeps.recorded }) h.unseen h.wanted

  pub all_recorded : (y : Piece) → Has (x ∷ v.kept) y → at v.seen x.index true y.index ≡ true
  all_recorded y (inl e) = ap (λ (z : Piece). at v.seen x.index true z.index) (sym e) ∙ at_here v.seen x.index
  all_recorded y (inr there) = at_stays v.seen x.index y.index (h.keeps.recorded y there)

  pub all_numbers : (y : Piece) (n : ℕ) → Has (x ∷ v.kept) y → y.number ≡ Some n → suc n < COUNTS
  all_numbers y n (inl e) number = h.number n (ap (λ (z : Piece). z.number) e ∙ number)
  all_numbers y n (inr there) number = h.keeps.numbers y n there number

  -- one past the largest unordered number of each stream, once the chunk is kept: it may be that of its own
  pub past_with : (s : ℕ) (b : StreamKept) → s < length k.streams → x.lane.stream ≡ s → b.skip ≡ (stream_at k.streams s).skip →
      max (past_of (stream_at k.streams s)) (past_on (unordered_lane s) x.lane x.number) ≡ past_of b → (q : ℕ) → f ≡ Interleaved →
      past_top (with_chunk v x) q ≡ past_of (stream_at (set k.streams s b) q)
  past_with s b low mine skip near q idata =
      let more = past_chunk v x q in
      let was = h.keeps.past q idata in
      elim (cases_eq q s) [
        | inl same ↦
            let now : past_of (stream_at (set k.streams s b) q) ≡ past_of b =
            ap (λ (i : ℕ). past_of (stream_at (set k.streams s b) i)) same ∙ ap (λ (a : StreamKept). past_of a) (stream_set_same k.streams s b low) in
            let old : past_of (stream_at k.streams q) ≡ past_of (stream_at k.streams s) = ap (λ (i : ℕ). past_of (stream_at k.streams i)) same in
            let number : past_on (unordered_lane q) x.lane x.number ≡ past_on (unordered_lane s) x.lane x.number = ap (λ (i : ℕ). past_on (unordered_lane i) x.lane x.number) same in
            omega (arith, more, was, now, old, number, near)
        | inr other ↦
            let now : past_of (stream_at (set k.streams s b) q) ≡ past_of (stream_at k.streams q) = ap (λ (a : StreamKept). past_of a) (stream_set_other k.streams s q b other) in
            let test : (q == x.lane.stream) ≡ false = grind (arith, other, mine, nat_tests) in
            let none : past_on (unordered_lane q) x.lane x.number ≡ 0 = other_stream x.lane x.number q test in
            omega (arith, more, was, now, none)
      ]

  -- with some of the chunks gone, and one stream changed
  pub keeps_fewer : (s : ℕ) (test : Piece → Bool) (b : StreamKept) (held : ℕ) (nexts : ℕ → ℕ) (ms : List Handed) → s < length k.streams →
      ((q : ℕ) → nexts q ≡ (stream_at (set k.streams s b) q).next) → ((q : ℕ) → v.skip (ordered_lane q) ≤ nexts q) →
      b.skip ≡ (stream_at k.streams s).skip →
      ((q : ℕ) → f ≡ Interleaved → past_top (record (with_chunk v x) { next = nexts; waiting = at v.waiting s (v.waiting s ++ ms); kept = filter test (x ∷ v.kept) }) q ≡ past_of (stream_at (set k.streams s b) q)) →
      b.waiting ≡ (stream_at k.streams s).waiting ++ ms →
      size_of_messages ms + size_of_pieces (filter test (x ∷ v.kept)) ≤ size_of_pieces (x ∷ v.kept) →
      held + (length x.bytes + size_of_pieces v.kept) ≡ k.held + length x.bytes + size_of_pieces (filter test (x ∷ v.kept)) + size_of_messages ms →
      KeepsView f (record k { seen = seen; streams = set k.streams s b; held = held })
      (record (with_chunk v x) { next = nexts; waiting = at v.waiting s (v.waiting s ++ ms); kept = filter test (x ∷ v.kept) })
  keeps_fewer s test b held nexts ms l each above skip tops waits size counts = record {
    seen = h.records h.new h.near v.seen v.jump h.keeps.seen;
    counts = λ j came. elim (at_cases v.seen x.index j came) [ inl same ↦ let c = h.small in omega arith | inr old ↦ h.keeps.counts j old ];
    apart = filter_apart f test (x ∷ v.kept) all_apart;
    recorded = λ y there. all_recorded y (filter_has test (x ∷ v.kept) y there);
    numbers = λ y n there. all_numbers y n (filter_has test (x ∷ v.kept) y there);
    next = each;
    skip = λ q. h.keeps.skip q ∙ sym (same_field (λ (a : StreamKept). a.skip) k.streams s b l skip q);
    past = tops;
    skipped = above;
    waiting = one_stream v.waiting (λ (a : StreamKept). a.waiting) k.streams s b (v.waiting s ++ ms) l h.keeps.waiting
        (ap (λ (hs : List Handed). hs ++ ms) (h.keeps.waiting s) ∙ sym waits);
    streams = h.keeps.streams ∙ sym (length_set k.streams s b);
    few_streams = let few = h.keeps.few_streams in let same = length_set k.streams s b in omega arith;
    duplicates = h.keeps.duplicates;
    resets = h.keeps.resets;
    held = held_now;
    room = let fits = h.fits in omega (arith, counts, size, fits);
    small = h.keeps.small;
    initial = h.keeps.initial;
    buffer = h.keeps.buffer;
    reserve = h.keeps.reserve;
  }
    where
      held_now : held ≡ size_of_pieces (filter test (x ∷ v.kept)) + size_of_waiting (at v.waiting s (v.waiting s ++ ms)) v.streams
      held_now =
          let wait = waiting_set v.waiting s v.streams (v.waiting s ++ ms) (omega (arith, h.keeps.streams, l)) in
          let both = size_append (v.waiting s) ms in
          let old : k.held ≡ size_of_pieces v.kept + size_of_waiting v.waiting v.streams = h.keeps.held in
          omega (arith, counts, wait, both, old)
