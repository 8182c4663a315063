-- What a receiver keeps, after each of its smaller steps.
use Rattle.std.proofs.Common.{◌≡◌, ℕ, suc, ◌+◌, ◌-◌, ◌^◌, ◌<◌, true, false, ◌==◌, List, [], ◌∷◌, ◌++◌, length, set, replicate, Option, None, Some, inl, inr, refl, sym, ◌∙◌, ap, arith}
use Rattle.std.proofs.lemmas.Bool.{cases_Bool}
use Rattle.std.proofs.lemmas.Bool.Decides.{nat_tests}
use Rattle.sctp_model.specs.numbers.Lists.{at}
use Rattle.sctp_model.specs.messages.Format.{Format}
use Rattle.sctp_model.specs.receiver.ReceiverView.{Handed, ReceiverView, IsCumulative, fresh_receiver, size_of_messages}
use Rattle.sctp_model.specs.receiver.SackMade.{first_taken}
use Rattle.sctp_recv.specs.SeenKept.{SeenKept}
use Rattle.sctp_recv.specs.SeenStands.{SeenStands}
use Rattle.sctp_recv.specs.ReceiverKept.{StreamKept, ReceiverKept, FRESH, stream_at, past_of}
use Rattle.sctp_recv.specs.StandsFor.{KeepsView}
use Rattle.sctp_recv.specs.ResetsKept.{ResetsKept}
use Rattle.sctp_recv.specs.inner.Restarting.{HasTaken}
use Rattle.sctp_recv.proofs.PastLaws.{past_taken}
use Rattle.sctp_recv.proofs.ResetLemmas.{none_kept, taken_kept}
use Rattle.sctp_recv.proofs.RunLemmas.{none_after}
use Rattle.sctp_recv.proofs.StreamLemmas.{fresh_at, length_fresh, no_waiting, stream_set_same, stream_set_other, same_field, length_set, waiting_set}

-- ---- the cumulative index

pub cumulative_is : (k : SeenKept) (v : ReceiverView) → SeenStands k v.seen v.jump → IsCumulative v k.cumulative
cumulative_is k v s = record {
  reached = s.below;
  open_end = λ r. elim r [
    | inl came ↦ let no = s.above (suc k.cumulative) (omega arith) ∙ none_after k.cumulative k.runs s.runs in absurd (cc)
    | inr under ↦ omega (arith, s.jumped)
  ];
}

-- ---- a fresh receiver

pub keeps_fresh : (f : Format) (seen : SeenKept) (ss : List StreamKept) (initial n buffer : ℕ) → SeenStands seen (λ i. false) 0 → ss ≡ replicate n FRESH → n < 2 ^ 16 → buffer < 2 ^ 32 →
    KeepsView f (record { seen = seen; streams = ss; duplicates = []; resets = None; held = 0; initial = initial; buffer = buffer }) (fresh_receiver initial n buffer 0)
keeps_fresh f seen ss initial n buffer s e few fits = record {
  seen = s;
  counts = λ i came. absurd (let never : false ≡ true = came in cc);
  apart = λ x y h. absurd h;
  recorded = λ x h. absurd h;
  numbers = λ x m h is. absurd h;
  next = λ q. sym (ap (λ (xs : List StreamKept). (stream_at xs q).next) e ∙ ap (λ (x : StreamKept). x.next) (fresh_at n q));
  skip = λ q. sym (ap (λ (xs : List StreamKept). (stream_at xs q).skip) e ∙ ap (λ (x : StreamKept). x.skip) (fresh_at n q));
  past = λ q idata. sym (ap (λ (xs : List StreamKept). past_of (stream_at xs q)) e ∙ ap (λ (x : StreamKept). past_of x) (fresh_at n q));
  skipped = λ q. omega arith;
  waiting = λ q. sym (ap (λ (xs : List StreamKept). (stream_at xs q).waiting) e ∙ ap (λ (x : StreamKept). x.waiting) (fresh_at n q));
  streams = sym (ap (λ (xs : List StreamKept). length xs) e ∙ length_fresh n);
  few_streams = let count = ap (λ (xs : List StreamKept). length xs) e ∙ length_fresh n in omega arith;
  duplicates = refl;
  resets = none_kept f initial n;
  held = let none = no_waiting n in omega arith;
  room = omega arith;
  small = fits;
  initial = refl;
  buffer = refl;
  reserve = refl;
}

-- ---- a message taken

pub keeps_taken : (f : Format) (k : ReceiverKept) (v : ReceiverView) (s held : ℕ) (h : Handed) (rest : List Handed) (x : StreamKept) (resets : Option ResetsKept) → KeepsView f k v → s < length k.streams →
    stream_at k.streams s ≡ record x { waiting = h ∷ rest } → x.waiting ≡ rest → held ≡ k.held - length h.bytes → HasTaken s k.resets resets →
    KeepsView f (record k { streams = set k.streams s x; resets = resets; held = held })
    (record v { taken = at v.taken s (v.taken s ++ h ∷ []); waiting = at v.waiting s rest })
keeps_taken f k v s held h rest x resets w l at_s left less has = record {
  seen = w.seen;
  counts = w.counts;
  apart = w.apart;
  recorded = w.recorded;
  numbers = w.numbers;
  next = λ q. elim (cases_Bool (q == s)) [
    | inl e ↦
        let same : q ≡ s = grind (arith, nat_tests) in
        w.next q ∙ ap (λ (i : ℕ). (stream_at k.streams i).next) same ∙ ap (λ (y : StreamKept). y.next) at_s
        ∙ sym (ap (λ (i : ℕ). (stream_at (set k.streams s x) i).next) same ∙ ap (λ (y : StreamKept). y.next) (stream_set_same k.streams s x l))
    | inr e ↦ w.next q ∙ sym (ap (λ (y : StreamKept). y.next) (stream_set_other k.streams s q x (λ same. grind (arith, nat_tests))))
  ];
  skip = λ q. elim (cases_Bool (q == s)) [
    | inl e ↦
        let same : q ≡ s = grind (arith, nat_tests) in
        w.skip q ∙ ap (λ (i : ℕ). (stream_at k.streams i).skip) same ∙ ap (λ (y : StreamKept). y.skip) at_s
        ∙ sym (ap (λ (i : ℕ). (stream_at (set k.streams s x) i).skip) same ∙ ap (λ (y : StreamKept). y.skip) (stream_set_same k.streams s x l))
    | inr e ↦ w.skip q ∙ sym (ap (λ (y : StreamKept). y.skip) (stream_set_other k.streams s q x (λ same. grind (arith, nat_tests))))
  ];
  past = λ q idata. past_taken v s (Some h) (first_taken v s h rest) q (rest, waits_here, refl) ∙ w.past q idata ∙ sym (same_field (λ (y : StreamKept). past_of y) k.streams s x l near_same q);
  skipped = w.skipped;
  waiting = λ q. elim (cases_Bool (q == s)) [
    | inl e ↦
        let same : q ≡ s = grind (arith, nat_tests) in
        let now : (stream_at (set k.streams s x) q).waiting ≡ rest = ap (λ (i : ℕ). (stream_at (set k.streams s x) i).waiting) same ∙ ap (λ (y : StreamKept). y.waiting) (stream_set_same k.streams s x l) ∙ left in
        rw e (sym now)
    | inr e ↦
        let now : (stream_at (set k.streams s x) q).waiting ≡ (stream_at k.streams q).waiting = ap (λ (y : StreamKept). y.waiting) (stream_set_other k.streams s q x (λ same. grind (arith, nat_tests))) in
        rw e (w.waiting q ∙ sym now)
  ];
  streams = w.streams ∙ sym (length_set k.streams s x);
  few_streams = let few = w.few_streams in let same = length_set k.streams s x in omega arith;
  duplicates = w.duplicates;
  resets = taken_kept f k.resets resets v.initial v.streams s v.taken v.resets h has w.resets;
  held =
      let waits : v.waiting s ≡ h ∷ rest = w.waiting s ∙ ap (λ (y : StreamKept). y.waiting) at_s in
      let sizes = waiting_set v.waiting s v.streams rest (omega (arith, w.streams)) in
      let size : size_of_messages (v.waiting s) ≡ length h.bytes + size_of_messages rest = ap size_of_messages waits in
      omega (arith, w.held);
  room = omega (arith, w.room);
  small = w.small;
  initial = w.initial;
  buffer = w.buffer;
  reserve = w.reserve;
}
  where
    waits_here : v.waiting s ≡ h ∷ rest
    waits_here = w.waiting s ∙ ap (λ (y : StreamKept). y.waiting) at_s

    near_same : past_of x ≡ past_of (stream_at k.streams s)
    near_same = sym (ap (λ (y : StreamKept). past_of y) at_s)
