-- On which streams a message waits, as their bits show it.
use Rattle.std.proofs.Common.{◌≡◌, ℕ, ◌*◌, ◌<◌, ◌≤◌, min, List, [], ◌∷◌, length, set, map, replicate, Option, None, Some, inl, inr, refl, sym, ◌∙◌, ap, arith}
use Rattle.std.proofs.lemmas.Bool.{cases_eq}
use Rattle.sctp_model.specs.messages.Format.{Format}
use Rattle.sctp_model.specs.receiver.ReceiverView.{Handed, ReceiverView}
use Rattle.sctp_recv.specs.ReceiverKept.{ReceiverKept, StreamKept, FRESH, stream_at}
use Rattle.sctp_recv.specs.Fields.{stream_of}
use Rattle.sctp_recv.specs.Readable.{ReadableAnswer}
use Rattle.sctp_recv.specs.StandsFor.{KeepsView}
use Rattle.sctp_recv.specs.inner.Bits.{bit_in, NextBit, AreShown, IsShown, IsSameBut}
use Rattle.sctp_recv.specs.declared.stream.Stream.{Stream}
use Rattle.sctp_recv.proofs.StreamLemmas.{fresh_at, length_fresh, past_streams, stream_set_other, set_mapped}

-- nothing waits yet
pub shown_fresh : (ws : List ℕ) (n : ℕ) (ss : List StreamKept) → n ≤ length ws * 64 → ((s : ℕ) → bit_in ws s ≡ 0) → ss ≡ replicate n FRESH → AreShown ws ss
shown_fresh ws n ss fits none is = record {
  fits = let long = ap (λ (xs : List StreamKept). length xs) is ∙ length_fresh n in omega (arith, long, fits);
  each = λ s. none s ∙ sym (ap (λ (x : StreamKept). min 1 (length x.waiting)) (ap (λ (xs : List StreamKept). stream_at xs s) is ∙ fresh_at n s));
}

-- the same streams
pub shown_same : (ws : List ℕ) (old new : List StreamKept) → AreShown ws old → new ≡ old → AreShown ws new
shown_same ws old new h is = rw is h

-- one stream is shown
pub shown_put : (ws vs : List ℕ) (old new : List StreamKept) (s bit : ℕ) → AreShown ws old → length old ≡ length new → IsSameBut s old new → s < length new
    → length vs ≡ length ws → (s < length ws * 64 → bit_in vs s ≡ bit) → min 1 (length (stream_at new s).waiting) ≡ bit → ((q : ℕ) → (q ≡ s → ⊥) → bit_in vs q ≡ bit_in ws q) → AreShown vs new
shown_put ws vs old new s bit h long but within size here is others = record {
  fits = omega (arith, h.fits, long, size);
  each = λ q. elim (cases_eq q s) [
    | inl same ↦ ap (λ (i : ℕ). bit_in vs i) same ∙ here (omega (arith, h.fits, long, within)) ∙ sym is ∙ ap (λ (i : ℕ). min 1 (length (stream_at new i).waiting)) (sym same)
    | inr other ↦ others q other ∙ h.each q ∙ ap (λ (hs : List Handed). min 1 (length hs)) (sym (but q other))
  ];
}

-- there is no such stream
pub shown_past : (ws : List ℕ) (old new : List StreamKept) (s : ℕ) → AreShown ws old → length old ≡ length new → IsSameBut s old new → length new ≤ s → AreShown ws new
shown_past ws old new s h long but past = record {
  fits = omega (arith, h.fits, long);
  each = λ q. elim (cases_eq q s) [
    | inl same ↦
        let before : stream_at old q ≡ FRESH = past_streams old q (omega (arith, long, past, same)) in
        let after : stream_at new q ≡ FRESH = past_streams new q (omega (arith, past, same)) in
        h.each q ∙ ap (λ (x : StreamKept). min 1 (length x.waiting)) (before ∙ sym after)
    | inr other ↦ h.each q ∙ ap (λ (hs : List Handed). min 1 (length hs)) (sym (but q other))
  ];
}

-- where a message waited on the one that changes, one waits, and where none did none does
pub shown_still : (ws : List ℕ) (old new : List StreamKept) (s bit : ℕ) → AreShown ws old → length old ≡ length new → IsSameBut s old new
    → min 1 (length (stream_at old s).waiting) ≡ bit → min 1 (length (stream_at new s).waiting) ≡ bit → AreShown ws new
shown_still ws old new s bit h long but before after = record {
  fits = omega (arith, h.fits, long);
  each = λ q. elim (cases_eq q s) [
    | inl same ↦ h.each q ∙ ap (λ (i : ℕ). min 1 (length (stream_at old i).waiting)) same ∙ before ∙ sym after ∙ ap (λ (i : ℕ). min 1 (length (stream_at new i).waiting)) (sym same)
    | inr other ↦ h.each q ∙ ap (λ (hs : List Handed). min 1 (length hs)) (sym (but q other))
  ];
}

-- one stream changes
pub same_but : {F : Type 0} (xs : List (Stream F)) (i : ℕ) (y : Stream F) → IsSameBut i (map stream_of xs) (map stream_of (set xs i y))
same_but xs i y = λ q apart. ap (λ (ss : List StreamKept). (stream_at ss q).waiting) (set_mapped xs i y) ∙ ap (λ (x : StreamKept). x.waiting) (stream_set_other (map stream_of xs) i q (stream_of y) apart)

-- ---- in a view

pub shown_view : (f : Format) (ws : List ℕ) (ss : List StreamKept) (k : ReceiverKept) (v : ReceiverView) → KeepsView f k v → ss ≡ k.streams → AreShown ws ss → IsShown ws v.waiting v.streams
shown_view f ws ss k v keeps is h = record {
  fits = let long = ap (λ (xs : List StreamKept). length xs) is in omega (arith, h.fits, keeps.streams, long);
  each = λ s. h.each s ∙ ap (λ (xs : List StreamKept). min 1 (length (stream_at xs s).waiting)) is ∙ ap (λ (hs : List Handed). min 1 (length hs)) (sym (keeps.waiting s));
}

pub shown_list : (f : Format) (ws : List ℕ) (k : ReceiverKept) (v : ReceiverView) → KeepsView f k v → IsShown ws v.waiting v.streams → AreShown ws k.streams
shown_list f ws k v keeps h = record {
  fits = omega (arith, h.fits, keeps.streams);
  each = λ s. h.each s ∙ ap (λ (hs : List Handed). min 1 (length hs)) (keeps.waiting s);
}

-- ---- which one is next

none_waits : (hs : List Handed) → min 1 (length hs) ≡ 0 → hs ≡ []
none_waits [] is = refl
none_waits (h ∷ hs) is = absurd (omega (arith, is))

some_waits : (hs : List Handed) → min 1 (length hs) ≡ 1 → hs ≡ [] → ⊥
some_waits hs is none = let no = ap (λ (gs : List Handed). min 1 (length gs)) none in omega (arith, is, no)

pub readable_is : (ws : List ℕ) (w : ℕ → List Handed) (n from : ℕ) (o : Option ℕ) → IsShown ws w n → NextBit ws from o → ReadableAnswer w from o
readable_is ws w n from None h next = λ q le. none_waits (w q) (sym (h.each q) ∙ next q le)
readable_is ws w n from (Some s) h next = record {
  above = next.above;
  some = some_waits (w s) (sym (h.each s) ∙ next.set);
  first = λ q le lt. none_waits (w q) (sym (h.each q) ∙ next.first q le lt);
}
