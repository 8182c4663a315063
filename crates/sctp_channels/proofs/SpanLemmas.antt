-- Ranges of streams outside of which there is nothing to be done.
use Rattle.std.proofs.Common.{◌≡◌, ◌⊎◌, ℕ, zero, suc, ◌+◌, ◌<◌, true, false, List, [], length, inl, inr, subst, ◌∙◌, sym, refl, arith}
use Rattle.std.specs.Prelude.{slice_index_or, slice_set, replicate}
use Rattle.std.proofs.lemmas.Bool.{cases_eq, or_cases, or_left, or_right}
use lib.Seq.{get_or-set_same, get_or-set_other}
use Rattle.sctp_channels.specs.declared.span.Span.{Span}
use Rattle.sctp_channels.specs.declared.stream.Stream.{Stream}
use Rattle.sctp_channels.specs.declared.threshold.Threshold.{Threshold}
use Rattle.sctp_channels.specs.Streams.{unused, has_channel, no_threshold}
use Rattle.sctp_channels.specs.inner.Spans.{IsWithin, is_restless, is_busy, AreBusyWithin, AreUsedWithin}

abbrev stream_in : List Stream → ℕ → Stream
stream_in xs s = slice_index_or xs s unused

abbrev threshold_in : List Threshold → ℕ → Threshold
threshold_in ts s = slice_index_or ts s no_threshold

-- ---- a stream is changed

pub busy_set : (r q : Span) (xs : List Stream) (ts : List Threshold) (n : ℕ) (y : Stream) → n < length xs → AreBusyWithin r xs ts → ((i : ℕ) → IsWithin r i → IsWithin q i)
    → (is_restless y ≡ true → IsWithin q n) → AreBusyWithin q (slice_set xs n y) ts
busy_set r q xs ts n y less all wider new s busy = go (cases_eq n s)
  where
    here : is_busy (stream_in (slice_set xs n y) n) (threshold_in ts n) ≡ true → IsWithin q n
    here on = by (or_cases (is_restless y) (threshold_in ts n).is_above (subst (λ (z : Stream). is_busy z (threshold_in ts n) ≡ true) (get_or-set_same xs n y unused less) on))
      where
        by : (is_restless y ≡ true) ⊎ ((threshold_in ts n).is_above ≡ true) → IsWithin q n
        by (inl restless) = new restless
        by (inr above) = wider n (all n (or_right (is_restless (stream_in xs n)) (threshold_in ts n).is_above above))

    go : (n ≡ s) ⊎ (n ≡ s → ⊥) → IsWithin q s
    go (inl e) = subst (λ (k : ℕ). IsWithin q k) e (here (subst (λ (k : ℕ). is_busy (stream_in (slice_set xs n y) k) (threshold_in ts k) ≡ true) (sym e) busy))
    go (inr ne) = wider s (all s (subst (λ (z : Stream). is_busy z (threshold_in ts s) ≡ true) (get_or-set_other xs n s y unused (λ e. ne (sym e))) busy))

pub used_set : (r q : Span) (xs : List Stream) (n : ℕ) (y : Stream) → n < length xs → AreUsedWithin r xs → ((i : ℕ) → IsWithin r i → IsWithin q i)
    → (has_channel y.state ≡ true → IsWithin q n) → AreUsedWithin q (slice_set xs n y)
used_set r q xs n y less all wider new s used = go (cases_eq n s)
  where
    here : has_channel (stream_in (slice_set xs n y) n).state ≡ true → IsWithin q n
    here on = new (subst (λ (z : Stream). has_channel z.state ≡ true) (get_or-set_same xs n y unused less) on)

    go : (n ≡ s) ⊎ (n ≡ s → ⊥) → IsWithin q s
    go (inl e) = subst (λ (k : ℕ). IsWithin q k) e (here (subst (λ (k : ℕ). has_channel (stream_in (slice_set xs n y) k).state ≡ true) (sym e) used))
    go (inr ne) = wider s (all s (subst (λ (z : Stream). has_channel z.state ≡ true) (get_or-set_other xs n s y unused (λ e. ne (sym e))) used))

-- ---- a threshold is changed

pub above_set : (r q : Span) (xs : List Stream) (ts : List Threshold) (n : ℕ) (t : Threshold) → n < length ts → AreBusyWithin r xs ts → ((i : ℕ) → IsWithin r i → IsWithin q i)
    → (t.is_above ≡ true → IsWithin q n) → AreBusyWithin q xs (slice_set ts n t)
above_set r q xs ts n t less all wider new s busy = go (cases_eq n s)
  where
    here : is_busy (stream_in xs n) (threshold_in (slice_set ts n t) n) ≡ true → IsWithin q n
    here on = by (or_cases (is_restless (stream_in xs n)) t.is_above (subst (λ (z : Threshold). is_busy (stream_in xs n) z ≡ true) (get_or-set_same ts n t no_threshold less) on))
      where
        by : (is_restless (stream_in xs n) ≡ true) ⊎ (t.is_above ≡ true) → IsWithin q n
        by (inl restless) = wider n (all n (or_left (is_restless (stream_in xs n)) (threshold_in ts n).is_above restless))
        by (inr above) = new above

    go : (n ≡ s) ⊎ (n ≡ s → ⊥) → IsWithin q s
    go (inl e) = subst (λ (k : ℕ). IsWithin q k) e (here (subst (λ (k : ℕ). is_busy (stream_in xs k) (threshold_in (slice_set ts n t) k) ≡ true) (sym e) busy))
    go (inr ne) = wider s (all s (subst (λ (z : Threshold). is_busy (stream_in xs s) z ≡ true) (get_or-set_other ts n s t no_threshold (λ e. ne (sym e))) busy))

-- none is set
none_there : (n s : ℕ) → slice_index_or (replicate n no_threshold) s no_threshold ≡ no_threshold
none_there zero zero = refl
none_there zero (suc s) = refl
none_there (suc n) zero = refl
none_there (suc n) (suc s) = none_there n s

pub none_made : (r : Span) (xs : List Stream) (n : ℕ) → AreBusyWithin r xs [] → AreBusyWithin r xs (replicate n no_threshold)
none_made r xs n all s busy = all s (subst (λ (t : Threshold). is_busy (stream_in xs s) t ≡ true) (none_there n s ∙ sym (none_there zero s)) busy)

-- ---- at the start

pub unused_there : (n s : ℕ) → slice_index_or (replicate n unused) s unused ≡ unused
unused_there zero zero = refl
unused_there zero (suc s) = refl
unused_there (suc n) zero = refl
unused_there (suc n) (suc s) = unused_there n s

pub none_busy : (r : Span) (n : ℕ) → AreBusyWithin r (replicate n unused) []
none_busy r n s busy = absurd (let off = subst (λ (z : Stream). is_busy z (threshold_in [] s) ≡ true) (unused_there n s) busy in let none = none_there zero s in let no = subst (λ (t : Threshold). is_busy unused t ≡ true) none off in cc no)

pub none_used : (r : Span) (n : ℕ) → AreUsedWithin r (replicate n unused)
none_used r n s used = absurd (let on = subst (λ (z : Stream). has_channel z.state ≡ true) (unused_there n s) used in cc on)

-- ---- the range is shortened

pub low_raised : (r q : Span) (xs : List Stream) (ts : List Threshold) → AreBusyWithin r xs ts → is_busy (stream_in xs r.low) (threshold_in ts r.low) ≡ false → q.low ≡ r.low + 1 → q.high ≡ r.high
    → AreBusyWithin q xs ts
low_raised r q xs ts all idle low high s busy = go (cases_eq r.low s)
  where
    go : (r.low ≡ s) ⊎ (r.low ≡ s → ⊥) → IsWithin q s
    go (inl e) = absurd (let on = subst (λ (k : ℕ). is_busy (stream_in xs k) (threshold_in ts k) ≡ true) (sym e) busy in cc (on, idle))
    go (inr ne) = let in_r = all s busy in let a = in_r.0 in let b = in_r.1 in (omega (arith, a, ne, low), omega (arith, b, high))

pub high_lowered : (r q : Span) (xs : List Stream) (ts : List Threshold) (last : ℕ) → AreBusyWithin r xs ts → is_busy (stream_in xs last) (threshold_in ts last) ≡ false → r.high ≡ last + 1 → q.low ≡ r.low
    → q.high ≡ last → AreBusyWithin q xs ts
high_lowered r q xs ts last all idle is low high s busy = go (cases_eq last s)
  where
    go : (last ≡ s) ⊎ (last ≡ s → ⊥) → IsWithin q s
    go (inl e) = absurd (let on = subst (λ (k : ℕ). is_busy (stream_in xs k) (threshold_in ts k) ≡ true) (sym e) busy in cc (on, idle))
    go (inr ne) = let in_r = all s busy in let a = in_r.0 in let b = in_r.1 in (omega (arith, a, low), omega (arith, b, ne, high, is))
