-- The lowest stream with a channel.
use Rattle.std.proofs.Common.{◌≡◌, ◌⊎◌, ℕ, ◌+◌, ◌<◌, ◌≤◌, true, false, length, Some, None, inl, inr, subst, sym, ◌∙◌, arith}
use Rattle.std.proofs.lemmas.Bool.{cases_eq, false_from_ne_true}
use Rattle.sctp_channels.specs.Streams.{has_channel, Table, stream_at, first_from}
use Rattle.sctp_channels.specs.Events.{is_used}
use Rattle.sctp_channels.proofs.FirstLemmas.{first_found, first_from_start, none_from_start}

-- each used stream is at this one or above
abbrev pub UsedFrom : Table → (stream : ℕ) → Type 0
UsedFrom x i = (s : ℕ) → has_channel (stream_at x s).state ≡ true → i ≤ s

-- one more isn't used
pub used_above : (x : Table) (i : ℕ) → UsedFrom x i → has_channel (stream_at x i).state ≡ false → UsedFrom x (i + 1)
used_above x i from free s used = go (cases_eq i s)
  where
    go : (i ≡ s) ⊎ (i ≡ s → ⊥) → i + 1 ≤ s
    go (inl e) = absurd (let on = subst (λ (k : ℕ). has_channel (stream_at x k).state ≡ true) (sym e) used in cc (on, free))
    go (inr ne) = let low = from s used in omega (arith, low, ne)

-- those below aren't
below : (x : Table) (i : ℕ) → UsedFrom x i → (q : ℕ) → q < i → is_used x q ≡ false
below x i from q less = false_from_ne_true (is_used x q) (λ used. let low = from q used in omega (arith, low, less))

pub first_used_is : (x : Table) (i : ℕ) → i < length x.streams → UsedFrom x i → has_channel (stream_at x i).state ≡ true → Some i ≡ first_from (is_used x) 0 (length x.streams)
first_used_is x i less from used =
    let n = length x.streams in
    sym (first_from_start (is_used x) i n (omega (arith, less)) (below x i from) ∙ first_found (is_used x) i n less used)

pub none_used_is : (x : Table) (i : ℕ) → UsedFrom x i → ((s : ℕ) → has_channel (stream_at x s).state ≡ true → s < i) → None ≡ first_from (is_used x) 0 (length x.streams)
none_used_is x i from to =
    sym (none_from_start (is_used x) (length x.streams) (λ q. false_from_ne_true (is_used x q) (λ used.
    let a = from q used in let b = to q used in omega (arith, a, b))))
