-- A stream of a table is changed.
use Rattle.std.proofs.Common.{◌≡◌, ℕ, Bool, true, false, List, refl, sym, ap, subst, ◌∙◌}
use Rattle.std.proofs.lemmas.List.{set-get_or}
use Rattle.sctp_model.specs.end.EndView.{EndView}
use Rattle.sctp_channels.specs.declared.stream.Stream.{Stream}
use Rattle.sctp_channels.specs.declared.table.Table as declared
use Rattle.sctp_channels.specs.declared.threshold.Threshold.{Threshold}
use Rattle.sctp_channels.specs.Streams.{no_threshold, Table, stream_at, with_stream, threshold_at, with_threshold}
use Rattle.sctp_channels.specs.Buffered.{buffered, is_waiting, looked, with_look}
use Rattle.sctp_channels.specs.Meanings.{table_meaning}
use Rattle.sctp_channels.proofs.BusyLemmas.{Holds}

-- it is changed as that table is
pub put_as : (t u x : Table) (s : ℕ) (y z : Stream) → u ≡ with_stream t s y → t ≡ x → y ≡ z → u ≡ with_stream x s z
put_as t u x s y z is same like = is ∙ (ap (λ (r : Table). with_stream r s y) same ∙ ap (λ (w : Stream). with_stream x s w) like)

-- it is the one that is there
pub at_as : (t x : Table) (s : ℕ) (y : Stream) → y ≡ stream_at t s → t ≡ x → y ≡ stream_at x s
at_as t x s y is same = is ∙ ap (λ (r : Table). stream_at r s) same

-- the range of busy streams
pub busy_of : (t : declared.Table) (x : Table) → table_meaning t ≡ x → Holds t.busy x
busy_of t x same = subst (λ (y : Table). Holds t.busy y) same (t.busy_fits.0, t.busy_fits.1, t.are_busy)

-- ---- a threshold

-- it is changed as that table's is
pub put_threshold : (t u x : Table) (s : ℕ) (y z : Threshold) → u ≡ with_threshold t s y → t ≡ x → y ≡ z → u ≡ with_threshold x s z
put_threshold t u x s y z is same like = is ∙ (ap (λ (r : Table). with_threshold r s y) same ∙ ap (λ (w : Threshold). with_threshold x s w) like)

-- it is the one that is there
pub threshold_as : (t x : Table) (s : ℕ) (y : Threshold) → y ≡ threshold_at t s → t ≡ x → y ≡ threshold_at x s
threshold_as t x s y is same = is ∙ ap (λ (r : Table). threshold_at r s) same

-- where an amount above it wouldn't be noted, a look changes nothing
unchanged : (amount : ℕ) (t : Threshold) → is_waiting t ≡ false → looked amount t ≡ t
unchanged amount t off = go t.is_set t.is_above refl refl
  where
    go : (a b : Bool) → t.is_set ≡ a → t.is_above ≡ b → looked amount t ≡ t
    go a true set above = rw above refl
    go true false set above = absurd (let on : is_waiting t ≡ true = rw (set, above) refl in cc (on, off))
    go false false set above = rw (set, above) refl

pub no_look : (v : EndView) (s : ℕ) (x : Table) → is_waiting (threshold_at x s) ≡ false → x ≡ with_look v s x
no_look v s x off =
    sym (ap (λ (t : Threshold). with_threshold x s t) (unchanged (buffered v s) (threshold_at x s) off) ∙ ap (λ (ts : List Threshold). record x { thresholds = ts }) (set-get_or x.thresholds s no_threshold))
