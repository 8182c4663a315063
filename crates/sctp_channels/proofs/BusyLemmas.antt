-- Outside of the range of busy streams no channel is closed, no amount is low, and nothing is due.
use Rattle.std.proofs.Common.{◌≡◌, ℕ, ◌-◌, ◌≤◌, ◌&&◌, not, Bool, true, false, length, None, refl, sym, ◌∙◌, arith}
use Rattle.std.specs.Prelude.{nat_le}
use Rattle.std.proofs.lemmas.Bool.{and_parts, or_left, or_right, or_parts, false_from_ne_true}
use Rattle.sctp_model.specs.end.EndView.{EndView}
use Rattle.sctp_channels.specs.declared.span.Span.{Span}
use Rattle.sctp_channels.specs.declared.stream.State.{State}
use Rattle.sctp_channels.specs.declared.stream.State.TheVariants.{Unused, Connecting, Unanswered, Open, Closing, Refused, Silent}
use Rattle.sctp_channels.specs.declared.stream.Due.{Due}
use Rattle.sctp_channels.specs.declared.stream.Due.TheVariants.{Nothing, Acknowledgement, Reset}
use Rattle.sctp_channels.specs.Streams.{is_ending, is_silent, is_drained, Table, stream_at, threshold_at, first_from}
use Rattle.sctp_channels.specs.Buffered.{buffered, is_low}
use Rattle.sctp_channels.specs.Settling.{is_closing, is_asked, is_resetting_out, is_closed, is_gone}
use Rattle.sctp_channels.specs.inner.Spans.{IsWithin, is_due, is_restless, is_busy, AreBusyWithin}
use Rattle.sctp_channels.proofs.FirstLemmas.{first_from_start, none_from}

-- the range holds all busy streams
abbrev pub Holds : Span → Table → Type 0
Holds r x = (r.low ≤ r.high) × (r.high ≤ length x.streams) × AreBusyWithin r x.streams x.thresholds

busy_within : (r : Span) (x : Table) → Holds r x → AreBusyWithin r x.streams x.thresholds
busy_within r x holds = holds.2

closing_ends : (t : State) → is_closing t ≡ true → is_ending t ≡ true
closing_ends Unused on = absurd (cc on)
closing_ends Connecting on = absurd (cc on)
closing_ends Unanswered on = absurd (cc on)
closing_ends Open on = absurd (cc on)
closing_ends Closing on = refl
closing_ends Refused on = absurd (cc on)
closing_ends Silent on = absurd (cc on)

silent_ends : (t : State) → is_silent t ≡ true → is_ending t ≡ true
silent_ends Unused on = absurd (cc on)
silent_ends Connecting on = absurd (cc on)
silent_ends Unanswered on = absurd (cc on)
silent_ends Open on = absurd (cc on)
silent_ends Closing on = absurd (cc on)
silent_ends Refused on = absurd (cc on)
silent_ends Silent on = refl

pub closed_fails : (v : EndView) (x : Table) (r : Span) (q : ℕ) → Holds r x → (IsWithin r q → ⊥) → is_closed v x q ≡ false
closed_fails v x r q holds out =
    false_from_ne_true (is_closed v x q) (λ on.
    let y = stream_at x q in
    let closing = (and_parts (is_closing y.state) (is_drained y && (is_asked y.due && not (is_resetting_out v q))) on).0 in
    out (busy_within r x holds q (or_left (is_restless y) (threshold_at x q).is_above (or_left (is_ending y.state) (is_due y.due) (closing_ends y.state closing)))))

pub gone_fails : (v : EndView) (x : Table) (r : Span) (q : ℕ) → Holds r x → (IsWithin r q → ⊥) → is_gone v x q ≡ false
gone_fails v x r q holds out =
    false_from_ne_true (is_gone v x q) (λ on.
    let y = stream_at x q in
    let silent = (and_parts (is_silent y.state) (is_drained y && (is_asked y.due && not (is_resetting_out v q))) on).0 in
    out (busy_within r x holds q (or_left (is_restless y) (threshold_at x q).is_above (or_left (is_ending y.state) (is_due y.due) (silent_ends y.state silent)))))

pub low_fails : (v : EndView) (x : Table) (r : Span) (q : ℕ) → Holds r x → (IsWithin r q → ⊥) → is_low v x q ≡ false
low_fails v x r q holds out =
    false_from_ne_true (is_low v x q) (λ on.
    let t = threshold_at x q in
    let above = (and_parts t.is_above (nat_le (buffered v q) t.bytes) on).0 in
    out (busy_within r x holds q (or_right (is_restless (stream_at x q)) t.is_above above)))

not_due : (d : Due) → is_due d ≡ false → d ≡ Nothing
not_due Nothing off = refl
not_due Acknowledgement off = absurd (cc)
not_due Reset off = absurd (cc)

pub nothing_due : (x : Table) (r : Span) (q : ℕ) → Holds r x → (IsWithin r q → ⊥) → (stream_at x q).due ≡ Nothing
nothing_due x r q holds out =
    let y = stream_at x q in
    let idle = false_from_ne_true (is_busy y (threshold_at x q)) (λ on. out (busy_within r x holds q on)) in
    let still = (or_parts (is_restless y) (threshold_at x q).is_above idle).0 in
    not_due y.due (or_parts (is_ending y.state) (is_due y.due) still).1

-- ---- a search in the range

pub search_begins : (test : ℕ → Bool) (x : Table) (r : Span) → Holds r x → ((q : ℕ) → (IsWithin r q → ⊥) → test q ≡ false)
    → first_from test 0 (length x.streams) ≡ first_from test r.low (length x.streams - r.low)
search_begins test x r holds fails = first_from_start test r.low (length x.streams) (let a = holds.0 in let b = holds.1 in omega (arith, a, b)) (λ q less. fails q (λ in_r. let low = in_r.0 in omega (arith, low, less)))

pub search_ends : (test : ℕ → Bool) (x : Table) (r : Span) (i : ℕ) → r.high ≤ i → ((q : ℕ) → (IsWithin r q → ⊥) → test q ≡ false) → first_from test i (length x.streams - i) ≡ None
search_ends test x r i past fails = none_from test i (length x.streams) (λ q low. fails q (λ in_r. let high = in_r.1 in omega (arith, past, low, high)))

-- there is none in the range
pub nothing_within : (test : ℕ → Bool) (x : Table) (r : Span) → Holds r x → r.high ≤ r.low → ((q : ℕ) → (IsWithin r q → ⊥) → test q ≡ false) → None ≡ first_from test 0 (length x.streams)
nothing_within test x r holds none fails = sym (search_begins test x r holds fails ∙ search_ends test x r r.low none fails)
