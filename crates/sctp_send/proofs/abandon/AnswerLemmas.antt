-- What `abandon` answers, from what a sender keeps.
use Rattle.std.proofs.Common.{subst, ◌≡◌, ℕ, suc, ◌-◌, ◌<◌, ◌≤◌, ◌⊎◌, inl, inr, List, length, Bool, true, false, Option, Some, None, refl, sym, ap, ◌∙◌, arith, get_or}
use Rattle.std.specs.Prelude.{nat_lt, nat_le, not, ◌&&◌, if◌then◌else◌}
use Rattle.std.specs.Option.{option_map_or}
use Rattle.std.proofs.lemmas.Bool.Decides.{nat_tests}
use Rattle.sctp_model.specs.messages.Format.{Format}
use Rattle.sctp_model.specs.sender.SenderView.{Queued, SenderView}
use Rattle.sctp_model.specs.sender.Abandoning as gone
use Rattle.sctp_model.specs.sender.Abandoning.{Name, waits, name_of, is_covered, is_abandoned, may_abandon, may_abandon_named, abandon_answer, abandon_after}
use Rattle.sctp_model.proofs.sender.AbandonCases.{without_none}
use Rattle.sctp_model.proofs.sender.OwnLaws.{found_owns}
use Rattle.sctp_model.proofs.sender.TicketLaws.{IsTicketed, is_ticketed}
use Rattle.sctp_send.specs.SenderKept.{Kept}
use Rattle.sctp_send.specs.SenderStands.{fate_here, fate_named, Keeps}
use Rattle.sctp_send.specs.inner.Walks.{is_numbered_fate, any_rest, any_uncovered}
use Rattle.sctp_send.specs.declared.kept.message.Fate.{Fate}
use Rattle.sctp_send.specs.declared.kept.message.Fate.TheVariants.{Queued as StillQueued, Numbered, Withdrawn, Abandoned as WasAbandoned}
use Rattle.sctp_send.proofs.ReaderLemmas.{fate_at}
use Rattle.sctp_send.proofs.TicketLemmas.{kept_goes_on, kept_uncovered}
use Rattle.sctp_send.proofs.abandon.AbandonedLemmas.{IsKept, kept_name, kept_answer, same_after, reliable_after}
use Rattle.sctp_send.proofs.QueueLemmas.{fates_given}

-- ---- the answers

-- what is kept tells whether it is acknowledged whole
pub whole_is : (f : Format) (s : Kept) (v : SenderView) (t : ℕ) (n : Name) → Keeps f s v → IsKept v t n → (not (any_rest t s.tracks) && not (any_uncovered t s.items)) ≡ is_covered v n
whole_is f s v t n k m = rw (kept_goes_on f s v t n k m.named, kept_uncovered f s v t n k m.named) refl

-- an answer for a message with a number, and the view after it
pub record IsAnswered (v : SenderView) (t : ℕ) (a : gone.AbandonAnswer) : Type 0 where
  pub answer : a ≡ abandon_answer v t
  pub after : abandon_after v t ≡ v

pub answered_whole : (f : Format) (s : Kept) (v : SenderView) (t : ℕ) → Keeps f s v → is_numbered_fate (fate_here v t) ≡ true → (not (any_rest t s.tracks) && not (any_uncovered t s.items)) ≡ true → IsAnswered v t gone.Acknowledged
answered_whole f s v t k on whole =
    let m = kept_name f v t k.reached on in
    let covered = sym (whole_is f s v t m.0 k m.1) ∙ whole in
    record { answer = sym (kept_answer v t m.0 m.1 ∙ rw covered refl); after = same_after v t m.0 m.1 covered }

pub answered_reliable : (f : Format) (s : Kept) (v : SenderView) (t : ℕ) → Keeps f s v → is_numbered_fate (fate_here v t) ≡ true → (not (any_rest t s.tracks) && not (any_uncovered t s.items)) ≡ false → s.partial ≡ false
    → IsAnswered v t gone.Reliable
answered_reliable f s v t k on missing fixed =
    let m = kept_name f v t k.reached on in
    let uncovered = sym (whole_is f s v t m.0 k m.1) ∙ missing in
    let partial = sym k.holds.partial ∙ fixed in
    record { answer = sym (kept_answer v t m.0 m.1 ∙ rw (uncovered, partial) refl); after = reliable_after v t m.0 m.1 partial }

-- what is abandoned by it
pub record IsAbandonedNow (v : SenderView) (t : ℕ) : Type 0 where
  pub name : Name
  pub kept : IsKept v t name
  pub uncovered : is_covered v name ≡ false
  pub partial : v.partial ≡ true
  pub answer : gone.Abandoned ≡ abandon_answer v t

pub answered_abandoned : (f : Format) (s : Kept) (v : SenderView) (t : ℕ) → Keeps f s v → is_numbered_fate (fate_here v t) ≡ true → (not (any_rest t s.tracks) && not (any_uncovered t s.items)) ≡ false → s.partial ≡ true → IsAbandonedNow v t
answered_abandoned f s v t k on missing free =
    let m = kept_name f v t k.reached on in
    let uncovered = sym (whole_is f s v t m.0 k m.1) ∙ missing in
    let partial = sym k.holds.partial ∙ free in
    record { name = m.0; kept = m.1; uncovered = uncovered; partial = partial; answer = sym (kept_answer v t m.0 m.1 ∙ rw (uncovered, partial) refl) }

-- where it may be abandoned, it is; and where it is, it may be
pub may_be_abandoned : (f : Format) (s : Kept) (v : SenderView) (t : ℕ) → Keeps f s v → is_numbered_fate (fate_here v t) ≡ true → may_abandon v t ≡ true → IsAbandonedNow v t
may_be_abandoned f s v t k on may =
    let m = kept_name f v t k.reached on in
    let named : may_abandon_named v m.0 ≡ true = sym (ap (λ (o : Option Name). option_map_or (may_abandon_named v) o (waits t v.queue)) m.1.named) ∙ may in
    let uncovered : is_covered v m.0 ≡ false = grind (arith, named) in
    let partial : v.partial ≡ true = grind (arith, named) in
    record { name = m.0; kept = m.1; uncovered = uncovered; partial = partial; answer = sym (kept_answer v t m.0 m.1 ∙ rw (uncovered, partial) refl) }

pub abandoned_may : (v : SenderView) (t : ℕ) → IsAbandonedNow v t → may_abandon v t ≡ true
abandoned_may v t g = grind (arith, g.kept.named, g.partial, g.kept.kept, g.uncovered)

-- ---- by the byte of fate

-- the fate that was read is that of the ticket
pub fate_read : {f : Format} {s k : Kept} {x y : Fate} (v : SenderView) (t : ℕ) → s ≡ k → Keeps f k v → 0 < t → t ≤ length s.fates → x ≡ get_or s.fates (t - 1) x → x ≡ y → fate_here v t ≡ y
fate_read {f = f} {s = s} {x = x} v t same stands some le read is =
    let keeps = subst (λ (k : Kept). Keeps f k v) (sym same) stands in
    let here : suc (t - 1) ≡ t = omega arith in
    sym (fate_at f s v (t - 1) x keeps (omega arith) ∙ ap (fate_here v) here) ∙ sym read ∙ is

-- what has no number, and doesn't wait, stays as it is
nothing_done : (v : SenderView) (t : ℕ) → waits t v.queue ≡ false → name_of v t ≡ None → abandon_after v t ≡ v
nothing_done v t off is =
    ap (λ (o : Option Name). option_map_or (gone.abandon_named v) o (record v { queue = gone.without t v.queue })) is ∙ ap (λ (qs : List Queued). record v { queue = qs }) (without_none t v.queue off)

-- a ticket that was not given
pub answered_unknown : (f : Format) (s : Kept) (v : SenderView) (t : ℕ) → Keeps f s v → (t ≡ 0) ⊎ (length s.fates < t) → IsAnswered v t gone.Unknown
answered_unknown f s v t k out = by_wait (waits t v.queue) refl
  where
    h : IsTicketed v
    h = is_ticketed f v k.reached

    never : 0 < t → t ≤ v.tickets → ⊥
    never low high = let given = fates_given f s v k in elim out [
      | inl none ↦ omega arith
      | inr over ↦ omega (arith, given)
    ]

    unknown : (nat_lt 0 t && nat_le t v.tickets) ≡ false
    unknown = grind (arith, nat_tests, never)

    by_name : waits t v.queue ≡ false → (o : Option Name) → name_of v t ≡ o → IsAnswered v t gone.Unknown
    by_name off None is = record { answer = rw (is, unknown) refl; after = nothing_done v t off is }
    by_name off (Some n) is = let own = found_owns v.plan v.tickets t v.plan.entries v.plan.entries n h.owned is in let low = own.0 t own.1 in absurd (never low.0 low.1)

    by_wait : (b : Bool) → waits t v.queue ≡ b → IsAnswered v t gone.Unknown
    by_wait true is = let w = h.waiting t is in absurd (never w.0 w.1)
    by_wait false off = by_name off (name_of v t) refl

-- by its fate, where it isn't numbered
abbrev pub AnsweredBy : SenderView → ℕ → Fate → Type 0
AnsweredBy v t StillQueued = gone.Withdrawn ≡ abandon_answer v t × (waits t v.queue ≡ true)
AnsweredBy v t Numbered = Unit {0}
AnsweredBy v t Withdrawn = IsAnswered v t gone.Withdrawn
AnsweredBy v t WasAbandoned = IsAnswered v t gone.Abandoned

answered_by : (f : Format) (s : Kept) (v : SenderView) (t : ℕ) → Keeps f s v → 0 < t → t ≤ length s.fates → AnsweredBy v t (fate_here v t)
answered_by f s v t k low high = by_wait (waits t v.queue) refl
  where
    given : (nat_lt 0 t && nat_le t v.tickets) ≡ true
    given = let count = fates_given f s v k in grind (arith, nat_tests)

    by_kept : (n : Name) → waits t v.queue ≡ false → name_of v t ≡ Some n → (b : Bool) → is_abandoned v n ≡ b → AnsweredBy v t (if b then WasAbandoned else Numbered)
    by_kept n off is false kept = tt
    by_kept n off is true on = record {
      answer = rw (is, on) refl;
      after = grind (arith, is, on);
    }

    by_name : waits t v.queue ≡ false → (o : Option Name) → name_of v t ≡ o → AnsweredBy v t (fate_named v o)
    by_name off None is = record { answer = rw (is, given) refl; after = nothing_done v t off is }
    by_name off (Some n) is = by_kept n off is (is_abandoned v n) refl

    by_wait : (b : Bool) → waits t v.queue ≡ b → AnsweredBy v t (if b then StillQueued else fate_named v (name_of v t))
    by_wait true on = (rw ((is_ticketed f v k.reached).waiting t on).2 (rw given refl), on)
    by_wait false off = by_name off (name_of v t) refl

-- by the fate that was read
pub answered_read : {f : Format} {s k : Kept} {x y : Fate} (v : SenderView) (t : ℕ) → s ≡ k → Keeps f k v → 0 < t → t ≤ length s.fates → x ≡ get_or s.fates (t - 1) x → x ≡ y → AnsweredBy v t y
answered_read {f = f} {s = s} v t same stands some le read is =
    subst (AnsweredBy v t) (fate_read v t same stands some le read is) (answered_by f s v t (subst (λ (k : Kept). Keeps f k v) (sym same) stands) some le)
