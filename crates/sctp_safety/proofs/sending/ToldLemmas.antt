-- A message by its ticket is reported as it is: acknowledged, abandoned, and what `abandon` answers.
use Rattle.std.proofs.Common.{◌≡◌, ℕ, inl, inr, Bool, true, false, not, ◌&&◌, [], ◌∷◌, Option, Some, None, refl, subst, arith}
use Rattle.std.specs.Prelude.{nat_lt, nat_le, unwrap_or, option_map}
use Rattle.std.proofs.lemmas.Bool.{and_parts, and_from}
use Rattle.std.proofs.lemmas.Bool.Decides.{nat_tests}
use Rattle.sctp_model.specs.messages.Format.{Format}
use Rattle.sctp_model.specs.messages.Plan.{Message, IsComplete, IsClosed}
use Rattle.sctp_model.specs.sender.SenderView.{SenderView}
use Rattle.sctp_model.specs.sender.Words.{when, first_there, some_passes}
use Rattle.sctp_model.specs.sender.Entries.{is_in_part}
use Rattle.sctp_model.specs.sender.Abandoning.{Name, name_of, has_uncovered, is_covered, is_abandoned, Withdrawn, Abandoned, Acknowledged, Unknown, Reliable, numbered_answer, abandon_answer}
use Rattle.sctp_model.specs.sender.Readers.{is_acknowledged, acknowledged, abandoned}
use Rattle.sctp_model.specs.sender.Reached.{IsReached}
use Rattle.sctp_model.proofs.sender.EndLaws.{end_given}
use Rattle.sctp_safety.specs.Way.{with_sender}
use Rattle.sctp_safety.specs.Told.{HasNumber, WasAbandoned, WasAcknowledged, IsAnswered, Has_none, Was_not_given, Was_abandoned, Was_acknowledged, Is_abandoned, Must_be_kept, AcknowledgedIsTold, AbandonedIsTold, AnswerIsTold}
use Rattle.sctp_safety.proofs.moves.Facts.{IsOrderedPlan}
use Rattle.sctp_safety.proofs.plan.InPart.{AreEndsLast, in_part_open}
use Rattle.sctp_safety.proofs.moves.UsualLemmas.{good_usual}
use Rattle.sctp_safety.proofs.sending.OrderlyCalls.{shadow, is_shadowed}
use Rattle.sctp_safety.proofs.plan.NameFacts.{never_both, has_number, is_named, closed_unless_in_part, all_covered, covered_all}

not_true : (b : Bool) → not b ≡ true → b ≡ false
not_true true is = absurd (cc)
not_true false is = refl

off_of : (b : Bool) → (b ≡ true → ⊥) → b ≡ false
off_of true never = absurd (never refl)
off_of false never = refl

-- what a plan that calls reach is
pub record IsInOrder (f : Format) (v : SenderView) : Type 0 where
  pub format : Format
  pub plan : IsOrderedPlan format v.plan
  pub ends : AreEndsLast v.plan

pub in_order : (f : Format) (v : SenderView) → IsReached f v → IsInOrder f v
in_order f v h =
    let k = is_shadowed f v h in
    record { format = k.base.format; plan = (good_usual (with_sender k.base (shadow v)) k.usual).arranged; ends = k.usual.order.ends }

-- the name of a message that has the ticket
abbrev name_in : (v : SenderView) (t : ℕ) → HasNumber v t → Name
name_in v t h = record { lane = h.lane; number = h.number }

module _ (f : Format) (v : SenderView) (reached : IsReached f v) (t : ℕ) where
  o : IsInOrder f v
  o = in_order f v reached

  pub found : (h : HasNumber v t) → name_of v t ≡ Some (name_in v t h)
  found h = is_named o.format v o.plan t h.lane h.number h.message h.named h.ticket

  abbrev pub number_of : (n : Name) → name_of v t ≡ Some n → HasNumber v t
  number_of n is = let r = has_number v t n is in record { lane = n.lane; number = n.number; message = r.0; named = r.1; ticket = r.2 }

  pub none_has : name_of v t ≡ None → HasNumber v t → ⊥
  none_has none h = let some = found h in absurd (cc)

  -- ---- acknowledged whole

  pub acknowledged_name : (n : Name) → name_of v t ≡ Some n → is_covered v n ≡ true → is_abandoned v n ≡ false → WasAcknowledged v t
  acknowledged_name n is covered kept = record { has = h; kept = kept; complete = by_close closed; covered = all_covered v n.lane n.number (not_true (has_uncovered v n) parts.1) }
    where
      h : HasNumber v t
      h = number_of n is

      parts : (not (is_in_part v n.lane n.number) ≡ true) × (not (has_uncovered v n) ≡ true)
      parts = and_parts (not (is_in_part v n.lane n.number)) (not (has_uncovered v n)) covered

      closed : IsClosed v.plan n.lane n.number
      closed = closed_unless_in_part o.format v o.plan o.ends n.lane n.number h.message h.named (not_true (is_in_part v n.lane n.number) parts.0)

      by_close : IsClosed v.plan n.lane n.number → IsComplete v.plan n.lane n.number h.message
      by_close (inl mark) = absurd (never_both (v.abandoned n.lane n.number) (end_given f v mark.0 n.lane n.number reached mark.1) kept)
      by_close (inr (m, whole)) =
          let named = h.named in
          let there = whole.0 in
          let same : m ≡ h.message = cc in
          subst (λ (y : Message). IsComplete v.plan n.lane n.number y) same whole

  covered_name : (w : WasAcknowledged v t) → is_covered v (name_in v t w.has) ≡ true
  covered_name w =
      let whole : is_in_part v w.has.lane w.has.number ≡ false =
      off_of (is_in_part v w.has.lane w.has.number) (λ on. in_part_open o.format v o.plan o.ends w.has.lane w.has.number on (inr (w.has.message, w.complete))) in
      let none = covered_all o.format v o.plan w.has.lane w.has.number w.has.message w.complete w.covered in
      rw (whole, none) refl

  told : acknowledged v t ≡ true → WasAcknowledged v t
  told is = by_name (name_of v t) refl is
    where
      by_name : (x : Option Name) → name_of v t ≡ x → some_passes (is_acknowledged v) x ≡ true → WasAcknowledged v t
      by_name None none here = absurd (cc)
      by_name (Some n) some here = let parts = and_parts (is_covered v n) (not (is_abandoned v n)) here in acknowledged_name n some parts.0 (not_true (is_abandoned v n) parts.1)

  pub tells : WasAcknowledged v t → acknowledged v t ≡ true
  tells w =
      let name = found w.has in
      let cover = covered_name w in
      let kept = w.kept in
      rw name (rw cover (rw kept refl))

  -- ---- abandoned

  given : abandoned v t ≡ true → WasAbandoned v t
  given is = by_name (name_of v t) refl is
    where
      by_name : (x : Option Name) → name_of v t ≡ x → some_passes (is_abandoned v) x ≡ true → WasAbandoned v t
      by_name None none here = absurd (cc)
      by_name (Some n) some here = record { has = number_of n some; given = here }

  pub gives : WasAbandoned v t → abandoned v t ≡ true
  gives w = let name = found w.has in rw name w.given

  -- ---- what `abandon` answers

  -- of a message with a name
  answer_named : (n : Name) → name_of v t ≡ Some n → IsAnswered v t (numbered_answer v n)
  answer_named n is = by_tests (is_abandoned v n) refl (is_covered v n) refl (v.partial) refl
    where
      not_given : is_abandoned v n ≡ false → WasAbandoned v t → ⊥
      not_given kept w = let on = gives w in let off : abandoned v t ≡ false = rw is kept in never_both (abandoned v t) on off

      not_covered : is_covered v n ≡ false → WasAcknowledged v t → ⊥
      not_covered off w = let on = tells w in let never : acknowledged v t ≡ false = rw is (rw off refl) in never_both (acknowledged v t) on never

      by_tests : (a : Bool) → is_abandoned v n ≡ a → (c : Bool) → is_covered v n ≡ c → (p : Bool) → v.partial ≡ p
          → IsAnswered v t (unwrap_or (first_there (when a Abandoned ∷ when c Acknowledged ∷ when (not p) Reliable ∷ [])) Abandoned)
      by_tests true on c cover p partial = Was_abandoned (record { has = number_of n is; given = on })
      by_tests false kept true cover p partial = Was_acknowledged (acknowledged_name n is cover kept)
      by_tests false kept false cover true partial = Is_abandoned (number_of n is) (not_given kept) (not_covered cover) partial
      by_tests false kept false cover false partial = Must_be_kept (number_of n is) (not_given kept) (not_covered cover) partial

  answered : IsAnswered v t (abandon_answer v t)
  answered = by_name (name_of v t) refl (nat_lt 0 t && nat_le t v.tickets) refl
    where
      by_name : (x : Option Name) → name_of v t ≡ x → (b : Bool) → (nat_lt 0 t && nat_le t v.tickets) ≡ b
          → IsAnswered v t (unwrap_or (first_there (option_map (numbered_answer v) x ∷ when b Withdrawn ∷ [])) Unknown)
      by_name (Some n) some b ticket = answer_named n some
      by_name None none true ticket =
          let parts = and_parts (nat_lt 0 t) (nat_le t v.tickets) ticket in
          Has_none (none_has none) (let lt = parts.0 in grind (arith, nat_tests)) (let le = parts.1 in grind (arith, nat_tests))
      by_name None none false ticket =
          Was_not_given (none_has none) (λ is. never_both (nat_lt 0 t && nat_le t v.tickets)
          (and_from (nat_lt 0 t) (nat_le t v.tickets) (let lt = is.0 in grind (arith, nat_tests)) (let le = is.1 in grind (arith, nat_tests))) ticket)

pub acknowledged_is_told : AcknowledgedIsTold
acknowledged_is_told f v t reached = (told f v reached t, tells f v reached t)

pub abandoned_is_told : AbandonedIsTold
abandoned_is_told f v t reached = (given f v reached t, gives f v reached t)

pub answer_is_told : AnswerIsTold
answer_is_told f v t reached = answered f v reached t
