-- If `abandon` answers that the message isn't given up, it changes nothing; and a message is abandoned only if partial reliability was agreed on (RFC 3758,
-- 3.5).
use Rattle.std.proofs.Common.{◌≡◌, ℕ, List, [], ◌∷◌, Bool, true, false, Option, Some, None, refl, sym, ap, ◌∙◌, arith}
use Rattle.std.specs.Prelude.{not, ◌&&◌, nat_lt, nat_le, if◌then◌else◌, unwrap_or, option_map}
use Rattle.std.specs.Option.{option_map_or}
use Rattle.std.proofs.lemmas.Bool.Decides.{nat_tests}
use Rattle.sctp_model.specs.messages.Format.{Format, Lane}
use Rattle.sctp_model.specs.sender.SenderView.{Queued, SenderView}
use Rattle.sctp_model.specs.sender.Words.{when, first_there}
use Rattle.sctp_model.specs.sender.Abandoning.{Name, name_of, waits, without, is_abandoned, is_covered, Withdrawn, Abandoned, Acknowledged, Reliable, Unknown, numbered_answer, abandon_answer, with_abandoned, abandon_named, abandon_after, gives_up}
use Rattle.sctp_model.specs.sender.Reached.{IsReached, Begins, Queues, Goes, Covers, Closes, Abandons, Repeats, Rebases}
use Rattle.sctp_model.proofs.sender.AbandonCases.{without_none, may_be_given}
use Rattle.sctp_model.proofs.sender.TicketLaws.{IsTicketed, is_ticketed}
use Rattle.sctp_model.proofs.sender.WishCases.{IsAssigned, Whole, Begun, Continued, after_wish}

-- ---- an answer that gives nothing up

module _ (v : SenderView) (t : ℕ) where
  by_tests : (n : Name) (a c p : Bool) → gives_up (unwrap_or (first_there (when a Abandoned ∷ when c Acknowledged ∷ when (not p) Reliable ∷ [])) Abandoned) ≡ false →
      (if p && (not a && not c) then with_abandoned v n else v) ≡ v
  by_tests n true c p off = absurd (cc)
  by_tests n false true true off = refl
  by_tests n false true false off = refl
  by_tests n false false true off = absurd (cc)
  by_tests n false false false off = refl

  by_range : IsTicketed v → name_of v t ≡ None → (w b : Bool) → waits t v.queue ≡ w → (nat_lt 0 t && nat_le t v.tickets) ≡ b →
      gives_up (unwrap_or (first_there (when b Withdrawn ∷ [])) Unknown) ≡ false → record v { queue = without t v.queue } ≡ v
  by_range h none w true waits_so range off = absurd (cc)
  by_range h none false false waits_so range off = ap (λ (qs : List Queued). record v { queue = qs }) (without_none t v.queue waits_so)
  by_range h none true false waits_so range off =
      let k = h.waiting t waits_so in
      let low = k.0 in
      let high = k.1 in
      let on : (nat_lt 0 t && nat_le t v.tickets) ≡ true = grind (arith, nat_tests, low, high) in
      let z : true ≡ false = sym on ∙ range in
      absurd (cc)

  by_name : IsTicketed v → (o : Option Name) → name_of v t ≡ o →
      gives_up (unwrap_or (first_there (option_map (numbered_answer v) o ∷ when (nat_lt 0 t && nat_le t v.tickets) Withdrawn ∷ [])) Unknown) ≡ false →
      option_map_or (abandon_named v) o (record v { queue = without t v.queue }) ≡ v
  by_name h None is off = by_range h is (waits t v.queue) (nat_lt 0 t && nat_le t v.tickets) refl refl off
  by_name h (Some n) is off = by_tests n (is_abandoned v n) (is_covered v n) v.partial off

pub gives_nothing : (f : Format) (v : SenderView) (t : ℕ) → IsReached f v → gives_up (abandon_answer v t) ≡ false → abandon_after v t ≡ v
gives_nothing f v t h off = by_name v t (is_ticketed f v h) (name_of v t) refl off

-- ---- only if partial reliability was agreed on

abbrev IsAgreedOn : SenderView → Type 0
IsAgreedOn v = (l : Lane) (n : ℕ) → v.abandoned l n ≡ true → v.partial ≡ true

by_abandon : (v : SenderView) (t : ℕ) → IsAgreedOn v → IsAgreedOn (abandon_after v t)
by_abandon v t same = by_name (name_of v t)
  where
    by_rule : (n : Name) (b : Bool) → (v.partial && (not (is_abandoned v n) && not (is_covered v n))) ≡ b → IsAgreedOn (if b then with_abandoned v n else v)
    by_rule n true may = λ l k on. (may_be_given v n may).0
    by_rule n false may = same

    by_name : (o : Option Name) → IsAgreedOn (option_map_or (abandon_named v) o (record v { queue = without t v.queue }))
    by_name None = same
    by_name (Some n) = by_rule n (v.partial && (not (is_abandoned v n) && not (is_covered v n))) refl

by_assigned : (f : Format) (v u : SenderView) → IsAgreedOn v → IsAssigned v f u → IsAgreedOn u
by_assigned f v u same (Whole q rest is) = same
by_assigned f v u same (Begun s q lt on first) = same
by_assigned f v u same (Continued s e lt on) = same

pub abandoned_is_agreed : (f : Format) (v : SenderView) → IsReached f v → (l : Lane) (n : ℕ) → v.abandoned l n ≡ true → v.partial ≡ true
abandoned_is_agreed f _ (Begins i s b r p most large) = λ l n on. absurd (cc)
abandoned_is_agreed f _ (Queues v l p b u n h free) = abandoned_is_agreed f v h
abandoned_is_agreed f _ (Goes v room w h next may) = after_wish IsAgreedOn f v w (abandoned_is_agreed f v h) (λ u a. by_assigned f v u (abandoned_is_agreed f v h) a) (λ u i same. same) next
abandoned_is_agreed f _ (Covers v x h none) = abandoned_is_agreed f v h
abandoned_is_agreed f _ (Closes v x h none) = abandoned_is_agreed f v h
abandoned_is_agreed f _ (Abandons v t h) = by_abandon v t (abandoned_is_agreed f v h)
abandoned_is_agreed f _ (Repeats v test h) = abandoned_is_agreed f v h
abandoned_is_agreed f _ (Rebases v x h) = abandoned_is_agreed f v h
