-- Which tickets a call of abandon makes abandoned: its own at most.
use Rattle.std.proofs.Common.{◌≡◌, ℕ, zero, suc, ◌<◌, ◌≤◌, ◌⊎◌, inl, inr, true, false, Bool, List, [], ◌∷◌, ◌++◌, Option, Some, None, refl, sym, ap, ◌∙◌, arith}
use Rattle.std.specs.Prelude.{not, ◌&&◌, if◌then◌else◌}
use Rattle.std.proofs.lemmas.Bool.{cases_lt, cases_eq}
use Rattle.sctp_model.specs.messages.Format.{Format}
use Rattle.sctp_model.specs.sender.SenderView.{SenderView}
use Rattle.sctp_model.specs.sender.Words.{some_passes}
use Rattle.sctp_model.specs.sender.Abandoning.{Name, name_of, is_abandoned, with_abandoned, abandon_after}
use Rattle.sctp_model.specs.sender.Readers.{abandoned}
use Rattle.sctp_model.specs.sender.Reached.{IsReached}
use Rattle.sctp_model.specs.world.World.{if_newly_abandoned, newly_abandoned}
use Rattle.sctp_model.proofs.sender.AbandonCases.{after_abandon}
use Rattle.sctp_model.proofs.sender.GivenLaws.{names_given, others_given}
use Rattle.sctp_model.proofs.sender.OwnLaws.{found_owns}
use Rattle.sctp_model.proofs.sender.TicketLaws.{is_ticketed}
use Rattle.sctp_safety.specs.SenderCalls.{AbandonsItsOwnAlone}

-- ---- tickets that stay as they are

-- what was abandoned before and is, or wasn't and isn't, is not newly abandoned
stays : (v u : SenderView) (x : ℕ) → abandoned u x ≡ abandoned v x → if_newly_abandoned v u x ≡ []
stays v u x same = ap (λ (b : Bool). if b && not (abandoned v x) then x ∷ [] else []) same ∙ by_test (abandoned v x)
  where
    by_test : (b : Bool) → (if b && not b then x ∷ [] else []) ≡ []
    by_test true = refl
    by_test false = refl

-- another ticket
other_stays : (f : Format) (v : SenderView) (t x : ℕ) → IsReached f v → (t ≡ x → ⊥) → abandoned (abandon_after v t) x ≡ abandoned v x
other_stays f v t x h ne = after_abandon (λ (u : SenderView). abandoned u x ≡ abandoned v x) v t refl (λ on. refl) (λ n is kept. given n is)
  where
    given : (n : Name) → name_of v t ≡ Some n → abandoned (with_abandoned v n) x ≡ abandoned v x
    given n is = ap (some_passes (is_abandoned (with_abandoned v n))) (names_given f v t n h is x) ∙ by_name (name_of v x) refl
      where
        by_name : (o : Option Name) → name_of v x ≡ o → some_passes (is_abandoned (with_abandoned v n)) o ≡ some_passes (is_abandoned v) o
        by_name None also = refl
        by_name (Some m) also = others_given f v t x n m h is also ne

-- one that was never given
ungiven_stays : (f : Format) (v : SenderView) (t : ℕ) → IsReached f v → (t ≡ 0) ⊎ (v.tickets < t) → abandoned (abandon_after v t) t ≡ abandoned v t
ungiven_stays f v t h out = after_abandon (λ (u : SenderView). abandoned u t ≡ abandoned v t) v t refl (λ on. refl) (λ n is kept. absurd (never n is))
  where
    never : (n : Name) → name_of v t ≡ Some n → ⊥
    never n is =
        let own = found_owns v.plan v.tickets t v.plan.entries v.plan.entries n (is_ticketed f v h).owned is in
        let range = own.0 t own.1 in
        elim out [
          | inl none ↦ omega (arith, none, range.0)
          | inr over ↦ omega (arith, over, range.1)
        ]

-- ---- all tickets

module _ (f : Format) (v : SenderView) (t : ℕ) (h : IsReached f v) where
  abbrev u : SenderView
  u = abandon_after v t

  none_below : (n : ℕ) → (t ≡ 0) ⊎ (n < t) → newly_abandoned v u n ≡ []
  none_below zero out = refl
  none_below (suc n) out = ap (λ (xs : List ℕ). xs ++ if_newly_abandoned v u (suc n)) (none_below n (lower out)) ∙ stays v u (suc n) (other_stays f v t (suc n) h (apart out))
    where
      lower : (t ≡ 0) ⊎ (suc n < t) → (t ≡ 0) ⊎ (n < t)
      lower (inl none) = inl none
      lower (inr below) = inr (omega (arith, below))

      apart : (t ≡ 0) ⊎ (suc n < t) → t ≡ suc n → ⊥
      apart (inl none) same = omega (arith, none, same)
      apart (inr below) same = omega (arith, below, same)

  itself_alone : (n : ℕ) → 0 < t → t ≤ n → newly_abandoned v u n ≡ if_newly_abandoned v u t
  itself_alone zero some within = absurd (omega arith)
  itself_alone (suc n) some within = by_last (cases_eq t (suc n)) (λ lower. itself_alone n some lower)
    where
      no_more : (xs : List ℕ) → xs ++ [] ≡ xs
      no_more [] = refl
      no_more (x ∷ xs) = ap (λ (ys : List ℕ). x ∷ ys) (no_more xs)

      by_last : (t ≡ suc n) ⊎ (t ≡ suc n → ⊥) → (t ≤ n → newly_abandoned v u n ≡ if_newly_abandoned v u t)
          → newly_abandoned v u n ++ if_newly_abandoned v u (suc n) ≡ if_newly_abandoned v u t
      by_last (inl same) further =
          ap (λ (xs : List ℕ). xs ++ if_newly_abandoned v u (suc n)) (none_below n (inr (omega (arith, same)))) ∙ ap (if_newly_abandoned v u) (sym same)
      by_last (inr other) further =
          ap (λ (xs : List ℕ). newly_abandoned v u n ++ xs) (stays v u (suc n) (other_stays f v t (suc n) h other))
          ∙ no_more (newly_abandoned v u n) ∙ further (omega (arith, other))

  pub one_ticket : (n : ℕ) → n ≡ v.tickets → newly_abandoned v u n ≡ if_newly_abandoned v u t
  one_ticket n is = by_range (cases_lt 0 t) (cases_lt n t)
    where
      none : (t ≡ 0) ⊎ (v.tickets < t) → (t ≡ 0) ⊎ (n < t) → newly_abandoned v u n ≡ if_newly_abandoned v u t
      none out over = none_below n over ∙ sym (stays v u t (ungiven_stays f v t h out))

      by_range : (0 < t) ⊎ (t ≤ 0) → (n < t) ⊎ (t ≤ n) → newly_abandoned v u n ≡ if_newly_abandoned v u t
      by_range (inr low) other = none (inl (omega arith)) (inl (omega arith))
      by_range (inl some) (inl over) = none (inr (omega (arith, is, over))) (inr over)
      by_range (inl some) (inr within) = itself_alone n some within

same_tickets : (v : SenderView) (t : ℕ) → (abandon_after v t).tickets ≡ v.tickets
same_tickets v t = after_abandon (λ (u : SenderView). u.tickets ≡ v.tickets) v t refl (λ on. refl) (λ n is kept. refl)

pub abandons_its_own_alone : AbandonsItsOwnAlone
abandons_its_own_alone f v t h = one_ticket f v t h (abandon_after v t).tickets (same_tickets v t)
