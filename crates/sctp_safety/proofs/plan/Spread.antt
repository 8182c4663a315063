-- Numbers of a lane are spread over the plan: two of them lie no further from each other than their indexes.
use Rattle.std.proofs.Common.{◌≡◌, ℕ, zero, suc, ◌+◌, ◌-◌, ◌<◌, ◌≤◌, List, [], ◌∷◌, length, slice_get, Some, refl, subst, arith}
use Rattle.sctp_model.specs.messages.Format.{Format, Lane}
use Rattle.sctp_model.specs.messages.Plan.{Entry, Part, Plan, entry_at, IsOf}
use Rattle.sctp_safety.proofs.moves.Facts.{IsOrderedPlan}
use Rattle.sctp_safety.proofs.lists.Basics.{slice_get-within}
use Rattle.sctp_safety.proofs.plan.PlanLemmas.{message_of}
use Rattle.sctp_safety.proofs.plan.OrderlyPlan.{orderly_when_arranged}

-- ---- lists

there_is : {A : Type 0} (xs : List A) (n : ℕ) → n < length xs → (x : A) × (slice_get xs n ≡ Some x)
there_is [] n within = absurd (omega (arith, within))
there_is (x ∷ xs) zero within = (x, refl)
there_is (x ∷ xs) (suc n) within = there_is xs n (omega (arith, within))

-- below a number that is in use each number is
pub lower_to : {A : Type 0} (xs : List A) (low high : ℕ) (x : A) → low ≤ high → slice_get xs high ≡ Some x → (y : A) × (slice_get xs low ≡ Some y)
lower_to xs low high x below there = let within = slice_get-within xs high x there in there_is xs low (omega (arith, below, within))

-- ---- numbers that are at places

-- If higher numbers are at higher places, and each number is somewhere that has one above it, places are as far apart as numbers.
module _ (Stands : ℕ → ℕ → Type 0) (higher : (n o i j : ℕ) → n < o → Stands n i → Stands o j → i < j)
    (lower : (o j : ℕ) → Stands (suc o) j → (i : ℕ) × Stands o i) where
  pub places_apart : (steps n o i j : ℕ) → o ≡ n + suc steps → Stands n i → Stands o j → i + (o - n) ≤ j
  places_apart zero n o i j is here there = omega (arith, is, higher n o i j (omega (arith, is)) here there)
  places_apart (suc steps) n o i j is here there =
      let one : o ≡ suc (o - 1) = omega (arith, is) in
      let below = lower (o - 1) j (subst (λ (k : ℕ). Stands k j) one there) in
      let far = places_apart steps n (o - 1) i below.0 (omega (arith, is)) here below.1 in
      let near = higher (o - 1) o below.0 j (omega (arith, is)) below.1 there in
      omega (arith, is, far, near)

-- ---- a lane

module _ (f : Format) (p : Plan) (arranged : IsOrderedPlan f p) (l : Lane) where
  -- the number's message has an entry there
  StandsAt : ℕ → ℕ → Type 0
  StandsAt n i = (e : Entry) × (entry_at p i ≡ Some e) × IsOf l n e

  in_order : (n o i j : ℕ) → n < o → StandsAt n i → StandsAt o j → i < j
  unfolding StandsAt
  in_order n o i j less (e, here, own) (d, there, its) = (orderly_when_arranged f p arranged).counted l n o less i j e d here own there its

  each_below : (o j : ℕ) → StandsAt (suc o) j → (i : ℕ) × StandsAt o i
  unfolding StandsAt
  each_below o j (d, there, its) =
      let above = message_of f p arranged j d l (suc o) there its in
      let named = lower_to (p.messages l) o (suc o) above.0 (omega arith) above.1 in
      let first = arranged.begun l o named.0 named.1 in
      (first.0, (Part l o 0, first.1, (refl, refl)))

  pub spread : (n o i j : ℕ) (e d : Entry) → entry_at p i ≡ Some e → IsOf l n e → entry_at p j ≡ Some d → IsOf l o d → n < o → i + (o - n) ≤ j
  unfolding StandsAt
  spread n o i j e d here own there its less = places_apart StandsAt in_order each_below (o - suc n) n o i j (omega (arith, less)) (e, here, own) (d, there, its)
