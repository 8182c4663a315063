-- Runs that grow by an event at a time.
use Rattle.std.proofs.Common.{◌≡◌, ℕ, zero, suc, ◌+◌, ◌<◌, Bool, true, false, List, [], ◌∷◌, ◌++◌, length, take, get_or, Option, Some, refl, ap, ◌∙◌, arith}
use Rattle.std.proofs.lemmas.List.{take_more}
use Rattle.sctp_model.specs.world.World.{World}
use Rattle.sctp_model.specs.world.Events as meaning
use Rattle.sctp_model.specs.world.Steps.{Step, PassesThrough, last_of}
use Rattle.sctp_events.specs.Events.{outcome_meaning}
use Rattle.sctp_pair.specs.Happens.{Means}
use Rattle.sctp_pair.specs.PairRuns.{AllMean, answers_of}
use Rattle.sctp_events.specs.declared.event.Event.{Event}
use Rattle.sctp_events.specs.declared.outcome.Outcome.{Outcome}

pub passes_push : (w : World) (es : List meaning.Event) (os : List (Option meaning.Outcome)) (vs : List World) (e : meaning.Event) (o : Option meaning.Outcome) (x : World) →
    PassesThrough w es os vs → Step (last_of w vs) e o x → PassesThrough w (es ++ e ∷ []) (os ++ o ∷ []) (vs ++ x ∷ [])
passes_push w [] [] [] e o x run step = (step, tt)
passes_push w (f ∷ es) (a ∷ os) (v ∷ vs) e o x (first, rest) step = (first, passes_push v es os vs e o x rest step)
passes_push w [] (a ∷ os) vs e o x run step = absurd run
passes_push w [] [] (v ∷ vs) e o x run step = absurd run
passes_push w (f ∷ es) [] vs e o x run step = absurd run
passes_push w (f ∷ es) (a ∷ os) [] e o x run step = absurd run

pub last_push : (w : World) (vs : List World) (x : World) → last_of w (vs ++ x ∷ []) ≡ x
last_push w [] x = refl
last_push w (v ∷ vs) x = last_push v vs x

mean_push : (events : List Event) (es : List meaning.Event) (event : Event) (e : meaning.Event) → AllMean events es → Means event e → AllMean (events ++ event ∷ []) (es ++ e ∷ [])
mean_push [] [] event e all means = (means, tt)
mean_push (x ∷ xs) (y ∷ ys) event e (first, rest) means = (first, mean_push xs ys event e rest means)
mean_push [] (y ∷ ys) event e all means = absurd all
mean_push (x ∷ xs) [] event e all means = absurd all

-- one event more of a list has come
pub mean_more : (events : List Event) (i : ℕ) (event : Event) (es : List meaning.Event) (e : meaning.Event) → i < length events → event ≡ get_or events i event →
    AllMean (take i events) es → Means event e → AllMean (take (i + 1) events) (es ++ e ∷ [])
mean_more events i event es e less is all means = rw (take_more events i event less, ← is) (mean_push (take i events) es event e all means)

-- one outcome more was told
pub told_push : (outcomes : List Outcome) (answers : List (Option meaning.Outcome)) (outcome : Outcome) → answers ≡ answers_of outcomes →
    answers ++ Some (outcome_meaning outcome) ∷ [] ≡ answers_of (outcomes ++ outcome ∷ [])
told_push outcomes answers outcome is =
    ap (λ (os : List (Option meaning.Outcome)). os ++ Some (outcome_meaning outcome) ∷ []) is ∙ back outcomes
  where
    back : (os : List Outcome) → answers_of os ++ Some (outcome_meaning outcome) ∷ [] ≡ answers_of (os ++ outcome ∷ [])
    back [] = refl
    back (x ∷ xs) = ap (λ (ys : List (Option meaning.Outcome)). Some (outcome_meaning x) ∷ ys) (back xs)

-- room was wanting, so some was wanted
pub some_wanted : (n : ℕ) (ok : Bool) → (n ≡ 0 → ok ≡ true) → ok ≡ false → 0 < n
some_wanted zero ok enough off = let on = enough refl in absurd (cc)
some_wanted (suc n) ok enough off = omega arith
