-- What an answer says of a row of its table, and of the rows below it: `rest` is what these answer.
use Rattle.std.proofs.Common.{◌≡◌, Bool, true, false, refl}
use Rattle.std.specs.Prelude.{if◌then◌else◌}

module _ {A : Type 0} where
  -- A row with another answer doesn't hold, and those below it decide.
  pub row_fails : (holds : Bool) (other rest answer : A) → (if holds then other else rest) ≡ answer → (other ≡ answer → ⊥) → (holds ≡ false) × (rest ≡ answer)
  row_fails true other rest answer is differ = absurd (differ is)
  row_fails false other rest answer is differ = (refl, is)

  -- A row holds if its answer was given, and the rows below don't give it.
  pub row_holds : (holds : Bool) (answer rest : A) → (if holds then answer else rest) ≡ answer → (rest ≡ answer → ⊥) → holds ≡ true
  row_holds true answer rest is none = refl
  row_holds false answer rest is none = absurd (none is)

  -- An answer that neither a row nor those below it have isn't given.
  pub row_lacks : (holds : Bool) (other rest answer : A) → (other ≡ answer → ⊥) → (rest ≡ answer → ⊥) → (if holds then other else rest) ≡ answer → ⊥
  row_lacks true other rest answer differ none is = differ is
  row_lacks false other rest answer differ none is = none is
