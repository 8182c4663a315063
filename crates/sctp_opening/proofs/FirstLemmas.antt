-- The search through a list of parameters finds the first of its type that is used.
use Rattle.std.proofs.Common.{◌≡◌, ℕ, Bool, true, false, cond, List, [], ◌∷◌, Some, None, refl, ap, ◌∙◌, nat_eq}
use Rattle.std.proofs.lemmas.Bool.{eqb-true}
use Rattle.std.specs.Prelude.{not, ◌&&◌}
use Rattle.sctp_model.specs.wire.Typed.{Typed}
use Rattle.sctp_model.specs.wire.Unknown.{is_known_parameter, is_passed_over, parameter_rule, parameters_acted_on, first_of}
use Rattle.sctp_opening.specs.inner.Asked.{stops}

-- the one that is asked for
pub first_here : (k : ℕ) (x : Typed) (xs : List Typed) → is_known_parameter k ≡ true → nat_eq x.kind k ≡ true
    → first_of k (parameters_acted_on (x ∷ xs)) ≡ Some x.value
first_here k x xs known same =
    let acted : is_known_parameter x.kind ≡ true = ap is_known_parameter (eqb-true x.kind k same) ∙ known in rw (acted, same) refl

by_rule : (k : ℕ) (known passed stop : Bool) (x : Typed) (later : List Typed) → nat_eq x.kind k ≡ false
    → first_of k (cond known (x ∷ later) (cond passed later (cond stop [] later))) ≡ first_of k (cond (not known && (not passed && stop)) [] later)
by_rule k true passed stop x later other = rw other refl
by_rule k false true stop x later other = refl
by_rule k false false stop x later other = refl

-- another one, which stops the reader or doesn't
first_behind : (k : ℕ) (x : Typed) (xs : List Typed) → nat_eq x.kind k ≡ false
    → first_of k (parameters_acted_on (x ∷ xs)) ≡ first_of k (cond (stops x.kind) [] (parameters_acted_on xs))
first_behind k x xs other =
    by_rule k (is_known_parameter x.kind) (is_passed_over x.kind) (parameter_rule x.kind).stop x (parameters_acted_on xs) other

-- another one, behind which nothing is looked at
pub first_stopped : (k : ℕ) (x : Typed) (xs : List Typed) → nat_eq x.kind k ≡ false → stops x.kind ≡ true
    → first_of k (parameters_acted_on (x ∷ xs)) ≡ None
first_stopped k x xs other end = first_behind k x xs other ∙ ap (λ b. first_of k (cond b [] (parameters_acted_on xs))) end

-- another one, which says nothing of those behind it
pub first_passed : (k : ℕ) (x : Typed) (xs : List Typed) → nat_eq x.kind k ≡ false → stops x.kind ≡ false
    → first_of k (parameters_acted_on (x ∷ xs)) ≡ first_of k (parameters_acted_on xs)
first_passed k x xs other on = first_behind k x xs other ∙ ap (λ b. first_of k (cond b [] (parameters_acted_on xs))) on

pub ruleset firsts = (first_here, first_stopped, first_passed)
