-- The words of a command, one by one.
use Rattle.std.proofs.Common.{◌≡◌, ℕ, List, [], ◌∷◌, sym, ap, ◌∙◌, subst}
use Rattle.sctp_end.specs.Commands.{draw_fields}
use Rattle.sctp_end.specs.Fields.{Field, ANumber, ATag, Value, IsValue}
use Rattle.sctp_words.specs.Fields.{IsNumber, IsTag, Values, AreValues}

abbrev pub first_of : List (List ℕ) → List ℕ
first_of [] = []
first_of (w ∷ ws) = w

abbrev pub others_of : List (List ℕ) → List (List ℕ)
others_of [] = []
others_of (w ∷ ws) = ws

-- what words that are there say of the first field
pub first_value : (f : Field) (fs : List Field) (words : List (List ℕ)) (w : List ℕ) (ws : List (List ℕ)) (vs : Values Value (f ∷ fs)) → words ≡ w ∷ ws
    → AreValues Value IsValue (f ∷ fs) words vs → IsValue f w vs.0
first_value f fs words w ws vs is are = subst (λ (word : List ℕ). IsValue f word vs.0) (ap first_of (sym are.2 ∙ is)) are.3

-- and of the others
pub other_values : (f : Field) (fs : List Field) (words : List (List ℕ)) (w : List ℕ) (ws : List (List ℕ)) (vs : Values Value (f ∷ fs)) → words ≡ w ∷ ws
    → AreValues Value IsValue (f ∷ fs) words vs → AreValues Value IsValue fs ws vs.1
other_values f fs words w ws vs is are = subst (λ (others : List (List ℕ)). AreValues Value IsValue fs others vs.1) (ap others_of (sym are.2 ∙ is)) are.4

-- two words that say no draw
pub no_draw : (words : List (List ℕ)) (tag tsn : List ℕ) (others rest : List (List ℕ)) → words ≡ tag ∷ others → others ≡ tsn ∷ rest
    → ((t n : ℕ) → IsTag tag t → IsNumber 32 tsn n → ⊥) → (vs : Values Value draw_fields) → AreValues Value IsValue draw_fields words vs → ⊥
no_draw words tag tsn others rest is more none vs are =
    let behind = other_values ATag (ANumber 32 ∷ []) words tag others vs is are in
    none vs.0 vs.1.0 (first_value ATag (ANumber 32 ∷ []) words tag others vs is are) (first_value (ANumber 32) [] others tsn rest vs.1 more behind)
