-- Each one's turn comes.
use Rattle.std.proofs.Common.{◌≡◌, ℕ, List, [], ◌∷◌, ◌++◌, length, sym, subst, ◌∙◌}
use Rattle.std.proofs.lemmas.List.{append_assoc, append-nil}
use Rattle.sctp_socket.specs.Turns.{turned, EachTurnComes}

pub each_turn_comes : EachTurnComes
each_turn_comes [] back x = sym (append-nil (x ∷ back))
each_turn_comes (f ∷ fs) back x =
    let same : (fs ++ x ∷ back) ++ f ∷ [] ≡ fs ++ x ∷ (back ++ f ∷ []) = append_assoc fs (x ∷ back) (f ∷ []) in
    let later : turned (length fs) (fs ++ x ∷ (back ++ f ∷ [])) ≡ (x ∷ back) ++ f ∷ fs =
    each_turn_comes fs (back ++ f ∷ []) x ∙ append_assoc (x ∷ back) (f ∷ []) fs in
    subst (λ (zs : List ℕ). turned (length fs) zs ≡ (x ∷ back) ++ f ∷ fs) (sym same) later
