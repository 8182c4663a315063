-- What each endpoint of a socket does is what it does alone.
use Rattle.std.proofs.Common.{◌≡◌, ℕ, Bool, true, false, ◌==◌, if◌then◌else◌, List, [], ◌∷◌, refl, subst}
use Rattle.std.proofs.lemmas.Bool.{eqb-true, eqb-false}
use Rattle.sctp_model.specs.end.EndView.{EndView}
use Rattle.sctp_socket.specs.Product.{Asked, Does, RunsAlone, StaysAlone, GoesAlone, Request, Touches, Stays, Goes, asked_of, EachIsAlone}

-- the first request, of this association or of another one
alone_after : (s m : ℕ → EndView) (e : EndView) (r : Request) (i : ℕ) (rest : List Asked) (b : Bool) → (r.id == i) ≡ b → Touches r s m
    → RunsAlone (m i) rest e → RunsAlone (s i) (if b then r.asked ∷ rest else rest) e
alone_after s m e r i rest true here t more =
    GoesAlone (s i) (m i) e r.asked rest (subst (λ (k : ℕ). Does r.asked (s k) (m k)) (eqb-true r.id i here) t.does) more
alone_after s m e r i rest false here t more =
    subst (λ (x : EndView). RunsAlone x rest e) (t.others i (eqb-false r.id i here)) more

pub each_is_alone : EachIsAlone
each_is_alone s t [] (Stays _) i = StaysAlone (t i)
each_is_alone s t (r ∷ xs) (Goes _ m _ _ _ touches more) i =
    alone_after s m (t i) r i (asked_of i xs) (r.id == i) refl touches (each_is_alone m t xs more i)
