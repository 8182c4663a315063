-- Filters of kept chunks: one after another, those that agree, one that all pass.
use Rattle.std.proofs.Common.{◌≡◌, ◌⊎◌, Bool, true, false, List, [], ◌∷◌, filter, refl, ap, sym, ◌∙◌, inl, inr}
use Rattle.std.specs.Prelude.{◌&&◌}
use Rattle.std.proofs.lemmas.Bool.{cases_Bool}
use Rattle.sctp_model.specs.numbers.Lists.{Has}
use Rattle.sctp_model.specs.messages.Pieces.{Piece}

-- one filter after another
pub filter_both : (one other : Piece → Bool) (kept : List Piece) → filter other (filter one kept) ≡ filter (λ (x : Piece). one x && other x) kept
filter_both one other [] = refl
filter_both one other (x ∷ kept) = go (cases_Bool (one x)) (cases_Bool (other x)) (filter_both one other kept)
  where
    go : (one x ≡ true) ⊎ (one x ≡ false) → (other x ≡ true) ⊎ (other x ≡ false) → filter other (filter one kept) ≡ filter (λ (y : Piece). one y && other y) kept →
        filter other (filter one (x ∷ kept)) ≡ filter (λ (y : Piece). one y && other y) (x ∷ kept)
    go (inl a) (inl b) more = rw (a, b) (ap (λ (ys : List Piece). x ∷ ys) more)
    go (inl a) (inr b) more = rw (a, b) more
    go (inr a) (inl b) more = rw a more
    go (inr a) (inr b) more = rw a more

-- what passes stays
pub filter_passed : (test : Piece → Bool) (kept : List Piece) (x : Piece) → test x ≡ true → Has kept x → Has (filter test kept) x
filter_passed test [] x stays there = absurd there
filter_passed test (y ∷ kept) x stays there = go (cases_Bool (test y)) there (filter_passed test kept x stays)
  where
    go : (test y ≡ true) ⊎ (test y ≡ false) → (y ≡ x) ⊎ Has kept x → (Has kept x → Has (filter test kept) x) → Has (filter test (y ∷ kept)) x
    go (inl e) (inl is) more = rw e (inl is)
    go (inl e) (inr later) more = rw e (inr (more later))
    go (inr e) (inl is) more = absurd (let own : test y ≡ true = ap test is ∙ stays in cc)
    go (inr e) (inr later) more = rw e (more later)

-- tests that agree on the chunks of the list
pub filter_where : (one other : Piece → Bool) (kept : List Piece) → ((x : Piece) → Has kept x → one x ≡ other x) → filter one kept ≡ filter other kept
filter_where one other [] same = refl
filter_where one other (x ∷ kept) same = go (cases_Bool (other x)) (filter_where one other kept (λ y there. same y (inr there)))
  where
    go : (other x ≡ true) ⊎ (other x ≡ false) → filter one kept ≡ filter other kept → filter one (x ∷ kept) ≡ filter other (x ∷ kept)
    go (inl e) more = let first : one x ≡ true = same x (inl refl) ∙ e in rw (first, e) (ap (λ (ys : List Piece). x ∷ ys) more)
    go (inr e) more = let first : one x ≡ false = same x (inl refl) ∙ e in rw (first, e) more

-- one that all of them pass
pub filter_none : (test : Piece → Bool) (kept : List Piece) → ((x : Piece) → Has kept x → test x ≡ true) → filter test kept ≡ kept
filter_none test [] all = refl
filter_none test (x ∷ kept) all = let first = all x (inl refl) in rw first (ap (λ (ys : List Piece). x ∷ ys) (filter_none test kept (λ y there. all y (inr there))))

and_turned : (a b : Bool) → (a && b) ≡ (b && a)
and_turned true true = refl
and_turned true false = refl
and_turned false true = refl
and_turned false false = refl

pub filter_turned : (one other : Piece → Bool) (kept : List Piece) → filter one (filter other kept) ≡ filter other (filter one kept)
filter_turned one other kept =
    filter_both other one kept
    ∙ filter_where (λ (x : Piece). other x && one x) (λ (x : Piece). one x && other x) kept (λ x there. and_turned (other x) (one x))
    ∙ sym (filter_both one other kept)
