-- Lists of a SACK: without items, and with one item more.
use Rattle.std.proofs.Common.{◌≡◌, ℕ, List, [], ◌∷◌, ◌++◌, refl, ap, ◌∙◌}
use Rattle.std.specs.List.{AllByRecursion}
use Rattle.sctp_wire.specs.Items.{blocks_in, words_in}

pub no_blocks : (xs : List ℕ) → xs ≡ [] → blocks_in xs ≡ []
unfolding blocks_in
no_blocks xs e = ap blocks_in e ∙ refl

pub no_words : (xs : List ℕ) → xs ≡ [] → words_in xs ≡ []
unfolding words_in
no_words xs e = ap words_in e ∙ refl

pub one_more : {X : Type 0} (P : X → Type 0) (xs : List X) (x : X) → AllByRecursion P xs → P x → AllByRecursion P (xs ++ x ∷ [])
one_more P [] x all one = (one, tt)
one_more P (y ∷ xs) x all one = (all.0, one_more P xs x all.1 one)
