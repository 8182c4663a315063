-- Lists as words: items after commas, and items joined by commas.
use Rattle.std.proofs.Common.{◌≡◌, ℕ, zero, suc, ◌-◌, ◌<◌, ◌≤◌, Bool, true, false, cond, List, [], ◌∷◌, ◌++◌, length, Option, Some, None, unwrap_or, option_map, refl, append_assoc, arith}
use Rattle.std.specs.List.{flat_map}
use Rattle.sctp_model.specs.wire.Chunk.{padded}
use Rattle.sctp_model.specs.wire.Typed.{Typed, length_field, starts_typed, typed_at, items_after, typed_of, typed_in}
use Rattle.sctp_print.specs.ChunkLines.{or_dash, each_behind_comma, joined}
use Rattle.sctp_print.specs.Commas.{behind_comma}
use Rattle.sctp_print.specs.declared.words.TheConstants.{COMMA}

-- a list without its first comma
pub joined_is : {X : Type 0} (word : X → List ℕ) (xs : List X) → behind_comma (each_behind_comma word xs) ≡ joined word xs
joined_is word [] = refl
joined_is word (x ∷ xs) = refl

-- one item more, where the rest is still to come
pub comma_more : {X : Type 0} (word : X → List ℕ) (put : List ℕ) (x : X) (rest : List X)
    → (put ++ (COMMA ∷ word x)) ++ each_behind_comma word rest ≡ put ++ each_behind_comma word (x ∷ rest)
comma_more word put x rest = append_assoc put (COMMA ∷ word x) (each_behind_comma word rest)

pub or_dash_some : (cs : List ℕ) → 0 < length cs → or_dash cs ≡ cs
or_dash_some [] some = absurd (omega arith)
or_dash_some (c ∷ cs) some = refl

-- one line more
pub lines_more : {X : Type 0} (line : X → List ℕ) (put : List ℕ) (x : X) (rest : List X)
    → (put ++ line x) ++ flat_map line rest ≡ put ++ flat_map line (x ∷ rest)
lines_more line put x rest = append_assoc put (line x) (flat_map line rest)

-- ---- items of a list with types and lengths

few_first : (begins : Bool) (item : Typed) (found : Option (List Typed)) (most : ℕ) → length (unwrap_or found []) ≤ most
    → length (unwrap_or (cond begins (option_map (λ (others : List Typed). item ∷ others) found) None) []) ≤ suc most
few_first true item (Some others) most few = omega arith
few_first true item None most few = omega arith
few_first false item found most few = omega arith

few_after : (inside : ℕ) (bytes : List ℕ) → length (unwrap_or (items_after inside bytes) []) ≤ length bytes
few_after zero [] = omega arith
few_after (suc inside) [] = omega arith
few_after (suc inside) (b ∷ bytes) = omega (arith, few_after inside bytes)
few_after zero (b ∷ bytes) =
    let rest = padded (length_field (b ∷ bytes)) - 1 in
    few_first (starts_typed (b ∷ bytes)) (typed_at (b ∷ bytes)) (items_after rest bytes) (length bytes) (few_after rest bytes)

-- they are no more than the bytes
pub few_items : (bytes : List ℕ) → length (typed_in bytes) ≤ length bytes
unfolding typed_of
few_items bytes = few_after 0 bytes
