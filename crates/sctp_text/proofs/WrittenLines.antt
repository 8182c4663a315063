-- What is written word by word and byte by byte is the whole line.
use Rattle.std.proofs.Common.{◌≡◌, ℕ, ◌+◌, ◌/◌, ◌%◌, ◌<◌, List, [], ◌∷◌, ◌++◌, length, take, get_or, map, slice_index, refl, sym, ap, ◌∙◌, append_assoc}
use Rattle.std.specs.Prelude.{Result, Ok, Err, IsErr, OnOk}
use Rattle.std.proofs.lemmas.List.{append-nil, take_more, map-append}
use Rattle.hex.specs.Hex.{encode_with}
use Rattle.sctp_text.specs.SpacedWords.{each_behind_space}
use Rattle.sctp_text.specs.declared.limits.TheConstants.{SPACE}

-- ---- bytes in hexadecimal

encode_with-append : (t xs ys : List ℕ) → encode_with t (xs ++ ys) ≡ encode_with t xs ++ encode_with t ys
unfolding encode_with
encode_with-append t [] ys = refl
encode_with-append t (x ∷ xs) ys =
    ap (λ (zs : List ℕ). slice_index t (x / 16) ∷ slice_index t (x % 16) ∷ zs) (encode_with-append t xs ys)

encode_with-one : (t : List ℕ) (b : ℕ) → encode_with t (b ∷ []) ≡ slice_index t (b / 16) ∷ slice_index t (b % 16) ∷ []
unfolding encode_with
encode_with-one t b = refl

-- the digits of one byte more
pub encode_more : (t bytes : List ℕ) (i : ℕ) → i < length bytes
    → encode_with t (take (i + 1) bytes)
    ≡ encode_with t (take i bytes) ++ (slice_index t (get_or bytes i 0 / 16) ∷ slice_index t (get_or bytes i 0 % 16) ∷ [])
encode_more t bytes i lt =
    rw (take_more bytes i 0 lt, encode_with-append t (take i bytes) (get_or bytes i 0 ∷ []), encode_with-one t (get_or bytes i 0)) refl

-- ---- words behind spaces

pub behind-append : (xs ys : List (List ℕ)) → each_behind_space (xs ++ ys) ≡ each_behind_space xs ++ each_behind_space ys
behind-append [] ys = refl
behind-append (x ∷ xs) ys =
    ap (λ (zs : List ℕ). SPACE ∷ (x ++ zs)) (behind-append xs ys) ∙ ap (λ (zs : List ℕ). SPACE ∷ zs) (sym (append_assoc x _ _))

-- one more word, put behind a space
pub behind_more : {X : Type 0} (f : X → List ℕ) (xs : List X) (i : ℕ) (d : X) (old front : List ℕ) → i < length xs
    → old ≡ front ++ each_behind_space (map f (take i xs))
    → (old ++ SPACE ∷ []) ++ f (get_or xs i d) ≡ front ++ each_behind_space (map f (take (i + 1) xs))
behind_more {X} f xs i d old front lt so_far =
    rw (take_more xs i d lt, map-append f (take i xs) (get_or xs i d ∷ []), behind-append (map f (take i xs)) (f (get_or xs i d) ∷ []), so_far, append-nil (f (get_or xs i d))) (simp append_assoc)

-- ---- where memory is wanting

-- what holds where all was written is not asked
pub not_written : {X E : Type 0} (r : Result X E) (P : Type 0) → IsErr r → OnOk r P
not_written (Ok x) P failed = cc
not_written (Err e) P failed = tt
