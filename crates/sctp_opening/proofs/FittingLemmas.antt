-- Which items fit a list with a limit on its bytes: the choice by bytes is that of the definitions, which ask whether the whole chunk would fit.
use Rattle.std.proofs.Common.{◌≡◌, ℕ, ◌+◌, ◌≤◌, Bool, true, false, cond, List, [], ◌∷◌, ◌++◌, length, length-append, replicate, refl, ap, ◌∙◌, arith, nat_le, append_assoc}
use Rattle.std.proofs.lemmas.Bool.{leb-true}
use Rattle.sctp_model.specs.wire.Chunk.{padded, padding_after}
use Rattle.sctp_model.specs.wire.Typed.{Typed, typed_bytes, written_typed, filled}
use Rattle.sctp_model.specs.end.Reports.{as_fit}
use Rattle.sctp_model.proofs.TypedLemmas.{length-item}
use Rattle.sctp_model.proofs.TypedWriting.{zeros_long, written_more}
use Rattle.sctp_opening.specs.inner.Fitting.{appended, appended_within, all_within}

-- ---- sizes

pub length-filled : (bytes : List ℕ) → length (filled bytes) ≡ padded (length bytes)
length-filled bytes = omega (arith, length-append bytes (replicate (padding_after (length bytes)) 0), zeros_long (padding_after (length bytes)))

pub length-appended : (bytes : List ℕ) (x : Typed) → length (appended bytes x) ≡ padded (length bytes) + 4 + length x.value
length-appended bytes x = omega (arith, length-append (filled bytes) (typed_bytes x), length-filled bytes, length-item x)

-- ---- one item

-- whether an item goes in, by its size
sized : (most : ℕ) (bytes : List ℕ) (x : Typed) → nat_le (length (appended bytes x)) most ≡ nat_le (padded (length bytes) + 4 + length x.value) most
sized most bytes x = ap (λ n. nat_le n most) (length-appended bytes x)

pub stays_out : (most : ℕ) (bytes : List ℕ) (x : Typed) → nat_le (padded (length bytes) + 4 + length x.value) most ≡ false
    → appended_within most bytes x ≡ bytes
stays_out most bytes x large = rw (sized most bytes x, large) refl

-- ---- as the definitions of INIT ACK and ERROR choose: by the list that would be written

by_choice : (front taken : List Typed) (y : Typed) (b : Bool) (bytes : List ℕ) → written_typed (front ++ (taken ++ y ∷ [])) ≡ bytes
    → written_typed (front ++ cond b (taken ++ y ∷ []) taken) ≡ cond b bytes (written_typed (front ++ taken))
by_choice front taken y true bytes e = e
by_choice front taken y false bytes e = refl

-- what is written for a list and those items behind it that fit
pub written-as_fit : (most : ℕ) (front taken ys : List Typed)
    → written_typed (front ++ as_fit (λ xs. nat_le (length (written_typed (front ++ xs))) most) taken ys)
    ≡ all_within most (written_typed (front ++ taken)) ys
written-as_fit most front taken [] = refl
written-as_fit most front taken (y ∷ ys) =
    let bytes = appended (written_typed (front ++ taken)) y in
    let more : written_typed (front ++ (taken ++ y ∷ [])) ≡ bytes
    = rw (← append_assoc front taken (y ∷ [])) (written_more (front ++ taken) y) in
    let fits = nat_le (length bytes) most in
    rw more (written-as_fit most front (cond fits (taken ++ y ∷ []) taken) ys
    ∙ ap (λ (front_bytes : List ℕ). all_within most front_bytes ys) (by_choice front taken y fits bytes more))

one_within : (most : ℕ) (bytes : List ℕ) (y : Typed) (b : Bool) → nat_le (length (appended bytes y)) most ≡ b → length bytes ≤ most
    → length (cond b (appended bytes y) bytes) ≤ most
one_within most bytes y true fits within = leb-true _ _ fits
one_within most bytes y false past within = within

-- a list of so many bytes has no more with them
pub all_stay_within : (most : ℕ) (bytes : List ℕ) (ys : List Typed) → length bytes ≤ most → length (all_within most bytes ys) ≤ most
all_stay_within most bytes [] within = within
all_stay_within most bytes (y ∷ ys) within = all_stay_within most (appended_within most bytes y) ys (one_within most bytes y _ refl within)
