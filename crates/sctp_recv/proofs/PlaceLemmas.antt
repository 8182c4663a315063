-- Numbers in a tree of minima: one is set, and those up to a limit are found.
use Rattle.std.proofs.Common.{◌≡◌, ℕ, zero, suc, ◌+◌, ◌<◌, ◌≤◌, ◌⊎◌, Bool, true, false, List, [], ◌∷◌, ◌++◌, length, set, replicate, inl, inr, refl, sym, ap, subst, arith}
use Rattle.std.specs.Prelude.{min}
use Rattle.std.proofs.lemmas.Bool.{cases_lt}
use Rattle.sctp_recv.specs.inner.Places.{low_at, IsTree, place_under}

-- ---- a number is put

pub at_put : (xs : List ℕ) (k v : ℕ) → k < length xs → low_at (set xs k v) k ≡ v
at_put [] k v low = absurd (omega (arith, low))
at_put (x ∷ xs) zero v low = refl
at_put (x ∷ xs) (suc k) v low = at_put xs k v (omega (arith, low))

pub at_other : (xs : List ℕ) (j k v : ℕ) → (j ≡ k → ⊥) → low_at (set xs k v) j ≡ low_at xs j
at_other [] j k v apart = refl
at_other (x ∷ xs) zero zero v apart = absurd (apart refl)
at_other (x ∷ xs) (suc j) zero v apart = refl
at_other (x ∷ xs) zero (suc k) v apart = refl
at_other (x ∷ xs) (suc j) (suc k) v apart = at_other xs j k v (λ same. apart (ap suc same))

pub length_put : (xs : List ℕ) (k v : ℕ) → length (set xs k v) ≡ length xs
length_put [] k v = refl
length_put (x ∷ xs) zero v = refl
length_put (x ∷ xs) (suc k) v = ap suc (length_put xs k v)

-- a tree but for the number at a place, which may be too low
abbrev pub IsTreeBut : (p : ℕ) → List ℕ → Type 0
IsTreeBut p xs = (r b : ℕ) → 0 < r → r + r + 1 < length xs → b < 2 → (r + r + b ≡ p → ⊥) → low_at xs r ≤ low_at xs (r + r + b)

pub first_put : (xs : List ℕ) (p v : ℕ) → length xs ≤ p + p → IsTree xs → IsTreeBut p (set xs p v)
first_put xs p v leaf tree r b some within two other =
    let size = length_put xs p v in
    let one = at_other xs r p v (λ same. omega (arith, same, within, size, leaf)) in
    let its = at_other xs (r + r + b) p v other in
    let le = tree r b some (omega (arith, within, size)) two in
    omega (arith, one, its, le)

pub next_put : (xs : List ℕ) (p h v : ℕ) → h + h ≤ p → p ≤ h + h + 1 → 0 < h → h + h + 1 < length xs → v ≡ min (low_at xs (h + h)) (low_at xs (h + h + 1)) → IsTreeBut p xs → IsTreeBut h (set xs h v)
next_put xs p h v low high some_h room is tree r b some within two other = elim (cases_lt r h) [
  | inl less ↦ unlike (λ same. omega (arith, same, less))
  | inr past ↦ elim (cases_lt h r) [
    | inl more ↦ unlike (λ same. omega (arith, same, more))
    | inr most ↦
        let same : r ≡ h = omega (arith, past, most) in
        let one : low_at (set xs h v) r ≡ v = subst (λ (q : ℕ). low_at (set xs h v) q ≡ v) (sym same) (at_put xs h v (omega (arith, room))) in
        let its = at_other xs (r + r + b) h v other in
        let le : v ≤ low_at xs (r + r + b) = elim (cases_lt b 1) [
          | inl none ↦ let at : r + r + b ≡ h + h = omega (arith, none, same) in let eq = ap (low_at xs) at in omega (arith, is, eq)
          | inr one_more ↦ let at : r + r + b ≡ h + h + 1 = omega (arith, one_more, two, same) in let eq = ap (low_at xs) at in omega (arith, is, eq)
        ] in
        omega (arith, one, its, le)
  ]
]
  where
    unlike : (r ≡ h → ⊥) → low_at (set xs h v) r ≤ low_at (set xs h v) (r + r + b)
    unlike apart =
        let size = length_put xs h v in
        let one = at_other xs r h v apart in
        let its = at_other xs (r + r + b) h v other in
        let le = tree r b some (omega (arith, within, size)) two (λ same. apart (omega (arith, same, low, high, two))) in
        omega (arith, one, its, le)

pub none_put : (xs : List ℕ) (p h : ℕ) → h + h ≤ p → p ≤ h + h + 1 → length xs ≤ h + h + 1 → IsTreeBut p xs → IsTreeBut h xs
none_put xs p h low high past tree r b some within two other = tree r b some within two (λ same. omega (arith, same, low, high, two, within, past))

pub all_put : (xs : List ℕ) (p : ℕ) → p ≤ 1 → IsTreeBut p xs → IsTree xs
all_put xs p top tree r b some within two = tree r b some within two (λ same. omega (arith, same, top, some))

-- ---- numbers up to a limit are found

pub under_from : (path : List Bool) (r : ℕ) → r ≤ place_under r path
under_from [] r = omega arith
under_from (false ∷ path) r = let le = under_from path (r + r) in omega (arith, le)
under_from (true ∷ path) r = let le = under_from path (r + r + 1) in omega (arith, le)

-- no number below a place is less than the one there
pub under_low : (xs : List ℕ) (c : ℕ) → IsTree xs → length xs ≡ c + c → (path : List Bool) (r : ℕ) → 0 < r → place_under r path < c + c → low_at xs r ≤ low_at xs (place_under r path)
under_low xs c tree size [] r some within = omega arith
under_low xs c tree size (false ∷ path) r some within =
    let from = under_from path (r + r) in
    let same : r + r + 0 ≡ r + r = omega arith in
    let le = tree r 0 some (omega (arith, from, within, size)) (omega arith) in
    let eq = ap (low_at xs) same in
    let rest = under_low xs c tree size path (r + r) (omega (arith, some)) within in
    omega (arith, le, eq, rest)
under_low xs c tree size (true ∷ path) r some within =
    let from = under_from path (r + r + 1) in
    let le = tree r 1 some (omega (arith, from, within, size)) (omega arith) in
    let rest = under_low xs c tree size path (r + r + 1) (omega (arith, some)) within in
    omega (arith, le, rest)

-- none lies below a place of the later half
pub under_leaf : (c : ℕ) (path : List Bool) (r : ℕ) → c ≤ r → place_under r path < c + c → place_under r path ≡ r
under_leaf c [] r past within = refl
under_leaf c (false ∷ path) r past within = absurd (let from = under_from path (r + r) in omega (arith, from, within, past))
under_leaf c (true ∷ path) r past within = absurd (let from = under_from path (r + r + 1) in omega (arith, from, within, past))

-- each place from 1 on lies below place 1
halved : (n : ℕ) → (h : ℕ) × ((n ≡ h + h) ⊎ (n ≡ h + h + 1))
halved zero = (0, inl refl)
halved (suc n) =
    let m = halved n in
    elim m.1 [
      | inl even ↦ (m.0, inr (omega (arith, even)))
      | inr odd ↦ (suc m.0, inl (omega (arith, odd)))
    ]

to_double : (path : List Bool) (r : ℕ) → place_under r (path ++ false ∷ []) ≡ place_under r path + place_under r path
to_double [] r = refl
to_double (false ∷ path) r = to_double path (r + r)
to_double (true ∷ path) r = to_double path (r + r + 1)

to_next : (path : List Bool) (r : ℕ) → place_under r (path ++ true ∷ []) ≡ place_under r path + place_under r path + 1
to_next [] r = refl
to_next (false ∷ path) r = to_next path (r + r)
to_next (true ∷ path) r = to_next path (r + r + 1)

reached : (n p : ℕ) → p ≤ n → 0 < p → (path : List Bool) × (place_under 1 path ≡ p)
reached zero p le some = absurd (omega (arith, le, some))
reached (suc n) p le some = elim (cases_lt 1 p) [
  | inr top ↦ ([], omega (arith, top, some))
  | inl more ↦
      let m = halved p in
      let half : m.0 ≤ n = elim m.1 [ inl even ↦ omega (arith, even, le, more) | inr odd ↦ omega (arith, odd, le, more) ] in
      let pos : 0 < m.0 = elim m.1 [ inl even ↦ omega (arith, even, more) | inr odd ↦ omega (arith, odd, more) ] in
      let q = reached n m.0 half pos in
      let its = q.1 in
      elim m.1 [
        | inl even ↦ let is = to_double q.0 1 in (q.0 ++ false ∷ [], omega (arith, even, is, its))
        | inr odd ↦ let is = to_next q.0 1 in (q.0 ++ true ∷ [], omega (arith, odd, is, its))
      ]
]

pub from_top : (p : ℕ) → 0 < p → (path : List Bool) × (place_under 1 path ≡ p)
from_top p some = reached p p (omega arith) some

-- of a path from an inner place the first step leads to one of two
pub inner_found : (c r : ℕ) (P : List Bool → Type 0) (path : List Bool) → place_under r path ≡ c → (r ≡ c → ⊥) → ((rest : List Bool) → place_under (r + r) rest ≡ c → P (false ∷ rest)) →
    ((rest : List Bool) → place_under (r + r + 1) rest ≡ c → P (true ∷ rest)) → P path
inner_found c r P [] is apart first second = absurd (apart is)
inner_found c r P (false ∷ path) is apart first second = first path is
inner_found c r P (true ∷ path) is apart first second = second path is

-- ---- new numbers

pub at_replicate : (n k v : ℕ) → k < n → low_at (replicate n v) k ≡ v
at_replicate zero k v low = absurd (omega (arith, low))
at_replicate (suc n) zero v low = refl
at_replicate (suc n) (suc k) v low = at_replicate n k v (omega (arith, low))

pub length_replicate : (n v : ℕ) → length (replicate n v) ≡ n
length_replicate zero v = refl
length_replicate (suc n) v = ap suc (length_replicate n v)

pub tree_replicate : (n v : ℕ) → IsTree (replicate n v)
tree_replicate n v r b some within two =
    let size = length_replicate n v in
    let one = at_replicate n r v (omega (arith, within, size)) in
    let other = at_replicate n (r + r + b) v (omega (arith, within, size, two)) in
    omega (arith, one, other)
