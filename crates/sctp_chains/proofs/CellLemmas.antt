-- The fragments of one chain: their ranks, their heads, their bytes.
use Rattle.std.proofs.Common.{◌≡◌, ℕ, suc, ◌+◌, ◌-◌, ◌<◌, ◌≤◌, ◌⊎◌, Bool, true, false, List, [], ◌∷◌, ◌++◌, length, drop, Option, None, inl, inr, refl, sym, ◌∙◌, ap, arith}
use Rattle.std.proofs.lemmas.Bool.{cases_eq}
use Rattle.std.proofs.lemmas.Bool.Decides.{nat_tests}
use Rattle.std.proofs.lemmas.Grind.{common_steps}
use Rattle.sctp_model.specs.numbers.Lists.{Has}
use Rattle.sctp_chains.specs.Cells.{Cell}
use Rattle.sctp_chains.specs.Links.{cells_from}
use Rattle.sctp_chains.specs.declared.chain.Head.{Head}
use Rattle.sctp_chains.specs.inner.LettingGo.{size_of_cells, size_of_parts, is_outside, passing}
use Rattle.sctp_chains.proofs.ListLemmas.{filter_all}

-- what a fragment of a chain from rank r on is: at r it has the chain's head, and behind it none
abbrev pub IsCellFrom : (r n : ℕ) → Option Head → Cell → Type 0
IsCellFrom r n h x = ((x.rank ≡ r) × (x.head ≡ h)) ⊎ ((r < x.rank) × (x.rank < r + n) × (x.head ≡ None))

pub cell_says : (r : ℕ) (h : Option Head) (e : Bool) (ps : List (List ℕ)) (x : Cell) → Has (cells_from r h e ps) x → IsCellFrom r (length ps) h x
cell_says r h e [] x there = absurd there
cell_says r h e (b ∷ []) x (inl is) = inl (ap (λ (y : Cell). y.rank) (sym is), ap (λ (y : Cell). y.head) (sym is))
cell_says r h e (b ∷ []) x (inr there) = absurd there
cell_says r h e (b ∷ d ∷ ds) x (inl is) = inl (ap (λ (y : Cell). y.rank) (sym is), ap (λ (y : Cell). y.head) (sym is))
cell_says r h e (b ∷ d ∷ ds) x (inr there) = elim (cell_says (suc r) None e (d ∷ ds) x there) [
  | inl here ↦ let at = here.0 in inr (omega (arith, at), omega (arith, at), here.1)
  | inr later ↦ let low = later.0 in let high = later.1 in inr (omega (arith, low), omega (arith, high), later.2)
]

pub cell_ranks : (r : ℕ) (h : Option Head) (e : Bool) (ps : List (List ℕ)) (x : Cell) → Has (cells_from r h e ps) x → (r ≤ x.rank) × (x.rank < r + length ps)
cell_ranks r h e [] x there = absurd there
cell_ranks r h e (b ∷ ps) x there = elim (cell_says r h e (b ∷ ps) x there) [
  | inl here ↦ let at = here.0 in (omega (arith, at), omega (arith, at))
  | inr later ↦ let low = later.0 in let high = later.1 in (omega (arith, low), omega (arith, high))
]

-- one fragment for each rank
pub one_cell : (r : ℕ) (h : Option Head) (e : Bool) (ps : List (List ℕ)) (x y : Cell) → Has (cells_from r h e ps) x → Has (cells_from r h e ps) y → x.rank ≡ y.rank → x ≡ y
one_cell r h e [] x y here there same = absurd here
one_cell r h e (b ∷ []) x y (inl is) (inl also) same = sym is ∙ also
one_cell r h e (b ∷ []) x y (inl is) (inr there) same = absurd there
one_cell r h e (b ∷ []) x y (inr here) there same = absurd here
one_cell r h e (b ∷ d ∷ ds) x y (inl is) (inl also) same = sym is ∙ also
one_cell r h e (b ∷ d ∷ ds) x y (inl is) (inr there) same =
    let low = (cell_ranks (suc r) None e (d ∷ ds) y there).0 in let at = ap (λ (z : Cell). z.rank) is in absurd (omega (arith, low, at, same))
one_cell r h e (b ∷ d ∷ ds) x y (inr here) (inl also) same =
    let low = (cell_ranks (suc r) None e (d ∷ ds) x here).0 in let at = ap (λ (z : Cell). z.rank) also in absurd (omega (arith, low, at, same))
one_cell r h e (b ∷ d ∷ ds) x y (inr here) (inr there) same = one_cell (suc r) None e (d ∷ ds) x y here there same

-- and each rank has one
pub cell_there : (r : ℕ) (h : Option Head) (e : Bool) (ps : List (List ℕ)) (i : ℕ) → r ≤ i → i < r + length ps → (x : Cell) × Has (cells_from r h e ps) x × (x.rank ≡ i)
cell_there r h e [] i low high = absurd (omega (arith, low, high))
cell_there r h e (b ∷ []) i low high = (record { rank = r; head = h; end = e; bytes = b }, inl refl, omega (arith, low, high))
cell_there r h e (b ∷ d ∷ ds) i low high = elim (cases_eq r i) [
  | inl is ↦ (record { rank = r; head = h; end = false; bytes = b }, inl refl, is)
  | inr differ ↦ let m = cell_there (suc r) None e (d ∷ ds) i (omega (arith, low, differ)) (omega (arith, high)) in (m.0, inr m.1, m.2)
]

-- two chains in one
pub cells_join : (r : ℕ) (h : Option Head) (e : Bool) (b : List ℕ) (ps : List (List ℕ)) (q : List ℕ) (qs : List (List ℕ)) (s : ℕ) → s ≡ r + suc (length ps) →
    cells_from r h e ((b ∷ ps) ++ q ∷ qs) ≡ cells_from r h false (b ∷ ps) ++ cells_from s None e (q ∷ qs)
cells_join r h e b [] q qs s is = let next : suc r ≡ s = omega (arith, is) in ap (λ (n : ℕ). record { rank = r; head = h; end = false; bytes = b } ∷ cells_from n None e (q ∷ qs)) next
cells_join r h e b (p ∷ ps) q qs s is = ap (λ (xs : List Cell). record { rank = r; head = h; end = false; bytes = b } ∷ xs) (cells_join (suc r) None e p ps q qs s (omega (arith, is)))

pub cells_size : (r : ℕ) (h : Option Head) (e : Bool) (ps : List (List ℕ)) → size_of_cells (cells_from r h e ps) ≡ size_of_parts ps
cells_size r h e [] = refl
cells_size r h e (b ∷ []) = refl
cells_size r h e (b ∷ d ∷ ds) = ap (λ (n : ℕ). length b + n) (cells_size (suc r) None e (d ∷ ds))

-- those behind a rank
pub cells_behind : (low u r : ℕ) (h : Option Head) (e : Bool) (ps : List (List ℕ)) → low ≤ r → r ≤ u → suc u < r + length ps →
    passing (is_outside low u) (cells_from r h e ps) ≡ cells_from (suc u) None e (drop (suc (u - r)) ps)
cells_behind low u r h e [] below less high = absurd (omega (arith, less, high))
cells_behind low u r h e (b ∷ []) below less high = absurd (omega (arith, less, high))
cells_behind low u r h e (b ∷ d ∷ ds) below less high = rw gone (elim (cases_eq r u) [
  | inl is ↦
      let none : 0 ≡ u - r = omega (arith, is) in
      filter_all (λ (x : Cell). is_outside low u x.rank) (cells_from (suc r) None e (d ∷ ds))
      (λ x there. let far = (cell_ranks (suc r) None e (d ∷ ds) x there).0 in behind x.rank far is)
      ∙ ap (λ (n : ℕ). cells_from (suc n) None e (d ∷ ds)) is ∙ ap (λ (n : ℕ). cells_from (suc u) None e (drop n (d ∷ ds))) none
  | inr differ ↦
      let one : suc (u - suc r) ≡ u - r = omega (arith, less, differ) in
      cells_behind low u (suc r) None e (d ∷ ds) (omega (arith, below)) (omega (arith, less, differ)) (omega (arith, high)) ∙ ap (λ (n : ℕ). cells_from (suc u) None e (drop n (d ∷ ds))) one
])
  where
    gone : is_outside low u r ≡ false
    gone = grind (arith, below, less, nat_tests, common_steps)

    behind : (i : ℕ) → suc r ≤ i → r ≡ u → is_outside low u i ≡ true
    behind i far is = grind (arith, far, is, nat_tests, common_steps)
