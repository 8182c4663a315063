-- Whole messages among kept chunks are whole chains, and the other way.
use Rattle.std.proofs.Common.{◌≡◌, ℕ, suc, ◌+◌, ◌-◌, ◌<◌, Bool, true, false, ◌==◌, List, [], ◌∷◌, map, length, Option, Some, None, inl, inr, refl, sym, ◌∙◌, ap, subst, arith}
use Rattle.std.proofs.lemmas.Bool.Decides.{nat_tests}
use Rattle.sctp_model.specs.numbers.Lists.{Has, IsWithin}
use Rattle.sctp_model.specs.messages.Format.{Format, Lane}
use Rattle.sctp_model.specs.messages.Pieces.{Piece}
use Rattle.sctp_model.specs.messages.Whole.{IsRow, IsWhole}
use Rattle.sctp_chains.specs.Cells.{Cell, cell_of, rank_of, head_of}
use Rattle.sctp_chains.specs.Links.{ChainKept, cells_from, cells_in, cells_of, is_linked, is_whole}
use Rattle.sctp_chains.specs.StandsFor.{KeepsLane}
use Rattle.sctp_chains.specs.declared.chain.Head.{Head}
use Rattle.sctp_chains.proofs.ListLemmas.{has_map, map_has}
use Rattle.sctp_chains.proofs.CellLemmas.{cell_says}
use Rattle.sctp_chains.proofs.ChainLemmas.{chain_order, chain_ranks, cell_chain, chain_cell, one_chain, one_rank}
use Rattle.sctp_chains.proofs.RankLemmas.{follows_rank, rank_follows, first_begins, begins_first, has_head, begun_head, inner_head, no_head}

-- the chunks are, in this order, those of the chain
pub record AreOf (f : Format) (kept : List Piece) (c : ChainKept) (x : Piece) (xs : List Piece) : Type 0 where
  pub whole : IsWhole f (x ∷ xs)
  pub within : IsWithin (x ∷ xs) kept
  pub cells : map (cell_of f) (x ∷ xs) ≡ cells_in c
  pub rank : rank_of f x ≡ c.first
  pub head : head_of f x ≡ c.head

-- what is told of a chunk that begins a row of cells
record Begins (f : Format) (kept : List Piece) (r : ℕ) (h : Option Head) (cells : List Cell) (x : Piece) (xs : List Piece) : Type 0 where
  row : IsRow f x xs
  within : IsWithin (x ∷ xs) kept
  cells_are : map (cell_of f) (x ∷ xs) ≡ cells
  rank : rank_of f x ≡ r
  head : head_of f x ≡ h

linked_yes : (c d : ChainKept) → d.first ≡ suc c.last → c.ends ≡ false → d.head ≡ None → is_linked c d ≡ true
linked_yes c d first ends head = let one : (d.first - c.last == 1) ≡ true = grind (arith, first, nat_tests) in rw (one, ends, head) refl

module _ (f : Format) (l : Lane) (cs : List ChainKept) (bytes : ℕ) (kept : List Piece) (h : KeepsLane f l cs bytes kept) where
  pub piece_at : (k : Cell) → Has (cells_of cs) k → (x : Piece) × Has kept x × (cell_of f x ≡ k)
  piece_at k there = map_has (cell_of f) kept k (h.same.back k there)

  pub cell_at : (x : Piece) → Has kept x → Has (cells_of cs) (cell_of f x)
  cell_at x there = h.same.there (cell_of f x) (has_map (cell_of f) kept x there)

  -- ---- a whole chain is a whole message

  row_of : (r : ℕ) (g : Option Head) (b : List ℕ) (ps : List (List ℕ)) → ((k : Cell) → Has (cells_from r g true (b ∷ ps)) k → Has (cells_of cs) k) →
      (x : Piece) × (xs : List Piece) × Begins f kept r g (cells_from r g true (b ∷ ps)) x xs
  row_of r g b [] there =
      let p = piece_at (record { rank = r; head = g; end = true; bytes = b }) (there _ (inl refl)) in (
        p.0,
        [],
        record {
          row = ap (λ (k : Cell). k.end) p.2;
          within = λ z here. elim here [ inl is ↦ subst (Has kept) is p.1 | inr end ↦ absurd end ];
          cells_are = ap (λ (k : Cell). k ∷ []) p.2;
          rank = ap (λ (k : Cell). k.rank) p.2;
          head = ap (λ (k : Cell). k.head) p.2;
        },
      )
  row_of r g b (d ∷ ds) there =
      let p = piece_at (record { rank = r; head = g; end = false; bytes = b }) (there _ (inl refl)) in
      let more = row_of (suc r) None d ds (λ k later. there k (inr later)) in
      let y = more.0 in
      let m = more.2 in
      let next : rank_of f y ≡ suc (rank_of f p.0) = let here = ap (λ (k : Cell). k.rank) p.2 in let later = m.rank in omega (arith, here, later) in (
        p.0,
        y ∷ more.1,
        record {
          row = (ap (λ (k : Cell). k.end) p.2, rank_follows f l p.0 y (h.of p.0 p.1) (h.of y (m.within y (inl refl))) next (no_head f y m.head), m.row);
          within = λ z here. elim here [ inl is ↦ subst (Has kept) is p.1 | inr later ↦ m.within z later ];
          cells_are = ap (λ (k : Cell). k ∷ map (cell_of f) (y ∷ more.1)) p.2 ∙ ap (λ (ks : List Cell). record { rank = r; head = g; end = false; bytes = b } ∷ ks) m.cells_are;
          rank = ap (λ (k : Cell). k.rank) p.2;
          head = ap (λ (k : Cell). k.head) p.2;
        },
      )

  by_parts : (r : ℕ) (g : Option Head) (ps : List (List ℕ)) → 0 < length ps → ((k : Cell) → Has (cells_from r g true ps) k → Has (cells_of cs) k) →
      (x : Piece) × (xs : List Piece) × Begins f kept r g (cells_from r g true ps) x xs
  by_parts r g [] some there = absurd (omega (arith, some))
  by_parts r g (b ∷ ps) some there = row_of r g b ps there

  pub whole_chain : (c : ChainKept) (g : Head) → Has cs c → c.ends ≡ true → c.head ≡ Some g → (x : Piece) × (xs : List Piece) × AreOf f kept c x xs
  whole_chain c g there ends head =
      let ended : cells_from c.first c.head true c.parts ≡ cells_in c = ap (λ (e : Bool). cells_from c.first c.head e c.parts) (sym ends) in
      let m = by_parts c.first c.head c.parts (h.chains.each c there).some (λ k here. chain_cell cs c k there (subst (λ (ks : List Cell). Has ks k) ended here)) in
      let b = m.2 in (
        m.0,
        m.1,
        record {
          whole = (begins_first f m.0 (has_head f m.0 g (b.head ∙ head)).0, b.row);
          within = b.within;
          cells = b.cells_are ∙ ended;
          rank = b.rank;
          head = b.head;
        },
      )

  -- ---- a whole message is a whole chain

  -- what follows the last fragment of a chain begins none
  nothing_after : (c : ChainKept) (z : Piece) → Has cs c → Has kept z → c.ends ≡ false → rank_of f z ≡ suc c.last → head_of f z ≡ None → ⊥
  nothing_after c z there here ends rank head =
      let m = cell_chain cs (cell_of f z) (cell_at z here) in
      let d = m.0 in
      let good = h.chains.each d m.1 in
      elim (cell_says d.first d.head d.ends d.parts (cell_of f z) m.2) [
        | inl first ↦
            let yes = linked_yes c d (sym first.0 ∙ rank) ends (sym first.1 ∙ head) in
            let not_so = h.chains.parted c d there m.1 in cc
        | inr later ↦
            let low = later.0 in
            let high = (chain_ranks d good (cell_of f z) m.2).1 in
            let order = chain_order c (h.chains.each c there) in
            let same = one_chain cs h.chains c d there m.1 c.last order (omega arith) (omega (arith, low, rank)) (omega (arith, high, rank)) in
            let last = ap (λ (e : ChainKept). e.last) same in
            omega (arith, high, rank, last)
      ]

  walk : (c : ChainKept) → Has cs c → (r : ℕ) (g : Option Head) (b : List ℕ) (ps : List (List ℕ)) → suc c.last ≡ r + length (b ∷ ps) →
      ((k : Cell) → Has (cells_from r g c.ends (b ∷ ps)) k → Has (cells_of cs) k) → (y : Piece) (ys : List Piece) → IsRow f y ys → IsWithin (y ∷ ys) kept → rank_of f y ≡ r →
      (map (cell_of f) (y ∷ ys) ≡ cells_from r g c.ends (b ∷ ps)) × (c.ends ≡ true)
  walk c there r g b [] last of y [] row within rank =
      let same = one_rank cs h.chains (cell_of f y) (record { rank = r; head = g; end = c.ends; bytes = b }) (cell_at y (within y (inl refl))) (of _ (inl refl)) rank in
      (ap (λ (k : Cell). k ∷ []) same, sym (ap (λ (k : Cell). k.end) same) ∙ row)
  walk c there r g b [] last of y (z ∷ zs) row within rank =
      let same = one_rank cs h.chains (cell_of f y) (record { rank = r; head = g; end = c.ends; bytes = b }) (cell_at y (within y (inl refl))) (of _ (inl refl)) rank in
      let next = follows_rank f y z row.1 in
      absurd (nothing_after c z there (within z (inr (inl refl))) (sym (ap (λ (k : Cell). k.end) same) ∙ row.0)
      (let n = next.0 in omega (arith, n, rank, last)) (inner_head f z next.1))
  walk c there r g b (d ∷ ds) last of y [] row within rank =
      let same = one_rank cs h.chains (cell_of f y) (record { rank = r; head = g; end = false; bytes = b }) (cell_at y (within y (inl refl))) (of _ (inl refl)) rank in
      absurd (let off : y.end ≡ false = ap (λ (k : Cell). k.end) same in let on : y.end ≡ true = row in cc)
  walk c there r g b (d ∷ ds) last of y (z ∷ zs) row within rank =
      let same = one_rank cs h.chains (cell_of f y) (record { rank = r; head = g; end = false; bytes = b }) (cell_at y (within y (inl refl))) (of _ (inl refl)) rank in
      let next = follows_rank f y z row.1 in
      let more = walk c there (suc r) None d ds (omega (arith, last)) (λ k later. of k (inr later)) z zs row.2 (λ w here. within w (inr here)) (let n = next.0 in omega (arith, n, rank)) in
      (ap (λ (k : Cell). k ∷ map (cell_of f) (z ∷ zs)) same ∙ ap (λ (ks : List Cell). record { rank = r; head = g; end = false; bytes = b } ∷ ks) more.0, more.1)

  walk_parts : (c : ChainKept) → Has cs c → (ps : List (List ℕ)) → 0 < length ps → suc c.last ≡ c.first + length ps →
      ((k : Cell) → Has (cells_from c.first c.head c.ends ps) k → Has (cells_of cs) k) → (y : Piece) (ys : List Piece) → IsRow f y ys → IsWithin (y ∷ ys) kept → rank_of f y ≡ c.first →
      (map (cell_of f) (y ∷ ys) ≡ cells_from c.first c.head c.ends ps) × (c.ends ≡ true)
  walk_parts c there [] some last of y ys row within rank = absurd (omega (arith, some))
  walk_parts c there (b ∷ ps) some last of y ys row within rank = walk c there c.first c.head b ps last of y ys row within rank

  whole_yes : (c : ChainKept) (g : Head) → c.ends ≡ true → c.head ≡ Some g → is_whole c ≡ true
  whole_yes c g ends head = rw (ends, head) refl

  pub whole_is_chain : (y : Piece) (ys : List Piece) → IsWhole f (y ∷ ys) → IsWithin (y ∷ ys) kept → (c : ChainKept) × Has cs c × (is_whole c ≡ true) × AreOf f kept c y ys
  whole_is_chain y ys whole within =
      let m = cell_chain cs (cell_of f y) (cell_at y (within y (inl refl))) in
      let c = m.0 in
      let good = h.chains.each c m.1 in
      let begun = begun_head f y (first_begins f y whole.0) in
      elim (cell_says c.first c.head c.ends c.parts (cell_of f y) m.2) [
        | inl first ↦
            let w = walk_parts c m.1 c.parts good.some good.last (λ k here. chain_cell cs c k m.1 here) y ys whole.1 within first.0 in
            (c, m.1, whole_yes c _ w.1 (sym first.1 ∙ begun), record { whole = whole; within = within; cells = w.0; rank = first.0; head = first.1 })
        | inr later ↦ absurd (some_none _ (sym begun ∙ later.2))
      ]
    where
      some_none : (g : Head) → Some g ≡ None → ⊥
      some_none g e = cc
