-- The lowest index of a lane whose messages have no number: its chunks are ordered by their indexes.
use Rattle.std.proofs.Common.{◌≡◌, ℕ, ◌^◌, ◌<◌, ◌≤◌, false, List, [], ◌∷◌, length, get_or, Option, None, Some, inl, refl, sym, ◌∙◌, ap, subst, arith}
use Rattle.std.specs.Prelude.{is_some}
use Rattle.sctp_model.specs.numbers.Lists.{Has}
use Rattle.sctp_model.specs.messages.Format.{Format, Plain, Interleaved, Lane, Kind, Ordered, Unordered, is_numbered}
use Rattle.sctp_model.specs.messages.Pieces.{Piece}
use Rattle.sctp_chains.specs.Cells.{Cell, cell_of, rank_at, rank_of, IsOf, IsLowestIndex}
use Rattle.sctp_chains.specs.Links.{ChainKept, cells_of}
use Rattle.sctp_chains.specs.StandsFor.{KeepsLane}
use Rattle.sctp_chains.proofs.CellLemmas.{cell_there}
use Rattle.sctp_chains.proofs.ChainLemmas.{chain_ranks, cell_chain, chain_cell}
use Rattle.sctp_chains.proofs.SearchLemmas.{stands_in, not_lower}
use Rattle.sctp_chains.proofs.WholeLemmas.{piece_at, cell_at}

rank_index : (f : Format) (l : Lane) (x : Piece) → is_numbered f l.kind ≡ false → IsOf f l x → rank_of f x ≡ x.index
rank_index f l x loose of = go f l.kind loose (of.numbered ∙ loose)
  where
    plain : (o : Option ℕ) → is_some o ≡ false → rank_at o x.index ≡ x.index
    plain None e = omega arith
    plain (Some n) e = absurd (cc)

    go : (g : Format) (k : Kind) → is_numbered g k ≡ false → is_some x.number ≡ false → rank_of g x ≡ x.index
    go Plain k e none = plain x.number none
    go Interleaved Ordered e none = absurd (cc)
    go Interleaved Unordered e none = absurd (cc)

pub none_there : (cs : List ChainKept) → length cs ≡ 0 → cs ≡ []
none_there [] e = refl
none_there (c ∷ cs) e = absurd (omega (arith, e))

-- a lane without chains keeps nothing
pub none_kept : (f : Format) (l : Lane) (cs : List ChainKept) (bytes : ℕ) (kept : List Piece) → KeepsLane f l cs bytes kept → cs ≡ [] → kept ≡ []
none_kept f l cs bytes [] h none = refl
none_kept f l cs bytes (x ∷ kept) h none =
    absurd (subst (λ (ds : List ChainKept). Has (cells_of ds) (cell_of f x)) none (cell_at f l cs bytes (x ∷ kept) h x (inl refl)))

-- else the first chain begins with the lowest index
module _ (f : Format) (l : Lane) (cs : List ChainKept) (bytes : ℕ) (kept : List Piece) (h : KeepsLane f l cs bytes kept) (loose : is_numbered f l.kind ≡ false) (c : ChainKept) (some : 0 < length cs)
    (at : c ≡ get_or cs 0 c) where
  first : Has cs c
  first = stands_in cs h.chains 0 c some at

  below : (x : Piece) → Has kept x → c.first ≤ x.index
  below x has =
      let m = cell_chain cs (cell_of f x) (cell_at f l cs bytes kept h x has) in
      let low = not_lower cs h.chains 0 c some at m.0 m.1 in
      let rank = (chain_ranks m.0 (h.chains.each m.0 m.1) (cell_of f x) m.2).0 in
      let is = rank_index f l x loose (h.of x has) in
      omega (arith, low, rank, is)

  its : (x : Piece) × Has kept x × (x.index ≡ c.first)
  its =
      let parts = (h.chains.each c first).some in
      let k = cell_there c.first c.head c.ends c.parts c.first (omega arith) (omega (arith, parts)) in
      let p = piece_at f l cs bytes kept h k.0 (chain_cell cs c k.0 first k.1) in
      (p.0, p.1, sym (rank_index f l p.0 loose (h.of p.0 p.1)) ∙ ap (λ (x : Cell). x.rank) p.2 ∙ k.2)

  pub lowest_kept : IsLowestIndex kept (Some c.first)
  lowest_kept = (below, its)

  pub lowest_small : c.first < 2 ^ 64
  lowest_small = let small = (h.of its.0 its.1).index in let is = its.2 in omega (arith, small, is)
