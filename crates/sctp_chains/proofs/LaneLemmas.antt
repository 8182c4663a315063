-- What chains represent: with one chunk more, and when some are dropped.
use Rattle.std.proofs.Common.{◌≡◌, ℕ, suc, ◌+◌, ◌-◌, ◌*◌, ◌^◌, ◌<◌, Bool, true, false, nat_lt, nat_le, List, [], ◌∷◌, ◌++◌, map, length, filter, Option, Some, None, inl, inr, refl, sym, ◌∙◌, ap, subst, arith}
use Rattle.std.specs.Prelude.{not, is_some}
use Rattle.std.proofs.lemmas.Bool.{cases_lt}
use Rattle.std.proofs.lemmas.Bool.Decides.{nat_tests}
use Rattle.sctp_model.specs.numbers.Lists.{Has}
use Rattle.sctp_model.specs.messages.Format.{Format, Plain, Interleaved, Lane, Unordered, is_numbered}
use Rattle.sctp_model.specs.messages.Framing.{place_in, lets_go, is_skipped}
use Rattle.sctp_model.specs.messages.Pieces.{Piece, is_number_below}
use Rattle.sctp_model.specs.receiver.ReceiverView.{size_of_pieces}
use Rattle.sctp_model.specs.receiver.Laws.{IsOnePlace, IsFilledOnce}
use Rattle.sctp_chains.specs.Same.{total, AreSame}
use Rattle.sctp_chains.specs.Cells.{Cell, cell_of, rank_at, rank_of, IsOf}
use Rattle.sctp_chains.specs.Links.{ChainKept, cells_in, cells_of}
use Rattle.sctp_chains.specs.StandsFor.{KeepsLane, IsNew}
use Rattle.sctp_chains.specs.WholeOf.{from_number}
use Rattle.sctp_chains.specs.inner.Filing.{Avoids, HaveMore}
use Rattle.sctp_chains.specs.inner.LettingGo.{size_of_cells, is_outside, passing, Leaves, IsCut, LetsGo}
use Rattle.sctp_chains.proofs.ListLemmas.{has_filter, filter_same, filter_map, filter_all, filter_twice}
use Rattle.sctp_chains.proofs.SameLemmas.{same_more, same_through, same_back, same_filter, total_map}
use Rattle.sctp_chains.proofs.DroppingLemmas.{outside_high, inside}
use Rattle.sctp_chains.proofs.RankLemmas.{rank_place, place_small}
use Rattle.sctp_chains.proofs.WholeLemmas.{piece_at}

-- ---- bytes

pieces_total : (f : Format) (kept : List Piece) → size_of_pieces kept ≡ total (λ (x : Piece). length x.bytes) kept
pieces_total f [] = refl
pieces_total f (x ∷ xs) = ap (λ (n : ℕ). length x.bytes + n) (pieces_total f xs)

pub size_same : (f : Format) (kept : List Piece) (cells : List Cell) → AreSame (map (cell_of f) kept) cells → size_of_pieces kept ≡ size_of_cells cells
size_same f kept cells same = pieces_total f kept ∙ sym (total_map (cell_of f) (λ (k : Cell). length k.bytes) kept) ∙ same.weight (λ (k : Cell). length k.bytes)

-- ---- one chunk more

module _ (f : Format) (l : Lane) (cs new : List ChainKept) (bytes more : ℕ) (kept : List Piece) (x : Piece) (a : ChainKept) (h : KeepsLane f l cs bytes kept) (n : IsNew f l kept x) where
  pub avoids : a.first ≡ rank_of f x → Avoids a.first cs
  avoids first k there rank =
      let p = piece_at f l cs bytes kept h k there in
      let same : rank_of f x ≡ rank_of f p.0 = sym first ∙ sym rank ∙ sym (ap (λ (c : Cell). c.rank) p.2) in
      n.free p.0 p.1 (rank_place f l x p.0 n.of (h.of p.0 p.1) same)

  apart : IsFilledOnce f (x ∷ kept)
  apart y z (inl is) (inl also) same = sym is ∙ also
  apart y z (inl is) (inr there) same = absurd (n.free z there (subst (λ (w : Piece). IsOnePlace f w z) (sym is) same))
  apart y z (inr here) (inl also) same = absurd (n.free y here (turn f y x (subst (IsOnePlace f y) (sym also) same)))
    where
      turn : (g : Format) (v w : Piece) → IsOnePlace g v w → IsOnePlace g w v
      turn Plain v w e = sym e
      turn Interleaved v w (a, b, c) = (sym a, sym b, sym c)
  apart y z (inr here) (inr there) same = h.apart y z here there same

  pub added : HaveMore a cs new → cells_in a ≡ cell_of f x ∷ [] → more ≡ bytes + length x.bytes → KeepsLane f l new more (x ∷ kept)
  added m own count = record {
    of = λ y there. elim there [ inl is ↦ subst (IsOf f l) is n.of | inr later ↦ h.of y later ];
    apart = apart;
    chains = m.chains;
    same = same_through _ _ _ (same_more (cell_of f x) (map (cell_of f) kept) (cells_of cs) h.same)
        (subst (λ (ks : List Cell). AreSame (ks ++ cells_of cs) (cells_of new)) own (same_back _ _ m.cells));
    held = let held = h.held in omega (arith, count, held);
  }

-- ---- some go

module _ (f : Format) (l : Lane) (cs new : List ChainKept) (bytes left : ℕ) (kept : List Piece) (h : KeepsLane f l cs bytes kept) where
  pub stays : (test : ℕ → Bool) (keep : Piece → Bool) → Leaves test cs new bytes left → ((x : Piece) → Has kept x → keep x ≡ test (rank_of f x)) → KeepsLane f l new left (filter keep kept)
  stays test keep leaves agree = record {
    of = λ x there. h.of x (has_filter keep kept x there).0;
    apart = λ x y here there same. h.apart x y (has_filter keep kept x here).0 (has_filter keep kept y there).0 same;
    chains = leaves.chains;
    same = same;
    held = leaves.held (h.held ∙ size_same f kept (cells_of cs) h.same) ∙ sym (size_same f (filter keep kept) (cells_of new) same);
  }
    where
      kept_cells : map (cell_of f) (filter keep kept) ≡ passing test (map (cell_of f) kept)
      kept_cells = ap (map (cell_of f)) (filter_same keep (λ (x : Piece). test (rank_of f x)) kept agree) ∙ sym (filter_map (cell_of f) (λ (k : Cell). test k.rank) kept)

      same : AreSame (map (cell_of f) (filter keep kept)) (cells_of new)
      same = subst (λ (ks : List Cell). AreSame ks (cells_of new)) (sym kept_cells)
          (subst (AreSame (passing test (map (cell_of f) kept))) (sym leaves.cells) (same_filter (λ (k : Cell). test k.rank) (map (cell_of f) kept) (cells_of cs) h.same))

-- one after another
pub leaves_both : (first test : ℕ → Bool) (cs mid new : List ChainKept) (a b c : ℕ) → Leaves first cs mid a b → Leaves test mid new b c → ((r : ℕ) → test r ≡ true → first r ≡ true) →
    Leaves test cs new a c
leaves_both first test cs mid new a b c one two less = record {
  chains = two.chains;
  cells = two.cells ∙ ap (passing test) one.cells ∙ filter_twice (λ (k : Cell). test k.rank) (λ (k : Cell). first k.rank) (λ k e. less k.rank e) (cells_of cs);
  held = λ is. two.held (one.held is);
}

-- ---- by number, and by index

pub cut_low : (cs : List ChainKept) → IsCut 0 cs 0
cut_low cs = record { front = λ c there. absurd there; back = λ c there. omega arith }

below_plain : (n last p : ℕ) → p < 2 ^ 64 → not (nat_lt n (suc last)) ≡ is_outside 0 (last * 2 ^ 64 + (2 ^ 64 - 1)) (n * 2 ^ 64 + p)
below_plain n last p small = elim (cases_lt n (suc last)) [
  | inl less ↦
      let yes : nat_lt n (suc last) ≡ true = grind (arith, less, nat_tests) in
      rw yes (sym (inside 0 (last * 2 ^ 64 + (2 ^ 64 - 1)) (n * 2 ^ 64 + p) (omega arith) (omega (arith, less, small))))
  | inr past ↦
      let not_so : nat_lt n (suc last) ≡ false = grind (arith, past, nat_tests) in
      rw not_so (sym (outside_high 0 (last * 2 ^ 64 + (2 ^ 64 - 1)) (n * 2 ^ 64 + p) (omega (arith, past))))
]

pub below_agrees : (f : Format) (l : Lane) (x : Piece) (last : ℕ) → IsOf f l x → is_numbered f l.kind ≡ true →
    not (is_number_below (suc last) x.number) ≡ is_outside 0 (rank_at (Some last) (2 ^ 64 - 1)) (rank_of f x)
below_agrees f l x last of numbered = go x.number (place_in f x.index x.begin x.word) (place_small f l x of) (of.numbered ∙ numbered)
  where
    go : (n : Option ℕ) (p : ℕ) → p < 2 ^ 64 → is_some n ≡ true → not (is_number_below (suc last) n) ≡ is_outside 0 (rank_at (Some last) (2 ^ 64 - 1)) (rank_at n p)
    go None p small e = absurd (cc)
    go (Some n) p small e = below_plain n last p small

pub none_below : (kept : List Piece) → from_number 0 kept ≡ kept
none_below kept = filter_all (λ (x : Piece). not (is_number_below 0 x.number)) kept (λ x there. go x.number)
  where
    go : (n : Option ℕ) → not (is_number_below 0 n) ≡ true
    go None = refl
    go (Some n) = let low : nat_lt n 0 ≡ false = grind (arith, nat_tests) in rw low refl

behind_plain : (i jump : ℕ) → not (nat_le i jump) ≡ is_outside 0 (0 * 2 ^ 64 + jump) (0 * 2 ^ 64 + i)
behind_plain i jump = elim (cases_lt jump i) [
  | inl past ↦ let not_so : nat_le i jump ≡ false = grind (arith, past, nat_tests) in rw not_so (sym (outside_high 0 (0 * 2 ^ 64 + jump) (0 * 2 ^ 64 + i) (omega (arith, past))))
  | inr low ↦ let yes : nat_le i jump ≡ true = grind (arith, low, nat_tests) in rw yes (sym (inside 0 (0 * 2 ^ 64 + jump) (0 * 2 ^ 64 + i) (omega arith) (omega (arith, low))))
]

pub behind_agrees : (l : Lane) (x : Piece) (jump skip : ℕ) → IsOf Plain l x → l.kind ≡ Unordered →
    not (lets_go Plain x.index x.number jump skip) ≡ is_outside 0 (rank_at None jump) (rank_of Plain x)
behind_agrees l x jump skip of kind = go x.number (of.numbered ∙ ap (is_numbered Plain) kind)
  where
    go : (n : Option ℕ) → is_some n ≡ false → not (nat_le x.index jump) ≡ is_outside 0 (rank_at None jump) (rank_at n x.index)
    go None e = behind_plain x.index jump
    go (Some n) e = absurd (cc)

pub skip_agrees : (x : Piece) (jump skip : ℕ) → not (lets_go Interleaved x.index x.number jump skip) ≡ not (is_number_below skip x.number)
skip_agrees x jump skip = go x.number
  where
    go : (n : Option ℕ) → not (is_skipped n skip) ≡ not (is_number_below skip n)
    go None = refl
    go (Some n) = refl

-- ---- calls that let chunks go

module _ (f : Format) (l : Lane) (cs new : List ChainKept) (bytes left : ℕ) (kept : List Piece) (h : KeepsLane f l cs bytes kept) where
  pub dropped : is_numbered f l.kind ≡ true → (number last high : ℕ) → number ≡ suc last → high ≡ rank_at (Some last) (2 ^ 64 - 1) → LetsGo high 0 cs new bytes left →
      KeepsLane f l new left (from_number number kept)
  dropped numbered number last high is at lets = subst (λ (n : ℕ). KeepsLane f l new left (from_number n kept)) (sym is)
      (stays f l cs new bytes left kept h (is_outside 0 (rank_at (Some last) (2 ^ 64 - 1))) (λ (x : Piece). not (is_number_below (suc last) x.number))
      (subst (λ (u : ℕ). LetsGo u 0 cs new bytes left) at lets h.chains 0 (cut_low cs)) (λ x there. below_agrees f l x last (h.of x there) numbered))

pub left_behind : (f : Format) (l : Lane) (cs new : List ChainKept) (bytes left : ℕ) (kept : List Piece) → KeepsLane f l cs bytes kept → is_numbered f Unordered ≡ false → l.kind ≡ Unordered →
    (jump skip high : ℕ) → high ≡ rank_at None jump → LetsGo high 0 cs new bytes left → KeepsLane f l new left (filter (λ (x : Piece). not (lets_go f x.index x.number jump skip)) kept)
left_behind Interleaved l cs new bytes left kept h loose kind jump skip high at lets = absurd (let no_way : true ≡ false = loose in cc)
left_behind Plain l cs new bytes left kept h loose kind jump skip high at lets =
    stays Plain l cs new bytes left kept h (is_outside 0 (rank_at None jump)) (λ (x : Piece). not (lets_go Plain x.index x.number jump skip))
    (subst (λ (u : ℕ). LetsGo u 0 cs new bytes left) at lets h.chains 0 (cut_low cs)) (λ x there. behind_agrees l x jump skip (h.of x there) kind)

pub by_number : (f : Format) (kept : List Piece) (jump skip : ℕ) → is_numbered f Unordered ≡ true → from_number skip kept ≡ filter (λ (x : Piece). not (lets_go f x.index x.number jump skip)) kept
by_number Plain kept jump skip numbered = absurd (let no_way : false ≡ true = numbered in cc)
by_number Interleaved kept jump skip numbered = filter_same (λ (x : Piece). not (is_number_below skip x.number)) (λ (x : Piece). not (lets_go Interleaved x.index x.number jump skip)) kept
    (λ x there. sym (skip_agrees x jump skip))
