-- A fragment that is kept already, and a fragment to be filed.
use Rattle.std.proofs.Common.{get_or, length, ◌≡◌, ℕ, ◌<◌, ◌≤◌, Bool, true, false, ◌==◌, List, [], ◌∷◌, Option, Some, None, inl, inr, refl, sym, ◌∙◌, ap, subst, arith}
use Rattle.std.specs.Prelude.{◌&&◌}
use Rattle.std.proofs.lemmas.Bool.{cases_Bool, eq-eqb, and_parts, or_right}
use Rattle.std.proofs.lemmas.Bool.Decides.{nat_tests}
use Rattle.sctp_model.specs.numbers.Lists.{Has}
use Rattle.sctp_model.specs.messages.Format.{Format, Plain, Interleaved, Lane, Unordered, is_numbered, same_lane}
use Rattle.sctp_model.specs.messages.Framing.{place_in}
use Rattle.sctp_model.specs.messages.Pieces.{Piece, same_number, fragment_of}
use Rattle.sctp_model.specs.receiver.PieceTaken.{are_one_fragment, is_held, is_repeated}
use Rattle.sctp_model.proofs.receiver.RowFacts.{lane_same}
use Rattle.sctp_chains.specs.Cells.{Cell, key_of, rank_at, rank_of, cell_of, IsOf}
use Rattle.sctp_chains.specs.Links.{ChainKept, cells_in, one_of, AreChains}
use Rattle.sctp_chains.specs.StandsFor.{KeepsLane}
use Rattle.sctp_chains.specs.declared.chain.Part.{Part}
use Rattle.sctp_chains.specs.inner.Filing.{IsPlace}
use Rattle.sctp_chains.specs.inner.Finding.{IsIn}
use Rattle.sctp_chains.proofs.ListLemmas.{none_dropped}
use Rattle.sctp_chains.proofs.CellLemmas.{cell_there}
use Rattle.sctp_chains.proofs.ChainLemmas.{chain_ranks, cell_chain, chain_cell}
use Rattle.sctp_chains.proofs.RankLemmas.{same_rank}
use Rattle.sctp_chains.proofs.SearchLemmas.{front_or_back, not_lower}
use Rattle.sctp_chains.proofs.WholeLemmas.{piece_at, cell_at}

-- ---- one fragment, by its rank

number_yes : (m n : Option ℕ) → m ≡ n → same_number m n ≡ true
number_yes m n e = subst (λ (o : Option ℕ). same_number m o ≡ true) e (own m)
  where
    own : (o : Option ℕ) → same_number o o ≡ true
    own None = refl
    own (Some i) = eq-eqb i i refl

number_says : (m n : Option ℕ) → same_number m n ≡ true → m ≡ n
number_says None None e = refl
number_says None (Some n) e = absurd (cc)
number_says (Some m) None e = absurd (cc)
number_says (Some m) (Some n) e = let same : m ≡ n = grind (arith, e, nat_tests) in ap (λ (i : ℕ). Some i) same

pub same_numbers : (m n : Option ℕ) → (m ≡ n → same_number m n ≡ true) × (same_number m n ≡ true → m ≡ n)
same_numbers m n = (number_yes m n, number_says m n)

one_yes : (y x : Piece) → y.lane ≡ x.lane → y.number ≡ x.number → fragment_of y ≡ fragment_of x → are_one_fragment y x ≡ true
one_yes y x a b c = let lane = lane_same y.lane x.lane a in let number = number_yes y.number x.number b in let place = eq-eqb (fragment_of y) (fragment_of x) c in rw (lane, number, place) refl

one_says : (y x : Piece) → are_one_fragment y x ≡ true → (y.number ≡ x.number) × (fragment_of y ≡ fragment_of x)
one_says y x e =
    let both = and_parts (same_lane y.lane x.lane) (same_number y.number x.number && (fragment_of y == fragment_of x)) e in
    let rest = and_parts (same_number y.number x.number) (fragment_of y == fragment_of x) both.1 in
    (number_says y.number x.number rest.0, let p = rest.1 in grind (arith, p, nat_tests))

held_yes : (kept : List Piece) (x y : Piece) → Has kept y → are_one_fragment y x ≡ true → is_held kept x ≡ true
held_yes [] x y there one = absurd there
held_yes (z ∷ zs) x y (inl is) one = let here = subst (λ (w : Piece). are_one_fragment w x ≡ true) (sym is) one in rw here refl
held_yes (z ∷ zs) x y (inr there) one = or_right (are_one_fragment z x) (is_held zs x) (held_yes zs x y there one)

held_none : (kept : List Piece) (x : Piece) → ((y : Piece) → Has kept y → are_one_fragment y x ≡ true → ⊥) → is_held kept x ≡ false
held_none [] x none = refl
held_none (z ∷ zs) x none = elim (cases_Bool (are_one_fragment z x)) [
  | inl e ↦ absurd (none z (inl refl) e)
  | inr e ↦ rw e (held_none zs x (λ y there. none y (inr there)))
]

module _ (l : Lane) (cs : List ChainKept) (bytes : ℕ) (kept : List Piece) (h : KeepsLane Interleaved l cs bytes kept) (x : Piece) (of : IsOf Interleaved l x) where
  held_in : (c : ChainKept) → Has cs c → IsIn (rank_of Interleaved x) c → is_held kept x ≡ true
  held_in c there in_it =
      let last = (h.chains.each c there).last in
      let m = cell_there c.first c.head c.ends c.parts (rank_of Interleaved x) in_it.0 (let high = in_it.1 in omega (arith, high, last)) in
      let p = piece_at Interleaved l cs bytes kept h m.0 (chain_cell cs c m.0 there m.1) in
      let s = same_rank Interleaved l p.0 x (h.of p.0 p.1) of (ap (λ (k : Cell). k.rank) p.2 ∙ m.2) in
      held_yes kept x p.0 p.1 (one_yes p.0 x ((h.of p.0 p.1).lane ∙ sym of.lane) s.0 s.1)

  held_out : ((c : ChainKept) → Has cs c → IsIn (rank_of Interleaved x) c → ⊥) → is_held kept x ≡ false
  held_out none = held_none kept x (λ y there one.
      let says = one_says y x one in
      let rank : rank_of Interleaved y ≡ rank_of Interleaved x = let key = ap key_of says.0 in let place = says.1 in omega (arith, key, place) in
      let m = cell_chain cs (cell_of Interleaved y) (cell_at Interleaved l cs bytes kept h y there) in
      let ranks = chain_ranks m.0 (h.chains.each m.0 m.1) (cell_of Interleaved y) m.2 in
      let low = ranks.0 in let high = ranks.1 in
      none m.0 m.1 (omega (arith, low, rank), omega (arith, high, rank)))

-- the search by rank tells it
pub held_agrees : (f : Format) (l : Lane) (cs : List ChainKept) (bytes : ℕ) (kept : List Piece) → KeepsLane f l cs bytes kept → is_numbered f Unordered ≡ true → (x : Piece) → IsOf f l x →
    (r : ℕ) → r ≡ rank_at x.number (place_in f 0 x.begin x.word) → (b : Bool) →
    (b ≡ true → (c : ChainKept) × Has cs c × IsIn r c) → (b ≡ false → (c : ChainKept) → Has cs c → IsIn r c → ⊥) → b ≡ is_repeated f kept x
held_agrees Plain l cs bytes kept h numbered x of r is b found none = absurd (let no_way : false ≡ true = numbered in cc)
held_agrees Interleaved l cs bytes kept h numbered x of r is true found none =
    let m = found refl in sym (held_in l cs bytes kept h x of m.0 m.1 (subst (λ (i : ℕ). IsIn i m.0) is m.2))
held_agrees Interleaved l cs bytes kept h numbered x of r is false found none =
    sym (held_out l cs bytes kept h x of (λ c there in_it. none refl c there (subst (λ (i : ℕ). IsIn i c) (sym is) in_it)))

-- the chain at the place of a rank, if it begins by it, is the one that has it
pub in_place : (cs : List ChainKept) → AreChains cs → (k r : ℕ) → IsPlace r cs k → (x : ChainKept) → k < length cs → x ≡ get_or cs k x → r < x.first → (c : ChainKept) → Has cs c → IsIn r c → ⊥
in_place cs h k r place x less at past c there in_it = elim (front_or_back cs h k c there) [
  | inl front ↦ let low = place.front c front in let high = in_it.1 in omega (arith, low, high)
  | inr back ↦ let low = not_lower cs h k x less at c back in let high = in_it.0 in omega (arith, low, high, past)
]

pub past_all : (cs : List ChainKept) → AreChains cs → (k r : ℕ) → IsPlace r cs k → length cs ≤ k → (c : ChainKept) → Has cs c → IsIn r c → ⊥
past_all cs h k r place past c there in_it = elim (front_or_back cs h k c there) [
  | inl front ↦ let low = place.front c front in let high = in_it.1 in omega (arith, low, high)
  | inr back ↦ none_dropped cs k c past back
]

-- ---- a fragment to be filed

rank_first : List Cell → ℕ
rank_first [] = 0
rank_first (k ∷ ks) = k.rank

pub part_rank : (p : Part) (k : Cell) → cells_in (one_of p) ≡ k ∷ [] → p.rank ≡ k.rank
unfolding rank_first
part_rank p k e = ap rank_first e
