-- Whole messages taken out: what they say, and what stays.
use Rattle.std.proofs.Common.{◌≡◌, ℕ, suc, ◌+◌, ◌-◌, ◌*◌, ◌/◌, ◌^◌, ◌<◌, ◌≤◌, ◌⊎◌, Bool, true, false, List, [], ◌∷◌, map, length, Option, Some, None, inl, inr, refl, sym, ◌∙◌, ap, subst, arith}
use Rattle.std.specs.Prelude.{not, is_some}
use Rattle.std.proofs.lemmas.Bool.{cases_lt}
use Rattle.std.proofs.lemmas.Bool.Decides.{nat_tests}
use Rattle.std.proofs.lemmas.Grind.{common_steps}
use Rattle.sctp_model.specs.numbers.Lists.{Has}
use Rattle.sctp_model.specs.messages.Format.{Format, Plain, Interleaved, Lane, is_numbered}
use Rattle.sctp_model.specs.messages.Framing.{place_in}
use Rattle.sctp_model.specs.messages.Pieces.{Piece, is_number_below}
use Rattle.sctp_model.specs.messages.Whole.{IsFirst}
use Rattle.sctp_model.specs.receiver.Receiving.{IsWholeNumber, HasNoWhole}
use Rattle.sctp_model.proofs.receiver.RowFacts.{row_same}
use Rattle.sctp_chains.specs.Cells.{Cell, cell_of, key_of, rank_at, rank_of, IsOf}
use Rattle.sctp_chains.specs.Links.{ChainKept, chain_of, cells_from, is_whole}
use Rattle.sctp_chains.specs.StandsFor.{KeepsLane, StandsFor}
use Rattle.sctp_chains.specs.WholeOf.{IsWholeOf, IsMadeOf, TakesLowest}
use Rattle.sctp_chains.specs.declared.chain.Head.{Head}
use Rattle.sctp_chains.specs.declared.search.Found.{Found}
use Rattle.sctp_chains.specs.declared.whole.Whole.{Whole}
use Rattle.sctp_chains.specs.declared.chains.Chains.{Chains}
use Rattle.sctp_chains.specs.inner.Finding.{IsIn, IsFirstWhole}
use Rattle.sctp_chains.specs.inner.LettingGo.{Leaves, is_outside, LetsGo, Removes}
use Rattle.sctp_chains.proofs.ListLemmas.{map_has}
use Rattle.sctp_chains.proofs.CellLemmas.{cell_there}
use Rattle.sctp_chains.proofs.ChainLemmas.{chain_order}
use Rattle.sctp_chains.proofs.RankLemmas.{place_small, has_head, rank_place}
use Rattle.sctp_chains.proofs.WholeLemmas.{AreOf, whole_is_chain}
use Rattle.sctp_chains.proofs.FoundLemmas.{IsFoundOut, found_out}
use Rattle.sctp_chains.proofs.LaneLemmas.{stays, leaves_both, cut_low, below_agrees}

-- ---- what a whole chain says

cells_bytes : (r : ℕ) (h : Option Head) (e : Bool) (ps : List (List ℕ)) → map (λ (k : Cell). k.bytes) (cells_from r h e ps) ≡ ps
cells_bytes r h e [] = refl
cells_bytes r h e (b ∷ []) = refl
cells_bytes r h e (b ∷ d ∷ ds) = ap (λ (bs : List (List ℕ)). b ∷ bs) (cells_bytes (suc r) None e (d ∷ ds))

pieces_bytes : (f : Format) (xs : List Piece) → map (λ (k : Cell). k.bytes) (map (cell_of f) xs) ≡ map (λ (y : Piece). y.bytes) xs
pieces_bytes f [] = refl
pieces_bytes f (x ∷ xs) = ap (λ (bs : List (List ℕ)). x.bytes ∷ bs) (pieces_bytes f xs)

pub made : (f : Format) (kept : List Piece) (c : ChainKept) (x : Piece) (xs : List Piece) (g : Head) (n : Option ℕ) (m : Whole) → AreOf f kept c x xs → c.head ≡ Some g → IsWholeOf c g n m →
    n ≡ x.number → IsMadeOf f m x xs
made f kept c x xs g n m o head w number =
    let says = has_head f x g (o.head ∙ head) in
    record {
      first = w.first ∙ sym says.1;
      number = w.number ∙ number;
      payload = w.payload ∙ sym says.2;
      parts = w.parts ∙ sym (cells_bytes c.first c.head c.ends c.parts) ∙ ap (map (λ (k : Cell). k.bytes)) (sym o.cells) ∙ pieces_bytes f (x ∷ xs);
    }

-- a rank of the chain is that of one of its chunks
pub rank_has : (f : Format) (kept : List Piece) (c : ChainKept) (x : Piece) (xs : List Piece) → AreOf f kept c x xs → suc c.last ≡ c.first + length c.parts → (r : ℕ) → IsIn r c →
    (z : Piece) × Has (x ∷ xs) z × (rank_of f z ≡ r)
rank_has f kept c x xs o last r (low, high) =
    let m = cell_there c.first c.head c.ends c.parts r low (omega (arith, high, last)) in
    let p = map_has (cell_of f) (x ∷ xs) m.0 (subst (λ (ks : List Cell). Has ks m.0) (sym o.cells) m.1) in
    (p.0, p.1, ap (λ (k : Cell). k.rank) p.2 ∙ m.2)

-- the ranks of one number
pub in_number : (f : Format) (l : Lane) (x : Piece) → IsOf f l x → (n : ℕ) → key_of x.number ≡ n → (n * 2 ^ 64 ≤ rank_of f x) × (rank_of f x ≤ n * 2 ^ 64 + (2 ^ 64 - 1))
in_number f l x of n key = let small = place_small f l x of in (omega (arith, key, small), omega (arith, key, small))

pub some_number : (o : Option ℕ) → is_some o ≡ true → (n : ℕ) × (o ≡ Some n)
some_number None e = absurd (cc)
some_number (Some n) e = (n, refl)

divided : (n p : ℕ) → p < 2 ^ 64 → (n * 2 ^ 64 + p) / 2 ^ 64 ≡ n
divided n p small = omega (arith, small)

pub out_of_both : (low first last high r : ℕ) → low ≤ first → last ≤ high → is_outside low high r ≡ true → is_outside first last r ≡ true
out_of_both low first last high r above below e = grind (arith, above, below, e, nat_tests, common_steps)

-- ---- one number

module _ (f : Format) (l : Lane) (cs : List ChainKept) (bytes : ℕ) (kept : List Piece) (h : KeepsLane f l cs bytes kept) where
  pub chain_end : (c : ChainKept) (x : Piece) (xs : List Piece) → Has cs c → AreOf f kept c x xs → c.last ≤ rank_at x.number (2 ^ 64 - 1)
  chain_end c x xs there o =
      let good = h.chains.each c there in
      let m = rank_has f kept c x xs o good.last c.last (chain_order c good, omega arith) in
      let number = (row_same f x xs m.0 o.whole.1 m.1).1 in
      let top = (in_number f l m.0 (h.of m.0 (o.within m.0 m.1)) (key_of x.number) (ap key_of number)).1 in
      let at = m.2 in
      omega (arith, top, at)

  -- ---- by number

  -- the chain of a whole message of a number lies at the number's ranks
  chain_of_number : (n : ℕ) (y : Piece) (ys : List Piece) → IsWholeNumber f kept l n (y ∷ ys) →
      (c : ChainKept) × Has cs c × (is_whole c ≡ true) × (rank_of f y ≡ c.first) × (n * 2 ^ 64 ≤ c.first) × (c.first ≤ n * 2 ^ 64 + (2 ^ 64 - 1))
  chain_of_number n y ys (whole, within, (lane, number)) =
      let m = whole_is_chain f l cs bytes kept h y ys whole within in
      let at = in_number f l y (h.of y (within y (inl refl))) n (ap key_of number) in
      let rank = m.3.rank in
      let low = at.0 in let high = at.1 in
      (m.0, m.1, m.2, rank, omega (arith, low, rank), omega (arith, high, rank))

  no_whole : (n : ℕ) → ((c : ChainKept) → Has cs c → n * 2 ^ 64 ≤ c.first → c.first ≤ n * 2 ^ 64 + (2 ^ 64 - 1) → is_whole c ≡ false) → HasNoWhole f kept l n
  no_whole n none [] w = w.0
  no_whole n none (y ∷ ys) w =
      let m = chain_of_number n y ys w in
      let not_so = none m.0 m.1 m.4 m.5 in let yes_so = m.2 in cc

  none_lowest : (from last : ℕ) → IsFirstWhole cs (rank_at (Some from) 0) (rank_at (Some last) (2 ^ 64 - 1)) None → (n : ℕ) → from ≤ n → n ≤ last → HasNoWhole f kept l n
  none_lowest from last none n low high = no_whole n (λ c there a b. none c there (omega (arith, low, a)) (omega (arith, high, b)))

  pub none_lowest_by : (from last low high : ℕ) → low ≡ rank_at (Some from) 0 → high ≡ rank_at (Some last) (2 ^ 64 - 1) → IsFirstWhole cs low high None →
      (n : ℕ) → from ≤ n → n ≤ last → HasNoWhole f kept l n
  none_lowest_by from last low high a b none =
      none_lowest from last (subst (λ (u : ℕ). IsFirstWhole cs u (rank_at (Some last) (2 ^ 64 - 1)) None) a (subst (λ (v : ℕ). IsFirstWhole cs low v None) b none))

  first_place : (g : Format) (x y : Piece) → IsFirst g x → IsFirst g y → x.number ≡ y.number → rank_of g x ≤ rank_of g y → (x.index ≤ y.index) ⊎ (rank_of g x ≡ rank_of g y)
  first_place Plain x y a b number le = let key = ap key_of number in inl (omega (arith, key, le))
  first_place Interleaved x y a b number le = let key = ap key_of number in inr (omega (arith, key, a, b))

  -- the lowest whole message is the one found, and what stays are the chunks above its number
  took_lowest : {F : Type 0} (from last : ℕ) (w : Found) (mid : List ChainKept) (b : ℕ) (d : ChainKept) (num high : ℕ) (m : Whole) (new : Chains F) → is_numbered f l.kind ≡ true →
      IsFirstWhole cs (rank_at (Some from) 0) (rank_at (Some last) (2 ^ 64 - 1)) (Some w) → Removes w.at cs mid bytes b d → num ≡ d.first / 2 ^ 64 → high ≡ rank_at (Some num) (2 ^ 64 - 1) →
      LetsGo high 0 mid (map chain_of new.filed.chains.items) b new.held → IsWholeOf d w.head (Some num) m → TakesLowest f l kept from last (Some m) new
  unfolding StandsFor
  took_lowest from last w mid b d num high m new numbered (c, at, low, up, before) taken num_is high_is lets says = (
    n,
    record {
      number = says.number ∙ ap (λ (i : ℕ). Some i) same_num;
      low = let e = rank_in.1 in omega (arith, low, first, e);
      high = let e = rank_in.0 in omega (arith, up, first, e);
      before = λ k from_on under. no_whole k (λ e there a z. before e there (omega (arith, from_on, a)) (let i = rank_in.0 in omega (arith, under, z, first, i)));
      head = x;
      rest = q.rest;
      whole = (q.of.whole, q.of.within, (of.lane, number));
      lowest = λ y ys w. lowest y ys w;
      made = made f kept d x q.rest w.head (Some num) m (subst (λ (e : ChainKept). AreOf f kept e x q.rest) (sym q.same) q.of) (ap (λ (e : ChainKept). e.head) q.same ∙ at.head) says (ap (λ (i : ℕ). Some i) same_num ∙ sym number);
      left = stays f l cs (map chain_of new.filed.chains.items) bytes new.held kept h (is_outside 0 top) (λ (z : Piece). not (is_number_below (suc n) z.number)) leaves (λ z there. below_agrees f l z n (h.of z there) numbered);
    },
  )
    where
      q : IsFoundOut f kept cs mid bytes b c d
      q = found_out f l cs mid bytes b kept w c d h at taken

      x : Piece
      x = q.head

      of : IsOf f l x
      of = h.of x (q.of.within x (inl refl))

      n : ℕ
      n = (some_number x.number (of.numbered ∙ numbered)).0

      number : x.number ≡ Some n
      number = (some_number x.number (of.numbered ∙ numbered)).1

      first : rank_of f x ≡ c.first
      first = q.of.rank

      rank_in : (n * 2 ^ 64 ≤ rank_of f x) × (rank_of f x ≤ n * 2 ^ 64 + (2 ^ 64 - 1))
      rank_in = in_number f l x of n (ap key_of number)

      same_num : num ≡ n
      same_num = num_is ∙ ap (λ (e : ChainKept). e.first / 2 ^ 64) q.same ∙ ap (λ (r : ℕ). r / 2 ^ 64) (sym first ∙ ap (λ (k : ℕ). k * 2 ^ 64 + place_in f x.index x.begin x.word) (ap key_of number))
          ∙ divided n (place_in f x.index x.begin x.word) (place_small f l x of)

      top : ℕ
      top = rank_at (Some n) (2 ^ 64 - 1)

      high_top : high ≡ top
      high_top = high_is ∙ ap (λ (i : ℕ). rank_at (Some i) (2 ^ 64 - 1)) same_num

      inside_top : c.last ≤ top
      inside_top = subst (λ (i : Option ℕ). c.last ≤ rank_at i (2 ^ 64 - 1)) number (chain_end c x q.rest q.here q.of)

      leaves : Leaves (is_outside 0 top) cs (map chain_of new.filed.chains.items) bytes new.held
      leaves = leaves_both (is_outside c.first c.last) (is_outside 0 top) cs mid (map chain_of new.filed.chains.items) bytes b new.held q.out
          (subst (λ (u : ℕ). LetsGo u 0 mid (map chain_of new.filed.chains.items) b new.held) high_top lets q.out.chains 0 (cut_low mid)) (λ r e. out_of_both 0 c.first c.last top r (omega arith) inside_top e)

      lowest : (y : Piece) (ys : List Piece) → IsWholeNumber f kept l n (y ∷ ys) → x.index ≤ y.index
      lowest y ys whole =
          let e = chain_of_number n y ys whole in
          let of_y = h.of y (whole.1 y (inl refl)) in
          let after : c.first ≤ e.0.first = elim (cases_lt e.0.first c.first) [
            | inr late ↦ late
            | inl less ↦ absurd (
                let not_so = before e.0 e.1 (let i = rank_in.1 in let j = e.4 in omega (arith, low, first, i, j)) less in
                let yes_so = e.2 in
                let no_way : true ≡ false = sym yes_so ∙ not_so in cc)
          ] in
          let rank_y = e.3 in
          elim (first_place f x y q.of.whole.0 whole.0.0 (number ∙ sym whole.2.1) (omega (arith, after, first, rank_y))) [
            | inl le ↦ le
            | inr rank ↦
                let is = ap (λ (z : Piece). z.index) (h.apart x y (q.of.within x (inl refl)) (whole.1 y (inl refl)) (rank_place f l x y of of_y rank)) in
                omega (arith, is)
          ]

  pub took_lowest_by : {F : Type 0} (from last lower upper : ℕ) → lower ≡ rank_at (Some from) 0 → upper ≡ rank_at (Some last) (2 ^ 64 - 1) → (w : Found) (mid : List ChainKept) (b : ℕ) (d : ChainKept)
      (num high : ℕ) (m : Whole) (new : Chains F) → is_numbered f l.kind ≡ true → IsFirstWhole cs lower upper (Some w) → Removes w.at cs mid bytes b d → num ≡ d.first / 2 ^ 64 →
      high ≡ rank_at (Some num) (2 ^ 64 - 1) → LetsGo high 0 mid (map chain_of new.filed.chains.items) b new.held → IsWholeOf d w.head (Some num) m → TakesLowest f l kept from last (Some m) new
  took_lowest_by from last lower upper e g w mid b d num high m new numbered found taken num_is high_is lets says =
      took_lowest from last w mid b d num high m new numbered
      (subst (λ (u : ℕ). IsFirstWhole cs u (rank_at (Some last) (2 ^ 64 - 1)) (Some w)) e (subst (λ (v : ℕ). IsFirstWhole cs lower v (Some w)) g found)) taken num_is high_is lets says
