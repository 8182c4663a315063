-- The whole message of one chunk: whether there is one, and what goes with it.
use Rattle.std.proofs.Common.{◌≡◌, ℕ, ◌+◌, ◌-◌, ◌*◌, ◌^◌, ◌<◌, ◌≤◌, true, false, ◌==◌, List, [], ◌∷◌, map, Option, Some, None, inl, inr, refl, sym, ◌∙◌, ap, subst, arith}
use Rattle.std.specs.Prelude.{not, ◌&&◌}
use Rattle.std.proofs.lemmas.Bool.{cases_Bool, eq-eqb, or_right}
use Rattle.std.proofs.lemmas.Bool.Decides.{nat_tests}
use Rattle.std.proofs.lemmas.Grind.{common_steps}
use Rattle.sctp_model.specs.numbers.Lists.{Has}
use Rattle.sctp_model.specs.messages.Format.{Format, Plain, Interleaved, Lane, Unordered, is_numbered, same_lane}
use Rattle.sctp_model.specs.messages.Framing.{place_in}
use Rattle.sctp_model.specs.messages.Pieces.{Piece, same_number}
use Rattle.sctp_model.specs.receiver.Receiving.{has_index, goes_with, HasNoWholeWith}
use Rattle.sctp_model.proofs.receiver.RowFacts.{row_same, lane_same}
use Rattle.sctp_chains.specs.Cells.{Cell, cell_of, key_of, rank_at, rank_of, IsOf}
use Rattle.sctp_chains.specs.Links.{ChainKept, chain_of}
use Rattle.sctp_chains.specs.StandsFor.{KeepsLane, StandsFor}
use Rattle.sctp_chains.specs.WholeOf.{IsWholeOf, TakesMessage}
use Rattle.sctp_chains.specs.declared.search.Found.{Found}
use Rattle.sctp_chains.specs.declared.whole.Whole.{Whole}
use Rattle.sctp_chains.specs.declared.chains.Chains.{Chains}
use Rattle.sctp_chains.specs.inner.Finding.{IsIn, IsWholeWithRank}
use Rattle.sctp_chains.specs.inner.LettingGo.{is_outside, Leaves, IsCut, LetsGo, Removes}
use Rattle.sctp_chains.proofs.ListLemmas.{has_map}
use Rattle.sctp_chains.proofs.ChainLemmas.{chain_ranks}
use Rattle.sctp_chains.proofs.DroppingLemmas.{inside}
use Rattle.sctp_chains.proofs.RankLemmas.{place_small, rank_place, one_number}
use Rattle.sctp_chains.proofs.HeldLemmas.{same_numbers}
use Rattle.sctp_chains.proofs.WholeLemmas.{AreOf, whole_is_chain}
use Rattle.sctp_chains.proofs.FoundLemmas.{IsFoundOut, found_out}
use Rattle.sctp_chains.proofs.LaneLemmas.{stays, leaves_both}
use Rattle.sctp_chains.proofs.TakeLemmas.{made, rank_has, in_number, out_of_both, chain_end}

-- the highest rank of what goes with a whole chain
abbrev pub top_of : Format → ChainKept → Option ℕ → ℕ
top_of Plain c n = c.last
top_of Interleaved c n = rank_at n (2 ^ 64 - 1)

pub top_numbered : (f : Format) → is_numbered f Unordered ≡ true → (c : ChainKept) (n : Option ℕ) → rank_at n (2 ^ 64 - 1) ≡ top_of f c n
top_numbered Plain e c n = absurd (let no_way : false ≡ true = e in cc)
top_numbered Interleaved e c n = refl

pub top_plain : (f : Format) → is_numbered f Unordered ≡ false → (c : ChainKept) (n : Option ℕ) → c.last ≡ top_of f c n
top_plain Plain e c n = refl
top_plain Interleaved e c n = absurd (let no_way : true ≡ false = e in cc)

inside_says : (low high r : ℕ) → is_outside low high r ≡ false → (low ≤ r) × (r ≤ high)
inside_says low high r e = (grind (arith, e, nat_tests, common_steps), grind (arith, e, nat_tests, common_steps))

index_own : (xs : List Piece) (y : Piece) → Has xs y → has_index xs y.index ≡ true
index_own [] y there = absurd there
index_own (x ∷ xs) y (inl is) = let same = eq-eqb x.index y.index (ap (λ (z : Piece). z.index) is) in rw same refl
index_own (x ∷ xs) y (inr there) = or_right (x.index == y.index) (has_index xs y.index) (index_own xs y there)

pub index_none : (xs : List Piece) (i : ℕ) → ((w : Piece) → Has xs w → w.index ≡ i → ⊥) → has_index xs i ≡ false
index_none [] i none = refl
index_none (x ∷ xs) i none = elim (cases_Bool (x.index == i)) [
  | inl e ↦ absurd (none x (inl refl) (grind (arith, e, nat_tests)))
  | inr e ↦ rw e (index_none xs i (λ w there. none w (inr there)))
]

-- a number's ranks tell it
key_within : (a b p : ℕ) → p < 2 ^ 64 → b * 2 ^ 64 ≤ a * 2 ^ 64 + p → a * 2 ^ 64 + p ≤ b * 2 ^ 64 + (2 ^ 64 - 1) → a ≡ b
key_within a b p small low high = omega (arith, small, low, high)

module _ (f : Format) (l : Lane) (cs : List ChainKept) (bytes : ℕ) (kept : List Piece) (h : KeepsLane f l cs bytes kept) where
  in_message : (c : ChainKept) (x : Piece) (xs : List Piece) → Has cs c → AreOf f kept c x xs → (y : Piece) → Has kept y → IsIn (rank_of f y) c → Has (x ∷ xs) y
  in_message c x xs there o y here in_it =
      let m = rank_has f kept c x xs o (h.chains.each c there).last (rank_of f y) in_it in
      let kept_z = o.within m.0 m.1 in
      subst (Has (x ∷ xs)) (h.apart m.0 y kept_z here (rank_place f l m.0 y (h.of m.0 kept_z) (h.of y here) m.2)) m.1

  rank_in : (c : ChainKept) (x : Piece) (xs : List Piece) → Has cs c → AreOf f kept c x xs → (z : Piece) → Has (x ∷ xs) z → IsIn (rank_of f z) c
  rank_in c x xs there o z here = chain_ranks c (h.chains.each c there) (cell_of f z) (subst (λ (ks : List Cell). Has ks (cell_of f z)) o.cells (has_map (cell_of f) (x ∷ xs) z here))

  pub none_with : (r : ℕ) (y : Piece) → IsWholeWithRank cs r None → r ≡ rank_of f y → HasNoWholeWith f kept y
  none_with r y none is [] w = w.0
  none_with r y none is (x ∷ xs) (whole, within, has) =
      let m = whole_is_chain f l cs bytes kept h x xs whole within in
      let not_so = none m.0 m.1 (subst (λ (i : ℕ). IsIn i m.0) (sym is) (rank_in m.0 x xs m.1 m.3 y has)) in
      let yes_so = m.2 in
      let no_way : true ≡ false = sym yes_so ∙ not_so in cc

-- what goes with the message lies within its ranks
plain_agrees : (l : Lane) (cs : List ChainKept) (bytes : ℕ) (kept : List Piece) → KeepsLane Plain l cs bytes kept → (c : ChainKept) (x : Piece) (xs : List Piece) → Has cs c → AreOf Plain kept c x xs →
    (z : Piece) → Has kept z → not (has_index (x ∷ xs) z.index) ≡ is_outside c.first c.last (rank_of Plain z)
plain_agrees l cs bytes kept h c x xs there o z here = elim (cases_Bool (is_outside c.first c.last (rank_of Plain z))) [
  | inl out ↦
      let none = index_none (x ∷ xs) z.index (λ w in_xs same.
      let is = h.apart w z (o.within w in_xs) here same in
      let in_it = rank_in Plain l cs bytes kept h c x xs there o z (subst (Has (x ∷ xs)) is in_xs) in
      let not_out = inside c.first c.last (rank_of Plain z) in_it.0 in_it.1 in
      let no_way : true ≡ false = sym out ∙ not_out in cc) in
      rw (none, out) refl
  | inr in_it ↦
      let own = index_own (x ∷ xs) z (in_message Plain l cs bytes kept h c x xs there o z here (inside_says c.first c.last (rank_of Plain z) in_it)) in
      rw (own, in_it) refl
]

numbered_agrees : (l : Lane) (cs : List ChainKept) (bytes : ℕ) (kept : List Piece) → KeepsLane Interleaved l cs bytes kept → (c : ChainKept) (x : Piece) (xs : List Piece) → AreOf Interleaved kept c x xs →
    (z : Piece) → Has kept z → not (same_lane z.lane x.lane && same_number z.number x.number) ≡ is_outside c.first (rank_at x.number (2 ^ 64 - 1)) (rank_of Interleaved z)
numbered_agrees l cs bytes kept h c x xs o z here = rw lane (elim (cases_Bool (same_number z.number x.number)) [
  | inl e ↦
      let at = in_number Interleaved l z of_z (key_of x.number) (ap key_of ((same_numbers z.number x.number).1 e)) in
      let within = inside c.first (rank_at x.number (2 ^ 64 - 1)) (rank_of Interleaved z) (let low = at.0 in omega (arith, low, first)) (let high = at.1 in omega (arith, high)) in
      rw (e, within) refl
  | inr e ↦ elim (cases_Bool (is_outside c.first (rank_at x.number (2 ^ 64 - 1)) (rank_of Interleaved z))) [
    | inl out ↦ rw (e, out) refl
    | inr within ↦
        let at = inside_says c.first (rank_at x.number (2 ^ 64 - 1)) (rank_of Interleaved z) within in
        let key = key_within (key_of z.number) (key_of x.number) (place_in Interleaved z.index z.begin z.word) (place_small Interleaved l z of_z)
        (let low = at.0 in omega (arith, low, first)) (let high = at.1 in omega (arith, high)) in
        let same = (same_numbers z.number x.number).0 (one_number _ z.number x.number of_z.numbered of_x.numbered key) in
        absurd (let no_way : true ≡ false = sym same ∙ e in cc)
  ]
])
  where
    of_z : IsOf Interleaved l z
    of_z = h.of z here

    of_x : IsOf Interleaved l x
    of_x = h.of x (o.within x (inl refl))

    lane : same_lane z.lane x.lane ≡ true
    lane = lane_same z.lane x.lane (of_z.lane ∙ sym of_x.lane)

    -- the message begins at the lowest rank of its number
    first : c.first ≡ key_of x.number * 2 ^ 64
    first = let zero_place = o.whole.0 in let rank = o.rank in omega (arith, zero_place, rank)

goes_agrees : (f : Format) (l : Lane) (cs : List ChainKept) (bytes : ℕ) (kept : List Piece) → KeepsLane f l cs bytes kept → (c : ChainKept) (x : Piece) (xs : List Piece) → Has cs c → AreOf f kept c x xs →
    (z : Piece) → Has kept z → not (goes_with f (x ∷ xs) z) ≡ is_outside c.first (top_of f c x.number) (rank_of f z)
goes_agrees Plain l cs bytes kept h c x xs there o z here = plain_agrees l cs bytes kept h c x xs there o z here
goes_agrees Interleaved l cs bytes kept h c x xs there o z here = numbered_agrees l cs bytes kept h c x xs o z here

top_high : (f : Format) (c : ChainKept) (n : Option ℕ) → c.last ≤ rank_at n (2 ^ 64 - 1) → c.last ≤ top_of f c n
top_high Plain c n le = omega arith
top_high Interleaved c n le = le

-- the chunk's message is the one found, and what goes with it is gone
module _ {F : Type 0} (f : Format) (l : Lane) (cs : List ChainKept) (bytes : ℕ) (kept : List Piece) (h : KeepsLane f l cs bytes kept) (y : Piece) (there : Has kept y) where
  pub took_with : (r : ℕ) (w : Found) (mid : List ChainKept) (b : ℕ) (d : ChainKept) (high : ℕ) (m : Whole) (new : Chains F) → r ≡ rank_of f y → IsWholeWithRank cs r (Some w) →
      Removes w.at cs mid bytes b d → high ≡ top_of f d y.number → LetsGo high w.at mid (map chain_of new.filed.chains.items) b new.held → IsWholeOf d w.head y.number m → TakesMessage f l kept y m new
  unfolding StandsFor
  took_with r w mid b d high m new r_is (c, at, in_it) taken high_is lets says = record {
    head = x;
    rest = q.rest;
    whole = (q.of.whole, q.of.within, has);
    made = made f kept d x q.rest w.head y.number m (subst (λ (e : ChainKept). AreOf f kept e x q.rest) (sym q.same) q.of) (ap (λ (e : ChainKept). e.head) q.same ∙ at.head) says number;
    left = stays f l cs (map chain_of new.filed.chains.items) bytes new.held kept h (is_outside c.first top) (λ (z : Piece). not (goes_with f (x ∷ q.rest) z)) leaves (λ z z_kept. goes_agrees f l cs bytes kept h c x q.rest q.here q.of z z_kept);
  }
    where
      q : IsFoundOut f kept cs mid bytes b c d
      q = found_out f l cs mid bytes b kept w c d h at taken

      x : Piece
      x = q.head

      has : Has (x ∷ q.rest) y
      has = in_message f l cs bytes kept h c x q.rest q.here q.of y there (subst (λ (i : ℕ). IsIn i c) r_is in_it)

      number : y.number ≡ x.number
      number = (row_same f x q.rest y q.of.whole.1 has).1

      top : ℕ
      top = top_of f c x.number

      high_top : high ≡ top
      high_top = high_is ∙ (λ i. top_of f (q.same i) (number i))

      rest : Leaves (is_outside c.first top) mid (map chain_of new.filed.chains.items) b new.held
      rest = subst (λ (u : ℕ). Leaves (is_outside c.first u) mid (map chain_of new.filed.chains.items) b new.held) high_top
          (lets q.out.chains c.first (subst (λ (e : ChainKept). IsCut e.first mid w.at) q.same (taken.rest h.chains at.within)))

      leaves : Leaves (is_outside c.first top) cs (map chain_of new.filed.chains.items) bytes new.held
      leaves = leaves_both (is_outside c.first c.last) (is_outside c.first top) cs mid (map chain_of new.filed.chains.items) bytes b new.held q.out rest
          (λ i e. out_of_both c.first c.first c.last top i (omega arith) (top_high f c x.number (chain_end f l cs bytes kept h c x q.rest q.here q.of)) e)
