-- A message of one chunk, of a number below which and at which nothing is kept.
use Rattle.std.proofs.Common.{◌≡◌, ℕ, suc, ◌-◌, ◌^◌, ◌<◌, Bool, true, false, List, [], ◌∷◌, Option, Some, inl, inr, refl, sym, ◌∙◌, ap, subst, true≢false, arith}
use Rattle.std.specs.Prelude.{not, ◌||◌, ◌==◌, if◌then◌else◌}
use Rattle.std.proofs.lemmas.Bool.Decides.{nat_tests}
use Rattle.std.proofs.lemmas.Grind.{common_steps}
use Rattle.sctp_model.specs.numbers.Lists.{Has}
use Rattle.sctp_model.specs.messages.Format.{Format, Plain, Interleaved, Lane, is_numbered}
use Rattle.sctp_model.specs.messages.Framing.{begins_in, payload_in}
use Rattle.sctp_model.specs.messages.Pieces.{Piece, is_number_below, payload_of}
use Rattle.sctp_model.specs.messages.Whole.{IsFirst}
use Rattle.sctp_chains.specs.Cells.{cell_of, rank_at, rank_of, IsOf}
use Rattle.sctp_chains.specs.Links.{ChainKept}
use Rattle.sctp_chains.specs.StandsFor.{KeepsLane, StandsFor}
use Rattle.sctp_chains.specs.WholeOf.{IsMadeOf, TakesLowest, AreAbove, from_number}
use Rattle.sctp_chains.specs.declared.whole.Whole.{Whole}
use Rattle.sctp_chains.specs.declared.chains.Chains.{Chains}
use Rattle.sctp_chains.specs.inner.LettingGo.{is_outside}
use Rattle.sctp_chains.proofs.ListLemmas.{filter_all}
use Rattle.sctp_chains.proofs.ChainLemmas.{chain_ranks, cell_chain}
use Rattle.sctp_chains.proofs.WholeLemmas.{cell_at}
use Rattle.sctp_chains.proofs.LaneLemmas.{below_agrees}

-- all chains lie above a number: so do all chunks
pub chunks_above : (f : Format) (l : Lane) (cs : List ChainKept) (bytes : ℕ) (kept : List Piece) → KeepsLane f l cs bytes kept → is_numbered f l.kind ≡ true → (n : ℕ) →
    ((c : ChainKept) → Has cs c → rank_at (Some n) (2 ^ 64 - 1) < c.first) → AreAbove n kept
chunks_above f l cs bytes kept h numbered n above y there =
    let m = cell_chain cs (cell_of f y) (cell_at f l cs bytes kept h y there) in
    let low = (chain_ranks m.0 (h.chains.each m.0 m.1) (cell_of f y) m.2).0 in
    let past = above m.0 m.1 in
    let out : is_outside 0 (rank_at (Some n) (2 ^ 64 - 1)) (rank_of f y) ≡ true = beyond (rank_at (Some n) (2 ^ 64 - 1)) (rank_of f y) (omega (arith, low, past)) in
    let agrees = below_agrees f l y n (h.of y there) numbered in
    not_so (is_number_below (suc n) y.number) (agrees ∙ out)
  where
    beyond : (high r : ℕ) → high < r → is_outside 0 high r ≡ true
    beyond high r less = grind (arith, less, nat_tests, common_steps)

    not_so : (b : Bool) → not b ≡ true → b ≡ false
    not_so true e = absurd (cc)
    not_so false e = refl

-- a chunk with which a message begins
pub is_first : (f : Format) (x : Piece) → begins_in f x.begin x.word ≡ true → IsFirst f x
is_first Plain x e = e
is_first Interleaved x e = go x.begin x.word e
  where
    go : (b : Bool) (w : ℕ) → (b || (w == 0)) ≡ true → (if b then 0 else w) ≡ 0
    go true w e = refl
    go false w e = grind (arith, e, nat_tests)

pub same_payload : (f : Format) (x : Piece) → payload_in f x.begin x.word ≡ payload_of f x
same_payload Plain x = refl
same_payload Interleaved x = refl

-- it is taken, and all that is kept stays
pub alone_taken : {F : Type 0} (f : Format) (l : Lane) (kept : List Piece) (x : Piece) (n : ℕ) (m : Whole) (chains : Chains F) → IsOf f l x → x.number ≡ Some n → begins_in f x.begin x.word ≡ true →
    x.end ≡ true → AreAbove n kept → IsMadeOf f m x [] → StandsFor f chains l kept → TakesLowest f l (x ∷ kept) n n (Some m) chains
alone_taken f l kept x n m chains of is begins ends above made stands = (
  n,
  record {
    number = made.number ∙ is;
    low = omega arith;
    high = omega arith;
    before = λ k low high. absurd (omega (arith, low, high));
    head = x;
    rest = [];
    whole = ((is_first f x begins, ends), (λ z there. elim there [ inl same ↦ inl same | inr none ↦ absurd none ]), (of.lane, is));
    lowest = λ y ys w. elim (w.1 y (inl refl)) [
      | inl same ↦ (let i = ap (λ (z : Piece). z.index) same in omega (arith, i))
      | inr there ↦ absurd (true≢false (sym (own n y.number w.2.1) ∙ above y there))
    ];
    made = made;
    left = subst (StandsFor f chains l) (sym stay) stands;
  },
)
  where
    own : (k : ℕ) (o : Option ℕ) → o ≡ Some k → is_number_below (suc k) o ≡ true
    own k o e = subst (λ (p : Option ℕ). is_number_below (suc k) p ≡ true) (sym e) (grind (arith, nat_tests))

    stay : from_number (suc n) (x ∷ kept) ≡ kept
    stay = let goes = own n x.number is in rw goes (filter_all (λ (y : Piece). not (is_number_below (suc n) y.number)) kept (λ y there. let high = above y there in rw high refl))
