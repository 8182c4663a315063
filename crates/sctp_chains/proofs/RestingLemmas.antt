-- A lane of which no chain is whole, and none begins below a number.
use Rattle.std.proofs.Common.{◌≡◌, ℕ, zero, suc, ◌^◌, ◌-◌, ◌≤◌, true, false, List, Option, None, Some, refl, arith}
use Rattle.std.specs.Prelude.{not}
use Rattle.std.proofs.lemmas.Bool.Decides.{nat_tests}
use Rattle.sctp_model.specs.numbers.Lists.{Has}
use Rattle.sctp_model.specs.messages.Format.{Format, Lane, is_numbered}
use Rattle.sctp_model.specs.messages.Pieces.{Piece, is_number_below}
use Rattle.sctp_chains.specs.Cells.{rank_at}
use Rattle.sctp_chains.specs.Links.{ChainKept, is_whole}
use Rattle.sctp_chains.specs.StandsFor.{KeepsLane}
use Rattle.sctp_chains.specs.WholeOf.{IsResting, from_number}
use Rattle.sctp_chains.proofs.ListLemmas.{filter_all}
use Rattle.sctp_chains.proofs.AloneLemmas.{chunks_above}
use Rattle.sctp_chains.proofs.TakeLemmas.{none_lowest_by}

none_below_0 : (o : Option ℕ) → not (is_number_below 0 o) ≡ true
none_below_0 None = refl
none_below_0 (Some n) = grind (arith, nat_tests)

module _ (f : Format) (l : Lane) (cs : List ChainKept) (bytes : ℕ) (kept : List Piece) (h : KeepsLane f l cs bytes kept) (numbered : is_numbered f l.kind ≡ true) where
  all_from : (n : ℕ) → ((c : ChainKept) → Has cs c → rank_at (Some n) 0 ≤ c.first) → from_number n kept ≡ kept
  all_from zero above = filter_all (λ (x : Piece). not (is_number_below 0 x.number)) kept (λ y there. none_below_0 y.number)
  all_from (suc m) above = filter_all (λ (x : Piece). not (is_number_below (suc m) x.number)) kept (λ y there.
      let high = chunks_above f l cs bytes kept h numbered m (λ c has. let a = above c has in omega (arith, a)) y there in
      rw high refl)

  pub resting : (n : ℕ) → ((c : ChainKept) → Has cs c → is_whole c ≡ false) → ((c : ChainKept) → Has cs c → rank_at (Some n) 0 ≤ c.first) → IsResting f l kept n
  resting n none above = record {
    none = λ k. none_lowest_by f l cs bytes kept h k k (rank_at (Some k) 0) (rank_at (Some k) (2 ^ 64 - 1)) refl refl (λ c there low high. none c there) k (omega arith) (omega arith);
    above = all_from n above;
  }
