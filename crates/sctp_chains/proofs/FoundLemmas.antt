-- A whole chain that was found and then taken out, as the message that it is.
use Rattle.std.proofs.Common.{◌≡◌, ℕ, List, sym, ◌∙◌, subst}
use Rattle.sctp_model.specs.numbers.Lists.{Has}
use Rattle.sctp_model.specs.messages.Format.{Format, Lane}
use Rattle.sctp_model.specs.messages.Pieces.{Piece}
use Rattle.sctp_chains.specs.Links.{ChainKept}
use Rattle.sctp_chains.specs.StandsFor.{KeepsLane}
use Rattle.sctp_chains.specs.declared.search.Found.{Found}
use Rattle.sctp_chains.specs.inner.Finding.{IsWholeAt}
use Rattle.sctp_chains.specs.inner.LettingGo.{Leaves, is_outside, Removes}
use Rattle.sctp_chains.proofs.ListLemmas.{has_at}
use Rattle.sctp_chains.proofs.WholeLemmas.{AreOf, whole_chain}

-- The chain taken out is the one found, its chunks are a whole message, and all others stay.
pub record IsFoundOut (f : Format) (kept : List Piece) (cs mid : List ChainKept) (bytes left : ℕ) (c d : ChainKept) : Type 0 where
  pub same : d ≡ c
  pub here : Has cs c
  pub head : Piece
  pub rest : List Piece
  pub of : AreOf f kept c head rest
  pub out : Leaves (is_outside c.first c.last) cs mid bytes left

pub found_out : (f : Format) (l : Lane) (cs mid : List ChainKept) (bytes left : ℕ) (kept : List Piece) (w : Found) (c d : ChainKept) → KeepsLane f l cs bytes kept → IsWholeAt cs w c →
    Removes w.at cs mid bytes left d → IsFoundOut f kept cs mid bytes left c d
found_out f l cs mid bytes left kept w c d h at taken = record {
  same = same;
  here = here;
  head = found.0;
  rest = found.1;
  of = found.2;
  out = subst (λ (e : ChainKept). Leaves (is_outside e.first e.last) cs mid bytes left) same (taken.leaves h.chains at.within);
}
  where
    same : d ≡ c
    same = sym (taken.here c at.within) ∙ at.here c

    here : Has cs c
    here = subst (Has cs) (at.here c) (has_at cs w.at c at.within)

    found : (x : Piece) × (xs : List Piece) × AreOf f kept c x xs
    found = whole_chain f l cs bytes kept h c w.head here at.ends at.head
