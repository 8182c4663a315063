use Rattle.sctp_chains.specs.Cells.{Kept}
use Rattle.sctp_chains.specs.StandsFor.{chain_count}
use Rattle.sctp_recv.specs.inner.Giving.{AreCounted, IsGivenSoFar}
use Rattle.sctp_recv.specs.declared.inbound.Inbound.{Inbound}
use Rattle.sctp_recv.proofs.give.give_kept.Given as goal

abbrev pub invariant-loop-whole : goal.invariant-loop-whole
invariant-loop-whole g l =
    (start : Inbound g.row.F.Denot) (kept : Kept) → AreCounted kept → IsGivenSoFar g.F.Framing.format l.stream l.floor kept start l.fn.inbound l.before →
    IsGivenSoFar g.F.Framing.format l.stream l.floor kept start l.inbound l.given

abbrev pub decreases-loop-whole : goal.decreases-loop-whole
decreases-loop-whole g l = chain_count l.inbound.ordered
