-- A view has one SACK: one cumulative index, and one list of the runs above it.
use Rattle.std.proofs.Common.{◌≡◌, ℕ, ◌<◌, List, sym, subst, ◌∙◌, arith}
use Rattle.sctp_model.specs.numbers.Lists.{Has}
use Rattle.sctp_model.specs.wire.Chunk.{BlockMeaning, SackMeaning}
use Rattle.sctp_model.specs.receiver.ReceiverView.{ReceiverView}
use Rattle.sctp_model.specs.receiver.SackMade.{AreAllRuns, sack_of, IsSack}
use Rattle.sctp_model.proofs.receiver.Orders.{one_order}
use Rattle.sctp_model.proofs.receiver.OneStep.{cumulative_only}

-- of two runs at most one lies before the other
strict : (r : ReceiverView) (c : ℕ) (bs : List BlockMeaning) → AreAllRuns r c bs → (b d : BlockMeaning) → Has bs b → Has bs d → b.end < d.start → d.end < b.start → ⊥
strict r c bs all b d here there up down = let one = (all.runs b here).some in let two = (all.runs d there).some in omega (arith, one, two, up, down)

pub runs_only : (r : ReceiverView) (c : ℕ) (bs ds : List BlockMeaning) → AreAllRuns r c bs → AreAllRuns r c ds → bs ≡ ds
runs_only r c bs ds p q =
    one_order _ bs ds (strict r c bs p) (strict r c ds q) p.rising q.rising (λ b here. q.all b (p.runs b here)) (λ b here. p.all b (q.runs b here))

pub sack_only : (most : ℕ) (r : ReceiverView) (s t : SackMeaning) → IsSack most r s → IsSack most r t → s ≡ t
sack_only most r s t p q = p.is ∙ (λ i. sack_of most r (index i) (runs i)) ∙ sym q.is
  where
    index : p.c ≡ q.c
    index = cumulative_only r p.c q.c p.cumulative q.cumulative

    runs : p.runs ≡ q.runs
    runs = runs_only r q.c p.runs q.runs (subst (λ (c : ℕ). AreAllRuns r c p.runs) index p.all) q.all
