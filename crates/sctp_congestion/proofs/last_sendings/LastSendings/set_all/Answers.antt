use Rattle.std.proofs.Common.{ℕ, List, take, refl, ◌∙◌, subst, arith}
use Rattle.std.proofs.lemmas.List.{take_all}
use Rattle.sctp_congestion.specs.Went.{WentStands, went_again}
use Rattle.sctp_congestion.proofs.WentLemmas.{set_more}
use Rattle.sctp_congestion.proofs.last_sendings.LastSendings.set_all.Goals as goal

pub loop-index-preserved : goal.loop-index-preserved
loop-index-preserved c = record {
  room = c.set.ensures.room ∙ c.loop-index.invariant.room;
  stands = λ cum went stands all.
      let n : ℕ = c.loop-index.index-index in
      let is : List ℕ = c.args.indexes.now in
      let room = c.loop-index.invariant.room in
      let low = all n 0 (omega arith) in
      set_more cum c.args.number _ n 0 c.set.new.self is went (omega arith) refl
      (c.set.ensures.step cum (went_again (take n is) c.args.number went) (c.loop-index.invariant.stands cum went stands all) (omega (arith, room, low)));
}

pub returns : goal.returns
returns c = λ cum went stands all.
    subst (λ (is : List ℕ). WentStands cum c.loop-index.self (went_again is c.args.number went)) (take_all c.loop-index.index-index c.args.indexes.now (omega arith))
    (c.loop-index.invariant.stands cum went stands all)
