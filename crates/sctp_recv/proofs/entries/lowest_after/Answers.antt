use Rattle.std.proofs.Common.{◌≡◌, ℕ, ◌-◌, ◌∙◌, min, max, sym, ap, arith}
use Rattle.sctp_model.specs.numbers.Serial.{COUNTS}
use Rattle.sctp_recv.specs.Fields.{lane_at}
use Rattle.sctp_recv.proofs.EntryLemmas.{lowest_more}
use Rattle.sctp_recv.proofs.entries.lowest_after.Goals as goal

both : (a b m : ℕ) → max (min a m) (min b m) ≡ min (max a b) m
both a b m = omega arith

pub loop-skip-preserved : goal.loop-skip-preserved
loop-skip-preserved g c =
    c.max-after.ensures ∙ (λ i. max (c.loop-skip.invariant i) (c.skipped_by.ensures i)) ∙ both _ _ (COUNTS - 1)
    ∙ ap (λ (n : ℕ). min n (COUNTS - 1)) (sym (lowest_more g.F.Framing.format (lane_at c.args.stream c.args.kind) c.args.base c.args.near c.args.lowest c.args.entries.now c.loop-skip.skip-index _ c.loop-skip-test.true))
