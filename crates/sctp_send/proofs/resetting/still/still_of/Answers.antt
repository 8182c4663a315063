use Rattle.std.proofs.Common.{ℕ, List, ap, ◌∙◌, take, filter, arith}
use Rattle.std.proofs.lemmas.List.{take_all}
use Rattle.sctp_model.specs.numbers.Limits.{RESETS_AT_ONCE}
use Rattle.sctp_send.specs.inner.Resetting.{is_still_in, is_low}
use Rattle.sctp_send.proofs.resetting.CountedUp.{taken_step, all_at}
use Rattle.sctp_send.proofs.resetting.still.still_of.Goals as goal

pub loop-at-preserved : goal.loop-at-preserved
loop-at-preserved c = λ size low.
    taken_step (is_still_in size c.args.stock.now) RESETS_AT_ONCE c.loop-at.at c.args.streams.now c.loop-at.found.items c.name_one.new.found.items 0 (omega arith) (c.loop-at.invariant size low)
    (c.in_ok-name_one.ensures size (all_at is_low c.args.streams.now c.loop-at.at 0 low (omega arith)))

pub returns : goal.returns
returns c = λ size low. c.loop-at.invariant size low ∙ ap (λ (xs : List ℕ). take RESETS_AT_ONCE (filter (is_still_in size c.args.stock.now) xs)) (take_all c.loop-at.at c.args.streams.now (omega arith))
