use Rattle.std.proofs.Common.{◌≡◌, ℕ, ◌-◌, map}
use Rattle.sctp_model.specs.sender.Words.{last_that}
use Rattle.sctp_send.specs.OutstandingFields.{item_meaning}
use Rattle.sctp_send.specs.inner.Weighing.{is_item_sent, passes_here}
use Rattle.sctp_send.proofs.pace.last.last_out.Given as goal

-- none of those behind was sent
abbrev pub invariant-loop-back : goal.invariant-loop-back
invariant-loop-back l = (size : ℕ) → last_that (λ j. passes_here is_item_sent (map (item_meaning size) l.outstanding.items) (j - 1)) l.to ≡ last_that (λ j. passes_here is_item_sent (map (item_meaning size) l.outstanding.items) (j - 1)) (l.to - l.back)
