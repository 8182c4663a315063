use Rattle.std.proofs.Common.{◌∙◌, ◌-◌, ◌<◌, ℕ, length, map, inl, inr, ap, arith}
use Rattle.std.proofs.lemmas.Bool.{cases_eq}
use Rattle.sctp_send.specs.OutstandingFields.{item_meaning}
use Rattle.sctp_send.specs.inner.Weighing.{is_item_closed, passes_here}
use Rattle.sctp_send.proofs.pace.HereLemmas.{here_read}
use Rattle.sctp_send.proofs.pace.tally.last_closed.Goals as goal

pub loop-back-preserved : goal.loop-back-preserved
loop-back-preserved c = λ size j lo hi.
    let es = c.args.outstanding.now.items in
    let at = c.min-end.result - (c.loop-back.back - c.args.from) in
    let back = c.loop-back.auto.back in
    let within : c.loop-back.back < c.min-end.result = c.loop-back-test.true in
    elim (cases_eq j at) [
      | inl same ↦
          let lt : at - 1 < length es = omega (arith, c.min-end.ensures, c.len.ensures, back, within) in
          ap (λ (n : ℕ). passes_here is_item_closed (map (item_meaning size) es) (n - 1)) same ∙ here_read is_item_closed size es (at - 1) c.get.result.now lt c.get.ensures ∙ c.if-get.false
      | inr other ↦ c.loop-back.invariant size j (omega (arith, lo, other, back, within)) hi
    ]
