use Rattle.std.proofs.Common.{◌≡◌, ◌∙◌, ◌-◌, ◌<◌, ℕ, suc, List, length, get_or, ap, subst, arith}
use Rattle.sctp_send.specs.declared.kept.entry.CoveredRun.{CoveredRun}
use Rattle.sctp_send.proofs.pace.LastLemmas.{uncovered_past}
use Rattle.sctp_send.proofs.pace.weighing.last_known.Goals as goal

abbrev no_run : CoveredRun
no_run = record { from = 0; to = 0 }

pub returns-in-Some : goal.returns-in-Some
returns-in-Some c = λ covered cum i known lo hi.
    let rs = c.args.told.now.covered.items in
    let value : c.deref.result.now ≡ rs = c.deref.ensures.value in
    let some : 0 < length c.deref.result.now = c.in-Some.ensures.item.3.0 in
    let last : c.from.result ≡ (get_or rs (length rs - 1) no_run).to = c.from.ensures ∙ ap (λ (r : CoveredRun). r.to) (c.in-Some.ensures.item.3.1 no_run) ∙ ap (λ (xs : List CoveredRun). (get_or xs (length xs - 1) no_run).to) value in
    let long = ap (λ (xs : List CoveredRun). length xs) value in
    let count : suc (length rs - 1) ≡ length rs = omega (arith, some, long) in
    uncovered_past c.args.told.now.is_known rs covered cum (length rs - 1) i no_run c.if-not-told.false known count (subst (λ (n : ℕ). n < i) last lo)
