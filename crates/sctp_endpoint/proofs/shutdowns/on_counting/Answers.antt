use Rattle.std.proofs.Common.{sym}
use Rattle.sctp_model.specs.end.EndView.{AbortedHere, EndView, ShutdownReceived}
use Rattle.sctp_model.specs.end.EndView as model
use Rattle.sctp_model.specs.end.Clock.{closed, turned}
use Rattle.sctp_model.specs.end.PeerFaults.{packet_to, abort_for, violation}
use Rattle.sctp_model.specs.end.Acting.{ShutdownWrong, ShutdownStale, ShutdownCounts, shutdown_heard}
use Rattle.sctp_association.specs.StageMeans.{tags_meaning, stage_meaning}
use Rattle.sctp_endpoint.proofs.RowLemmas.{no_bad_block, on_err}
use Rattle.sctp_endpoint.proofs.shutdowns.on_counting.Goals as goal

pub returns-in-Ok-clause-step : goal.returns-in-Ok-clause-step
returns-in-Ok-clause-step c = λ v stands phase takes.
    let t = tags_meaning c.args.opened.tags in
    let g = stage_meaning c.args.opened.stage in
    let none = sym (c.in-Ok.ensures.answer v t g stands phase) in
    (shutdown_heard t v c.args.tsn, ShutdownCounts t g phase takes none, c.turn.ensures _ t g (c.in-Ok.ensures.step v t g stands phase) phase)

pub returns-in-Err-Stale-clause-step : goal.returns-in-Err-Stale-clause-step
returns-in-Err-Stale-clause-step c = λ v stands phase takes.
    let t = tags_meaning c.args.opened.tags in
    let g = stage_meaning c.args.opened.stage in
    let fault = sym (rw c.in-Err-Stale.field-0-is at c.in-Err-Stale.ensures.answer v t g stands phase) in
    let same = c.in-Err-Stale.ensures.refused v t g stands phase in
    (turned (model.Open t ShutdownReceived) v, ShutdownStale t g phase takes fault, c.turn-in-Err-Stale.ensures v t g same phase)

pub returns-in_ok-abort_with-in-Err-Beyond-clause-step : goal.returns-in_ok-abort_with-in-Err-Beyond-clause-step
returns-in_ok-abort_with-in-Err-Beyond-clause-step c = λ v stands phase takes.
    let t = tags_meaning c.args.opened.tags in
    let g = stage_meaning c.args.opened.stage in
    let fault = sym (rw c.in-Err-Beyond.field-0-is at c.in-Err-Beyond.ensures.answer v t g stands phase) in
    let same = c.in-Err-Beyond.ensures.refused v t g stands phase in
    let made = c.in_ok-abort_with-in-Err-Beyond.ensures.step v same in
    (closed AbortedHere v, packet_to v.configuration t.peer (abort_for violation), ShutdownWrong t g phase takes fault, made.0, c.in_ok-abort_with-in-Err-Beyond.ensures.within v same, made.1)

pub returns-in_err-abort_with-in-Err-Beyond-clause-refused : goal.returns-in_err-abort_with-in-Err-Beyond-clause-refused
returns-in_err-abort_with-in-Err-Beyond-clause-refused c = λ v stands phase.
    on_err _ _ (c.in_err-abort_with-in-Err-Beyond.ensures.refused v (c.in-Err-Beyond.ensures.refused v _ _ stands phase))

pub returns-in_ok-abort_with-in-Err-BadBlock-clause-step : goal.returns-in_ok-abort_with-in-Err-BadBlock-clause-step
returns-in_ok-abort_with-in-Err-BadBlock-clause-step c = λ v stands phase takes.
    absurd (no_bad_block v.sender c.args.tsn (rw c.in-Err-BadBlock.field-0-is at c.in-Err-BadBlock.ensures.answer v _ _ stands phase))

pub returns-in_err-abort_with-in-Err-BadBlock-clause-refused : goal.returns-in_err-abort_with-in-Err-BadBlock-clause-refused
returns-in_err-abort_with-in-Err-BadBlock-clause-refused c = λ v stands phase.
    on_err _ _ (c.in_err-abort_with-in-Err-BadBlock.ensures.refused v (c.in-Err-BadBlock.ensures.refused v _ _ stands phase))
