use Rattle.std.proofs.Common.{[], refl}
use Rattle.sctp_association.proofs.RequestLemmas.{no_items, responses_step, responses_end}
use Rattle.sctp_association.proofs.build.reconfiguring.responses.Goals as goal

pub loop-answer-init : goal.loop-answer-init
loop-answer-init c = ([], no_items _ c.new-value.ensures.items, refl)

pub loop-answer-preserved : goal.loop-answer-preserved
loop-answer-preserved c =
    let inv = c.loop-answer.invariant in
    (_, c.in_ok-put_response.ensures.writes inv.0 inv.1, responses_step c.args.answers.now c.loop-answer.answer-index _ inv.0 _ c.loop-answer-test.true inv.2)

pub returns : goal.returns
returns c =
    let inv = c.loop-answer.invariant in
    responses_end c.args.answers.now c.loop-answer.answer-index c.loop-answer.value.items inv.0 _ c.loop-answer-test.false inv.1 inv.2
