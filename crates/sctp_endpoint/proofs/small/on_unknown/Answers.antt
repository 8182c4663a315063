use Rattle.std.proofs.Common.{◌∙◌, sym}
use Rattle.sctp_model.specs.wire.Typed.{typed_in}
use Rattle.sctp_model.specs.end.Reconfiguring.{parameters_heard}
use Rattle.sctp_model.specs.end.Acting.{ReconfigComes, IsUnknown}
use Rattle.sctp_wire.specs.RuleTree.{rule_meaning}
use Rattle.sctp_endpoint.proofs.UnknownLemmas.{reported, unknown_ends, unknown_goes_on}
use Rattle.sctp_endpoint.proofs.small.on_unknown.Goals as goal

pub returns-then-takes_reconfig-clause-step : goal.returns-then-takes_reconfig-clause-step
returns-then-takes_reconfig-clause-step c = λ v tag stands.
    let takes = sym (c.takes_reconfig.ensures v stands) ∙ c.if-takes_reconfig.true in
    let heard = c.in_ok-hear_reconfig.ensures.step v c.args.kind stands takes in
    (parameters_heard heard.0 v (typed_in c.args.value.now), ReconfigComes heard.0 takes heard.1, heard.2)

pub returns-then-rule-clause-step : goal.returns-then-rule-clause-step
returns-then-rule-clause-step c = λ v tag stands.
    let r = rule_meaning c.unknown_chunk-rule.result in
    let takes_not = sym (c.takes_reconfig.ensures v stands) ∙ c.if-takes_reconfig.false in
    (reported r v c.args.kind c.args.flags c.args.value.now, IsUnknown _ takes_not (unknown_ends r v _ _ _ c.unknown_chunk-rule.ensures c.if-rule.true), c.in_ok-report.ensures.step v stands)

pub returns-else-rule-clause-step : goal.returns-else-rule-clause-step
returns-else-rule-clause-step c = λ v tag stands.
    let r = rule_meaning c.unknown_chunk-rule.result in
    let takes_not = sym (c.takes_reconfig.ensures v stands) ∙ c.if-takes_reconfig.false in
    (reported r v c.args.kind c.args.flags c.args.value.now, IsUnknown _ takes_not (unknown_goes_on r v _ _ _ c.unknown_chunk-rule.ensures c.if-rule.false), c.in_ok-report.ensures.step v stands)
