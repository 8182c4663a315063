use Rattle.std.proofs.Common.{sym, ◌∙◌}
use Rattle.sctp_model.specs.end.Acting.{HeartbeatNotHeard, HeartbeatCounts, heartbeat_heard}
use Rattle.sctp_endpoint.proofs.small.on_heartbeat.Goals as goal

pub returns-then-not-is_open-clause-step : goal.returns-then-not-is_open-clause-step
returns-then-not-is_open-clause-step c = λ v stands. (HeartbeatNotHeard (sym (c.is_open.ensures v stands) ∙ c.if-not-is_open.true), stands)

pub returns-clause-step : goal.returns-clause-step
returns-clause-step c = λ v stands. (
  heartbeat_heard v c.args.info.now,
  HeartbeatCounts (sym (c.is_open.ensures v stands) ∙ c.if-not-is_open.false),
  c.in_ok-hear_heartbeat.ensures.step v stands,
)
