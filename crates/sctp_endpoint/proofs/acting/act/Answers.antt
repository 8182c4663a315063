use Rattle.std.proofs.Common.{false, []}
use Rattle.sctp_endpoint.proofs.acting.act.Goals as goal

pub returns-in-Data-clause-step : goal.returns-in-Data-clause-step
returns-in-Data-clause-step c = λ v stands. rw c.in-Data.is (c.on_piece.ensures.step v stands)

pub returns-in-IData-clause-step : goal.returns-in-IData-clause-step
returns-in-IData-clause-step c = λ v stands. rw c.in-IData.is (c.on_piece-in-IData.ensures.step v stands)

pub returns-in-InitAck-clause-step : goal.returns-in-InitAck-clause-step
returns-in-InitAck-clause-step c = λ v stands. rw c.in-InitAck.is (c.on_init_ack.ensures.step v stands)

pub returns-in-Sack-clause-step : goal.returns-in-Sack-clause-step
returns-in-Sack-clause-step c = λ v stands. rw c.in-Sack.is (c.on_sack.ensures.step v stands)

pub returns-in-Heartbeat-clause-step : goal.returns-in-Heartbeat-clause-step
returns-in-Heartbeat-clause-step c = λ v stands. rw c.in-Heartbeat.is (c.on_heartbeat.ensures.step v stands)

pub returns-in-HeartbeatAck-clause-step : goal.returns-in-HeartbeatAck-clause-step
returns-in-HeartbeatAck-clause-step c = λ v stands. rw c.in-HeartbeatAck.is (c.on_heartbeat_ack.ensures v c.args.tag stands)

pub returns-in-Abort-clause-step : goal.returns-in-Abort-clause-step
returns-in-Abort-clause-step c = λ v stands. rw c.in-Abort.is (c.on_abort.ensures v c.args.tag false [] stands)

pub returns-in-Shutdown-clause-step : goal.returns-in-Shutdown-clause-step
returns-in-Shutdown-clause-step c = λ v stands. rw c.in-Shutdown.is (c.on_shutdown.ensures.step v stands)

pub returns-in-ShutdownAck-clause-step : goal.returns-in-ShutdownAck-clause-step
returns-in-ShutdownAck-clause-step c = λ v stands. rw c.in-ShutdownAck.is (c.on_shutdown_ack.ensures.step v stands)

pub returns-in-ShutdownComplete-clause-step : goal.returns-in-ShutdownComplete-clause-step
returns-in-ShutdownComplete-clause-step c = λ v stands. rw c.in-ShutdownComplete.is (c.on_complete.ensures v stands)

pub returns-in-ForwardTsn-clause-step : goal.returns-in-ForwardTsn-clause-step
returns-in-ForwardTsn-clause-step c = λ v stands. rw c.in-ForwardTsn.is (c.on_forward.ensures.step v stands)

pub returns-in-IForwardTsn-clause-step : goal.returns-in-IForwardTsn-clause-step
returns-in-IForwardTsn-clause-step c = λ v stands. rw c.in-IForwardTsn.is (c.on_forward-in-IForwardTsn.ensures.step v stands)

pub returns-in-Unknown-clause-step : goal.returns-in-Unknown-clause-step
returns-in-Unknown-clause-step c = λ v stands. rw c.in-Unknown.is (c.on_unknown.ensures.step v c.args.tag stands)
