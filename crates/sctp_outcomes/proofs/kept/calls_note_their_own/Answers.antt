use Rattle.sctp_outcomes.proofs.logs.Called.{connect_keeps_logs, shutdown_keeps_logs, abort_keeps_logs, abandon_keeps_logs, send_gives_tickets, take_takes_one, reset_keeps_logs, told_keeps_logs}
use Rattle.sctp_outcomes.proofs.kept.calls_note_their_own.Goals as goal

pub returns-clause-connect : goal.returns-clause-connect
returns-clause-connect c = connect_keeps_logs

pub returns-clause-reset : goal.returns-clause-reset
returns-clause-reset c = reset_keeps_logs

pub returns-clause-told : goal.returns-clause-told
returns-clause-told c = told_keeps_logs

pub returns-clause-shutdown : goal.returns-clause-shutdown
returns-clause-shutdown c = shutdown_keeps_logs

pub returns-clause-abort : goal.returns-clause-abort
returns-clause-abort c = abort_keeps_logs

pub returns-clause-abandon : goal.returns-clause-abandon
returns-clause-abandon c = abandon_keeps_logs

pub returns-clause-send : goal.returns-clause-send
returns-clause-send c = send_gives_tickets

pub returns-clause-take : goal.returns-clause-take
returns-clause-take c = take_takes_one
