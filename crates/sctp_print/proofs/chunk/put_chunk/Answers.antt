use Rattle.sctp_print.specs.ChunkLines.{chunk_line}
use Rattle.sctp_print.proofs.chunk.put_chunk.Goals as goal

pub returns-in-Data-clause-put : goal.returns-in-Data-clause-put
unfolding chunk_line
returns-in-Data-clause-put c = rw c.in-Data.is c.put_data.ensures.put

pub returns-in-Init-clause-put : goal.returns-in-Init-clause-put
unfolding chunk_line
returns-in-Init-clause-put c = rw c.in-Init.is c.put_init.ensures.put

pub returns-in-InitAck-clause-put : goal.returns-in-InitAck-clause-put
unfolding chunk_line
returns-in-InitAck-clause-put c = rw c.in-InitAck.is c.put_init-in-InitAck.ensures.put

pub returns-in-Sack-clause-put : goal.returns-in-Sack-clause-put
unfolding chunk_line
returns-in-Sack-clause-put c = rw c.in-Sack.is c.put_sack.ensures.put

pub returns-in-Heartbeat-clause-put : goal.returns-in-Heartbeat-clause-put
unfolding chunk_line
returns-in-Heartbeat-clause-put c = rw c.in-Heartbeat.is c.put_info.ensures.put

pub returns-in-HeartbeatAck-clause-put : goal.returns-in-HeartbeatAck-clause-put
unfolding chunk_line
returns-in-HeartbeatAck-clause-put c = rw c.in-HeartbeatAck.is c.put_info-in-HeartbeatAck.ensures.put

pub returns-in-Abort-clause-put : goal.returns-in-Abort-clause-put
unfolding chunk_line
returns-in-Abort-clause-put c = rw c.in-Abort.is c.put_abort.ensures.put

pub returns-in-Shutdown-clause-put : goal.returns-in-Shutdown-clause-put
unfolding chunk_line
returns-in-Shutdown-clause-put c = rw c.in-Shutdown.is c.put_shutdown.ensures.put

pub returns-in-ShutdownAck-clause-put : goal.returns-in-ShutdownAck-clause-put
unfolding chunk_line
returns-in-ShutdownAck-clause-put c = rw c.in-ShutdownAck.is c.put_name.ensures.put

pub returns-in-Error-clause-put : goal.returns-in-Error-clause-put
unfolding chunk_line
returns-in-Error-clause-put c = rw c.in-Error.is c.put_error.ensures.put

pub returns-in-CookieEcho-clause-put : goal.returns-in-CookieEcho-clause-put
unfolding chunk_line
returns-in-CookieEcho-clause-put c = rw c.in-CookieEcho.is c.put_cookie.ensures.put

pub returns-in-CookieAck-clause-put : goal.returns-in-CookieAck-clause-put
unfolding chunk_line
returns-in-CookieAck-clause-put c = rw c.in-CookieAck.is c.put_name-in-CookieAck.ensures.put

pub returns-in-ShutdownComplete-clause-put : goal.returns-in-ShutdownComplete-clause-put
unfolding chunk_line
returns-in-ShutdownComplete-clause-put c = rw c.in-ShutdownComplete.is c.put_complete.ensures.put

pub returns-in-IData-clause-put : goal.returns-in-IData-clause-put
unfolding chunk_line
returns-in-IData-clause-put c = rw c.in-IData.is c.put_i_data.ensures.put

pub returns-in-ForwardTsn-clause-put : goal.returns-in-ForwardTsn-clause-put
unfolding chunk_line
returns-in-ForwardTsn-clause-put c = rw c.in-ForwardTsn.is c.put_forward.ensures.put

pub returns-in-IForwardTsn-clause-put : goal.returns-in-IForwardTsn-clause-put
unfolding chunk_line
returns-in-IForwardTsn-clause-put c = rw c.in-IForwardTsn.is c.put_i_forward.ensures.put

pub returns-in-Unknown-clause-put : goal.returns-in-Unknown-clause-put
unfolding chunk_line
returns-in-Unknown-clause-put c = rw c.in-Unknown.is c.put_unknown.ensures.put
