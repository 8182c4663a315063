use Rattle.sctp_script.proofs.line.read_acting.Goals as goal

pub returns-in-Pair-clause-found : goal.returns-in-Pair-clause-found
returns-in-Pair-clause-found c = rw c.in-Pair.is c.read_pair.ensures

pub returns-in-DelayedPair-clause-found : goal.returns-in-DelayedPair-clause-found
returns-in-DelayedPair-clause-found c = rw c.in-DelayedPair.is c.read_delayed_pair.ensures

pub returns-in-Open-clause-found : goal.returns-in-Open-clause-found
returns-in-Open-clause-found c = rw c.in-Open.is c.opening.ensures

pub returns-in-At-clause-found : goal.returns-in-At-clause-found
returns-in-At-clause-found c = rw c.in-At.is c.read_at.ensures

pub returns-in-Draw-clause-found : goal.returns-in-Draw-clause-found
returns-in-Draw-clause-found c = rw c.in-Draw.is c.read_drawing.ensures

pub returns-in-Connect-clause-found : goal.returns-in-Connect-clause-found
returns-in-Connect-clause-found c = rw c.in-Connect.is c.read_connect.ensures

pub returns-in-Build-clause-found : goal.returns-in-Build-clause-found
returns-in-Build-clause-found c = rw c.in-Build.is c.read_build.ensures

pub returns-in-Deliver-clause-found : goal.returns-in-Deliver-clause-found
returns-in-Deliver-clause-found c = rw c.in-Deliver.is c.read_deliver.ensures

pub returns-in-Foreign-clause-found : goal.returns-in-Foreign-clause-found
returns-in-Foreign-clause-found c = rw c.in-Foreign.is c.read_foreign.ensures

pub returns-in-Send-clause-found : goal.returns-in-Send-clause-found
returns-in-Send-clause-found c = rw c.in-Send.is c.read_send.ensures

pub returns-in-Abandon-clause-found : goal.returns-in-Abandon-clause-found
returns-in-Abandon-clause-found c = rw c.in-Abandon.is c.read_abandon.ensures

pub returns-in-Take-clause-found : goal.returns-in-Take-clause-found
returns-in-Take-clause-found c = rw c.in-Take.is c.read_take.ensures

pub returns-in-Shutdown-clause-found : goal.returns-in-Shutdown-clause-found
returns-in-Shutdown-clause-found c = rw c.in-Shutdown.is c.read_shutdown.ensures

pub returns-in-Abort-clause-found : goal.returns-in-Abort-clause-found
returns-in-Abort-clause-found c = rw c.in-Abort.is c.read_abort.ensures
