use Rattle.std.proofs.Common.{arith}
use Rattle.std.proofs.lemmas.Grind.{common_steps}
use Rattle.std.proofs.lemmas.Result.{IfOk-from_err}
use Rattle.sctp_recv.proofs.resets.fresh_restarts.Goals as goal

pub returns-in_err-map_err : goal.returns-in_err-map_err
returns-in_err-map_err c = IfOk-from_err c.from_residual-in_err-map_err.result _ c.from_residual-in_err-map_err.ensures.0

pub loop-preserved : goal.loop-preserved
loop-preserved c = grind (arith, common_steps)
