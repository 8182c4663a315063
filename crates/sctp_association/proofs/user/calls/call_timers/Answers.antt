use Rattle.sctp_association.proofs.CallLemmas.{called_timers}
use Rattle.sctp_association.proofs.user.calls.call_timers.Goals as goal

pub returns : goal.returns
returns c = λ d. called_timers d c.args.timers.now _ _ _ _ _ c.stop.ensures c.stop-2.ensures c.stop-3.ensures c.stop-4.ensures c.stop-5.ensures
