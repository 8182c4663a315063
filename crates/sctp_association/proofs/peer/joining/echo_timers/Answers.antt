use Rattle.sctp_association.proofs.JoinLemmas.{echoed_timers}
use Rattle.sctp_association.proofs.peer.joining.echo_timers.Goals as goal

pub returns : goal.returns
returns c = λ t xs. echoed_timers t xs c.args.timers.now _ _ _ _ _ c.stop.ensures c.stop-2.ensures c.stop-3.ensures c.stop-4.ensures c.stop-5.ensures
