use Rattle.sctp_association.specs.StageMeans.{stage_meaning}
use Rattle.sctp_association.proofs.MachineLemmas.{open_in}
use Rattle.sctp_association.proofs.state.closing.turn_timers.Goals as goal

pub returns : goal.returns
returns c = λ t. open_in t (stage_meaning c.args.stage) _ c.args.timers.now _ _ _ c.keep_open.ensures (c.is_shutdown_sent.ensures.home t) (c.is_shutdown_ack_sent.ensures t) (c.is_established.ensures.home t)
