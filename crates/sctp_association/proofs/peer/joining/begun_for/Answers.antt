use Rattle.sctp_association.proofs.JoinLemmas.{begins_so}
use Rattle.sctp_association.proofs.peer.joining.begun_for.Goals as goal

pub returns : goal.returns
returns c =
    begins_so c.begun.result _ _ _ _ _ _ _ c.args.peer_rwnd _ c.args.config.now c.limit-limit.ensures.plain c.fragment.ensures.exact c.buffer.ensures.exact c.begun.ensures
