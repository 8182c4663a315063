use Rattle.std.proofs.Common.{sym, false, arith}
use Rattle.sctp_send.proofs.TicketLemmas.{walked_rest}
use Rattle.sctp_send.proofs.kept.looking.are_past.Goals as goal

pub loop-at-preserved : goal.loop-at-preserved
loop-at-preserved c = λ size t le.
    walked_rest t size c.args.tracks.now c.loop-at.at c.index-tracks-at.result false (omega arith) c.index-tracks-at.is (sym (c.is_past.ensures size t c.if-not-is_past.false le)) (c.loop-at.invariant size t le)
