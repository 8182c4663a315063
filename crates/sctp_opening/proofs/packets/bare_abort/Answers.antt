use Rattle.std.proofs.Common.{[], arith}
use Rattle.sctp_opening.proofs.ListLemmas.{empty_list, abort-fits}
use Rattle.sctp_opening.proofs.packets.bare_abort.Goals as goal

pub lone_packet-requires-clause-fits : goal.lone_packet-requires-clause-fits
lone_packet-requires-clause-fits c = rw c.none.ensures (abort-fits c.args.reflected [] ([], empty_list) (omega arith))
