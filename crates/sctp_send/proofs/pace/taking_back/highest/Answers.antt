use Rattle.std.proofs.Common.{arith}
use Rattle.sctp_send.proofs.pace.OffsetLemmas.{rising_below, none_below}
use Rattle.sctp_send.proofs.pace.taking_back.highest.Goals as goal

pub returns-in-Some : goal.returns-in-Some
returns-in-Some c = λ above rising. rising_below above _ 0 c.args.list.now c.in-Some.ensures.item.3.0 (c.in-Some.ensures.item.3.1 0) rising

pub returns-in-None : goal.returns-in-None
returns-in-None c = λ above rising. none_below 0 c.args.list.now (omega (arith, c.in-None.ensures.item))
