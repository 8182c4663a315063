use Rattle.std.proofs.Common.{◌-◌, length}
use Rattle.sctp_recv.proofs.places.+gather.Given as goal

abbrev pub decreases-gather : goal.decreases-gather
decreases-gather l = length l.places.now - l.at
