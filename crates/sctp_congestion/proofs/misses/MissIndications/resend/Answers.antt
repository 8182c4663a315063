use Rattle.sctp_model.specs.end.Misses.{goes_again}
use Rattle.sctp_congestion.proofs.misses.MissIndications.resend.Goals as goal

pub returns : goal.returns
returns c = λ cum m ws stands those. c.set_all.ensures cum m (goes_again ws) stands those
