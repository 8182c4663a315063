use Rattle.std.proofs.Common.{sym}
use Rattle.sctp_dcep.specs.Meanings.{opening_meaning}
use Rattle.sctp_channels.proofs.OpeningLemmas.{opens_not}
use Rattle.sctp_channels.proofs.channels.Channels.open.Goals as goal

pub returns-in-Err-clause-step : goal.returns-in-Err-clause-step
returns-in-Err-clause-step c = λ v x stands. opens_not v x (opening_meaning c.args.parameters.now) c.args.stream c.in-Err.fault _ (sym (c.in-Err.ensures v x stands)) stands
