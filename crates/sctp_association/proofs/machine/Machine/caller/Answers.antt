use Rattle.std.proofs.Common.{refl}
use Rattle.sctp_model.specs.end.EndView as model
use Rattle.sctp_association.proofs.machine.Machine.caller.Goals as goal

pub returns : goal.returns
returns c = c.fresh.ensures model.Caller refl
