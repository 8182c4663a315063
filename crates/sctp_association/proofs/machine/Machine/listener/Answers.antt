use Rattle.std.proofs.Common.{refl}
use Rattle.sctp_model.specs.end.EndView as model
use Rattle.sctp_association.proofs.machine.Machine.listener.Goals as goal

pub returns : goal.returns
returns c = λ s under. c.fresh.ensures (model.Listener s) (s, refl, under)
