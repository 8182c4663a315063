use Rattle.std.proofs.Common.{◌∙◌, ap, sym}
use Rattle.sctp_model.specs.end.Closing.{hears, takes_data}
use Rattle.sctp_association.proofs.machine.Machine.takes_data.Goals as goal

pub returns-in-Some : goal.returns-in-Some
returns-in-Some c = λ v stands. c.takes_data.ensures ∙ sym (ap (hears takes_data) (c.in-Some.ensures v stands))

pub returns-in-None : goal.returns-in-None
returns-in-None c = λ v stands. sym (c.in-None.ensures v stands takes_data)
