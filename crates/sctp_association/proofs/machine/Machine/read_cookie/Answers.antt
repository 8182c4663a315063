use Rattle.std.proofs.Common.{sym}
use Rattle.sctp_association.specs.MachineStands.{MachineStands}
use Rattle.sctp_association.proofs.machine.Machine.read_cookie.Goals as goal

pub returns-in-Some : goal.returns-in-Some
unfolding MachineStands
returns-in-Some c = λ v stands.
    let of = c.in-Some.ensures v stands in
    (of.0, of.1, c.read_cookie.ensures.read of.0 v of.2 (record { configured = sym stands.configuration; now = sym stands.clock }))
