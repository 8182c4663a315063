use Rattle.sctp_association.specs.MachineStands.{MachineStands}
use Rattle.sctp_association.proofs.MachineLemmas.{joined, unjoined}
use Rattle.sctp_association.proofs.ProbeLemmas.{expires_none, expires_some, fresh_probes}
use Rattle.sctp_association.proofs.machine.Machine.expire_pace.Goals as goal

pub returns-in-None : goal.returns-in-None
unfolding MachineStands
returns-in-None c = λ v stands. expires_none c.args.self.now v c.in-None.is stands

pub returns-in-Unjoined : goal.returns-in-Unjoined
unfolding MachineStands
returns-in-Unjoined c = λ v stands.
    expires_some c.args.self.now v c.in-Some.pace c.expire.new.self c.in-Some.is stands (λ f cum p was. c.expire.ensures f cum v.sender p was (fresh_probes v.sender _ _ (unjoined _ _ v c.in-Unjoined.is stands).sender))

pub returns-in-Joined : goal.returns-in-Joined
unfolding MachineStands
returns-in-Joined c = λ v stands.
    expires_some c.args.self.now v c.in-Some.pace c.expire-in-Joined.new.self c.in-Some.is stands
    (λ f cum p was. c.expire-in-Joined.ensures f cum v.sender p was (c.is_probe.ensures _ v.sender v.receiver (joined _ _ v c.in-Joined.is stands).traffic))
