use Rattle.std.proofs.Common.{◌∙◌, refl}
use Rattle.sctp_model.specs.end.EndView.{EndView}
use Rattle.sctp_association.specs.MachineStands.{MachineStands}
use Rattle.sctp_association.proofs.MachineLemmas.{joined, phase_unjoined_at}
use Rattle.sctp_association.proofs.BuildLemmas.{still_stands}
use Rattle.sctp_association.proofs.PlainLemmas.{never_open, plain_sender}
use Rattle.sctp_association.proofs.machine.Machine.pack_plain.Goals as goal

pub returns-in-Unjoined-clause-packed : goal.returns-in-Unjoined-clause-packed
unfolding MachineStands
returns-in-Unjoined-clause-packed c = λ v t g stands phase plain calm empty.
    absurd (never_open _ t g (phase_unjoined_at _ _ v c.in-Unjoined.is stands ∙ phase))

pub returns-in-Joined-clause-packed : goal.returns-in-Joined-clause-packed
unfolding MachineStands
returns-in-Joined-clause-packed c = λ v t g stands phase plain calm empty.
    let e : EndView = record v { moment = c.args.moment } in
    let traffic = (joined _ _ v c.in-Joined.is stands).traffic in
    plain_sender c.put_plain.result v c.args.moment c.args.self.now.due c.put_plain.new.writer _ c.in-Joined.association (record c.in-Joined.association { traffic = c.put_plain.new.traffic }) c.put_plain.new.pace c.in-Joined.is stands refl
    (c.put_plain.ensures.packed e t g c.args.self.now.due phase stands.pace refl plain (record { answers = calm.answers; unasked = calm.unasked }) traffic empty)

pub returns-in-Joined-clause-memory : goal.returns-in-Joined-clause-memory
unfolding MachineStands
returns-in-Joined-clause-memory c = λ v stands.
    still_stands c.put_plain.result v _ c.in-Joined.association (record c.in-Joined.association { traffic = c.put_plain.new.traffic }) c.put_plain.new.pace c.in-Joined.is stands refl
    (c.put_plain.ensures.unchanged _ v.sender.cum v.pace stands.pace)
    (c.put_plain.ensures.memory _ v.sender v.receiver (joined _ _ v c.in-Joined.is stands).traffic)
