use Rattle.std.proofs.Common.{refl, sym}
use Rattle.sctp_model.specs.end.EndView.{EndView}
use Rattle.sctp_association.specs.MachineStands.{MachineStands}
use Rattle.sctp_association.proofs.MachineLemmas.{joined, phase_joined}
use Rattle.sctp_association.proofs.BuildLemmas.{phase_at, stays_unjoined, with_end, with_sender, still_stands}
use Rattle.sctp_association.proofs.machine.Machine.pack.Goals as goal

pub returns-in-Unjoined-clause-packed : goal.returns-in-Unjoined-clause-packed
unfolding MachineStands
returns-in-Unjoined-clause-packed c = λ v stands off empty.
    let e : EndView = record v { moment = c.args.moment } in
    with_end c.pack_unjoined.result e v c.pack_unjoined.new.packing _
    (c.pack_unjoined.ensures e (sym stands.configuration) (phase_at _ _ v c.in-Unjoined.is stands) empty) (stays_unjoined _ _ v c.in-Unjoined.is stands)

pub returns-in-Joined-clause-packed : goal.returns-in-Joined-clause-packed
unfolding MachineStands
returns-in-Joined-clause-packed c = λ v stands off empty.
    let e : EndView = record v { moment = c.args.moment } in
    with_sender c.pack_joined.result v c.args.moment c.pack_joined.new.packing _ c.in-Joined.association c.pack_joined.new.association c.pack_joined.new.pace c.in-Joined.is stands c.pack_joined.ensures.kept
    (c.pack_joined.ensures.packed e (phase_joined _ _ v c.in-Joined.is stands)
    (record { configured = stands.configuration; due_stands = stands.due; traffic_stands = (joined _ _ v c.in-Joined.is stands).traffic; unasked = off })
    stands.pace refl empty)

pub returns-in-Joined-clause-memory : goal.returns-in-Joined-clause-memory
unfolding MachineStands
returns-in-Joined-clause-memory c = λ v stands.
    still_stands c.pack_joined.result v _ c.in-Joined.association c.pack_joined.new.association c.pack_joined.new.pace c.in-Joined.is stands c.pack_joined.ensures.kept
    (c.pack_joined.ensures.unchanged _ v.sender.cum v.pace stands.pace)
    (c.pack_joined.ensures.memory _ v.sender v.receiver (joined _ _ v c.in-Joined.is stands).traffic)
