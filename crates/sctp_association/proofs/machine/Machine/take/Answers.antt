use Rattle.std.proofs.Common.{sym}
use Rattle.sctp_model.specs.end.EndView.{EndView}
use Rattle.sctp_outcomes.proofs.Buffers.{take_keeps_buffer}
use Rattle.sctp_association.specs.MachineStands.{MachineStands}
use Rattle.sctp_association.proofs.MachineLemmas.{joined, unjoined, with_traffic}
use Rattle.sctp_association.proofs.CallLemmas.{takes_unjoined}
use Rattle.sctp_association.proofs.OptionLemmas.{unupdating}
use Rattle.sctp_association.proofs.CumLemmas.{no_lower}
use Rattle.sctp_association.proofs.machine.Machine.take.Goals as goal

pub returns-in-Unjoined : goal.returns-in-Unjoined
unfolding MachineStands
returns-in-Unjoined c = λ v stands. (v, takes_unjoined v _ _ c.args.stream (unjoined _ _ v c.in-Unjoined.is stands).receiver stands.options, stands)

pub returns-in-Joined : goal.returns-in-Joined
unfolding MachineStands
returns-in-Joined c = λ v stands.
    let a = c.take.ensures _ v.sender v.receiver (joined _ _ v c.in-Joined.is stands).traffic in
    let after : EndView = record v { receiver = a.0 } in (
      after,
      record { receiver = a.0; takes = a.1; leaves = sym (unupdating after stands.options) },
      with_traffic _ _ _ v v.sender a.0 c.in-Joined.is stands a.2 (no_lower v.sender.cum) (take_keeps_buffer v.receiver c.args.stream _ a.0 a.1)
          (c.resets_stay.ensures.take v.receiver c.args.stream _ a.0 a.1),
    )
