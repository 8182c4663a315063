use Rattle.std.proofs.Common.{◌∙◌, ℕ, ap, subst}
use Rattle.std.specs.Prelude.{Option}
use Rattle.sctp_model.specs.messages.Format.{Format}
use Rattle.sctp_model.specs.sender.SackTaken.{shutdown_after}
use Rattle.sctp_model.specs.end.EndView.{Alarm, DataAlarm, Timer, format_of}
use Rattle.sctp_send.specs.PaceAnswers.{IsWeight}
use Rattle.sctp_association.specs.MachineStands.{MachineStands}
use Rattle.sctp_association.specs.Weighing.{timed_of}
use Rattle.sctp_association.proofs.MachineLemmas.{joined}
use Rattle.sctp_association.proofs.HearingLemmas.{never_open}
use Rattle.sctp_association.proofs.CumLemmas.{no_pace, pace_there}
use Rattle.sctp_association.proofs.machine.Machine.weigh_shutdown.Goals as goal

pub returns-in-None : goal.returns-in-None
unfolding MachineStands
returns-in-None c = λ v t g stands phase none. no_pace _ _ _ v.pace c.in-None.is stands.pace

pub returns-in-Unjoined : goal.returns-in-Unjoined
unfolding MachineStands
returns-in-Unjoined c = λ v t g stands phase none. absurd (never_open c.args.self.now _ v t g c.in-Unjoined.is stands phase)

pub returns-in-Joined : goal.returns-in-Joined
unfolding MachineStands
returns-in-Joined c = λ v t g stands phase none.
    let f : Format = format_of v in
    let (p, there, was) = pace_there f v.sender.cum _ c.in-Some.pace v.pace c.in-Some.is stands.pace in
    let traffic = (joined _ _ v c.in-Joined.is stands).traffic in
    let weight = subst (λ (o : Option ℕ). IsWeight f v.sender (shutdown_after v.sender c.args.tsn) o c.weigh_shutdown.result) (c.timed_by.ensures ∙ ap timed_of was.trips)
    (c.weigh_shutdown.ensures f v.sender v.receiver traffic none) in (
      p,
      there,
      record { weight = weight; flight = c.chunk_flight.ensures f v.sender v.receiver traffic; waits = c.has_more.ensures f v.sender v.receiver traffic },
      ap (λ (y : Timer). y.wait) (c.get.ensures ∙ ap (λ (h : Alarm → Timer). h DataAlarm) stands.timers),
    )
