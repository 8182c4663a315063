-- What a SACK leaves at an end without a pace once its sender has taken it (RFC 9260, 6.2.1 and 6.3.2; RFC 3758, 3.5).
use Rattle.std.specs.Prelude.{◌≡◌, nat_lt, Option, None, Some, Result, Ok, Err}
use Rattle.sctp_model.specs.sender.SenderView.{SenderView}
use Rattle.sctp_model.specs.sender.Entries.{in_flight}
use Rattle.sctp_model.specs.sender.Readers.{unsettled}
use Rattle.sctp_model.specs.sender.SackTaken as taken
use Rattle.sctp_model.specs.sender.SackTaken.{sack_after}
use Rattle.sctp_model.specs.wire.Chunk.{SackMeaning}
use Rattle.sctp_model.specs.end.EndView.{EndView, DataAlarm, Timer}
use Rattle.sctp_model.specs.end.Clock.{is_point_past, renewed, replaced}
use Rattle.sctp_send.specs.SenderAnswers.{fault_meaning}
use Rattle.sctp_send.specs.declared.sack.SackFault.{SackFault}
use Rattle.sctp_association.specs.TimersMean.{kept_if}
use Rattle.sctp_association.specs.StartsMean.{started_if}
use Rattle.sctp_association.specs.declared.traffic.acknowledging.Acknowledged.{Acknowledged}

-- the first fault of a SACK, if it has one (RFC 9260, 6.2.1)
abbrev pub fault_of : {A : Type 0} → Result A SackFault → Option taken.SackFault
fault_of (Ok _) = None
fault_of (Err fault) = Some (fault_meaning fault)

-- what it leaves: `v` is the sender before it, `u` the sender after it
pub record IsLeft (v u : SenderView) (a : Acknowledged) : Type 0 where
  pub moved : a.moved ≡ nat_lt v.cum u.cum
  pub wanted : a.wanted ≡ unsettled u
  pub past : a.past ≡ is_point_past u
  pub flies : a.flies ≡ nat_lt 0 (in_flight u)

-- the data timer after a SACK, beside its pace, with this sender: it counts anew, where it is wanted (6.3.2)
abbrev pub timer_left : EndView → SenderView → Timer
timer_left e u = renewed e.configuration.first_wait e.moment (nat_lt e.sender.cum u.cum) (kept_if (unsettled u) (e.timers DataAlarm))

-- The end with this sender after a SACK, without a pace: a FORWARD is due where it would skip something; the data timer is as above, and where it rests starts
-- if data is in flight (6.3.2, R4).
abbrev pub left_with : EndView → SenderView → EndView
left_with e u = record e {
  sender = u;
  due = record e.due { forward = is_point_past u };
  timers = replaced DataAlarm (started_if (nat_lt 0 (in_flight u)) e.moment (timer_left e u)) e.timers;
}

-- the end after this SACK, without a pace
abbrev pub sack_counted : EndView → SackMeaning → EndView
sack_counted e s = left_with e (sack_after e.sender s)
