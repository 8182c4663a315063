-- What is known of an acknowledgement before an endpoint with a pace takes it, and what it answers (RFC 9260, 6.3.1, 6.3.2 and 7.2).
use Rattle.std.specs.Prelude.{◌≡◌, ℕ, ◌<◌, nat_le, nat_lt, Bool, false, ◌&&◌, Option, None, Some, option_map}
use Rattle.sctp_model.specs.messages.Format.{Format}
use Rattle.sctp_model.specs.messages.Framing.{header_of}
use Rattle.sctp_model.specs.sender.SenderView.{SenderView}
use Rattle.sctp_model.specs.sender.Readers.{has_more}
use Rattle.sctp_model.specs.end.Trips.{Trips}
use Rattle.sctp_model.specs.end.Misses.{is_missed, is_taken_back}
use Rattle.sctp_model.specs.end.Control.{chunk_flight}
use Rattle.sctp_model.specs.end.Pacing.{Pace, Heard, misses_heard}
use Rattle.sctp_model.specs.end.Clock.{paced_expiry}
use Rattle.sctp_model.specs.end.EndView.{EndView, DataAlarm, Timer}
use Rattle.sctp_send.specs.PaceAnswers.{IsWeight}
use Rattle.sctp_congestion.specs.PaceStands.{PaceKept, missed_at}
use Rattle.sctp_congestion.specs.declared.hearing.Reply.{Reply}
use Rattle.sctp_association.specs.declared.peer.pacing.Before.{Before}

-- the index that is timed, if there is one
abbrev pub timed_of : Trips → Option ℕ
timed_of t = option_map (λ x. x.index) t.timed

-- These are its numbers, at a sender of this format: `v` is the sender before it, `u` the sender after it, `p` the pace when it arrived.
pub record IsBefore (f : Format) (v u : SenderView) (p : Pace) (b : Before) : Type 0 where
  pub weight : IsWeight f v u (timed_of p.trips) b.weight
  pub flight : b.flight ≡ chunk_flight (header_of f) v
  pub waits : b.waits ≡ has_more v

-- an endpoint without a pace asks for none; one with a pace for these, and the RTO of its data timer
abbrev pub AreBefore : Format → EndView → SenderView → Option Before → Type 0
AreBefore f v u None = v.pace ≡ None
AreBefore f v u (Some b) = (p : Pace) × (v.pace ≡ Some p) × IsBefore f v.sender u p b × (b.rto ≡ (v.timers DataAlarm).wait)

-- nothing above CUM is taken back by it
abbrev pub TakesNoneBack : (v u : SenderView) → Type 0
TakesNoneBack v u = (i : ℕ) → u.cum < i → is_taken_back v u i ≡ false

-- the pace once its misses are counted
abbrev pub counted : (v u : SenderView) → Pace → Pace
counted v u p = record p { misses = misses_heard v u p.misses }

-- what a pace misses above CUM: that for which its test holds, from one index on, below another
abbrev pub AreMissedBelow : Pace → PaceKept → (cum from below : ℕ) → Type 0
AreMissedBelow p k cum from below = (i : ℕ) → cum < i → is_missed p.misses i ≡ (nat_le from i && (nat_lt i below && missed_at k i))

-- what follows from it
pub record IsReply (h : Heard) (r : Reply) : Type 0 where
  pub trip : r.trip ≡ h.trip
  pub moved : r.moved ≡ h.moved
  pub restarts : r.restarts ≡ h.anew

-- the data timer after it, with this RTO
abbrev pub followed : (now rto : ℕ) → (restarts flies : Bool) → Timer → Timer
followed now rto restarts flies t = record t { wait = rto; expiry = paced_expiry now rto restarts flies t.expiry }
