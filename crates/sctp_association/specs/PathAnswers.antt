-- What a user reads of an end's pace (RFC 9260, 6.3.1 and 7.2).
use Rattle.std.specs.Prelude.{◌≡◌, ◌/◌, Option, None, Some, option_map}
use Rattle.sctp_model.specs.end.Pacing.{Pace}
use Rattle.sctp_model.specs.end.EndView.{EndView, DataAlarm}
use Rattle.sctp_association.specs.declared.user.path.Path.{Path}

-- SRTT and RTTVAR once a round trip was measured, the RTO of the data timer, and the windows of congestion control
pub record IsPath (v : EndView) (p : Pace) (x : Path) : Type 0 where
  pub srtt : x.srtt ≡ option_map (λ s. s.eight / 8) p.trips.smoothed
  pub rttvar : x.rttvar ≡ option_map (λ s. s.four / 4) p.trips.smoothed
  pub rto : x.rto ≡ (v.timers DataAlarm).wait
  pub cwnd : x.cwnd ≡ option_map (λ k. k.cwnd) p.control
  pub ssthresh : x.ssthresh ≡ option_map (λ k. k.ssthresh) p.control

-- that of an end with a pace; nothing at one without
abbrev pub PathAnswer : EndView → Option Path → Type 0
PathAnswer v None = v.pace ≡ None
PathAnswer v (Some x) = (p : Pace) × (v.pace ≡ Some p) × IsPath v p x
