-- The path to its peer that C gets of an endpoint.
use Rattle.std.specs.Prelude.{◌≡◌, ℕ, Bool, true, false, Option, None, Some, is_some}
use Rattle.sctp_model.specs.sender.Entries.{in_flight}
use Rattle.sctp_model.specs.end.EndView.{EndView}
use Rattle.sctp_association.specs.declared.user.path.Path.{Path}
use Rattle.sctp_association.specs.PathAnswers.{PathAnswer}
use Rattle.sctp_c.specs.declared.path.SctpPath.{SctpPath}

-- a number that may be missing: 0 for it
abbrev pub number_of : Option ℕ → ℕ
number_of None = 0
number_of (Some n) = n

-- which numbers are there: 1 for RTO, 2 for SRTT and RTTVAR, 4 for congestion window and threshold
abbrev pub flags_of : (measured controlled : Bool) → ℕ
flags_of false false = 1
flags_of true false = 3
flags_of false true = 5
flags_of true true = 7

-- what is known of a path, as C gets it
pub record IsKnown (s : SctpPath) (x : Path) : Type 0 where
  pub rto : s.rto ≡ x.rto
  pub srtt : s.srtt ≡ number_of x.srtt
  pub rttvar : s.rttvar ≡ number_of x.rttvar
  pub cwnd : s.cwnd ≡ number_of x.cwnd
  pub ssthresh : s.ssthresh ≡ number_of x.ssthresh
  pub flags : s.flags ≡ flags_of (is_some x.srtt) (is_some x.cwnd)

-- nothing is
pub record IsUnknown (s : SctpPath) : Type 0 where
  pub rto : s.rto ≡ 0
  pub srtt : s.srtt ≡ 0
  pub rttvar : s.rttvar ≡ 0
  pub cwnd : s.cwnd ≡ 0
  pub ssthresh : s.ssthresh ≡ 0
  pub flags : s.flags ≡ 0

-- what the struct says of a path: all that is known of it, and zeros without one
abbrev pub PathTold : Option Path → SctpPath → Type 0
PathTold None s = IsUnknown s
PathTold (Some x) s = IsKnown s x

-- each number is the view's
pub record IsPath (s : SctpPath) (v : EndView) : Type 0 where
  pub flight : s.in_flight ≡ in_flight v.sender
  pub answer : Option Path
  pub answers : PathAnswer v answer
  pub told : PathTold answer s
  pub reserved : s.reserved ≡ 0
