-- What the laws of reading and writing a RE-CONFIG speak of (RFC 6525, 4 and 5.2).
use Rattle.std.specs.Prelude.{ℕ, ◌<◌, ◌^◌, List, [], ◌∷◌}
use Rattle.std.specs.List.{AllByRecursion}
use Rattle.sctp_model.specs.wire.Reconfig.{ResetMeaning}
use Rattle.sctp_model.specs.end.EndView.{EndView}
use Rattle.sctp_model.specs.end.Reconfiguring.{request_heard, response_heard, other_heard}
use Rattle.sctp_reconfig.specs.Reading.{ParameterMeaning, ResetRequested, Responded, OtherRequested, Ignored}

-- its sequence number and its TSN are numbers of 32 bits, its streams numbers of 16 bits (4.1)
pub record IsReset (m : ResetMeaning) : Type 0 where
  pub number : m.number < 2 ^ 32
  pub last : m.last < 2 ^ 32
  pub streams : AllByRecursion (λ s. s < 2 ^ 16) m.streams

-- what a parameter does at an endpoint (5.2), whose cumulative index is c
abbrev pub heard : (c : ℕ) → EndView → ParameterMeaning → EndView
heard c e (ResetRequested m) = request_heard c e m
heard c e (Responded number code) = response_heard e number code
heard c e (OtherRequested number) = other_heard e number
heard c e Ignored = e

-- what all do, one after the other
abbrev pub all_heard : (c : ℕ) → EndView → List ParameterMeaning → EndView
all_heard c e [] = e
all_heard c e (p ∷ ps) = all_heard c (heard c e p) ps
