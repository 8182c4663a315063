-- What a RE-CONFIG does at an endpoint, in two steps: the requests act at its receiver, the responses at its sender (RFC 6525, 5.2).
use Rattle.std.specs.Prelude.{ℕ, Bool, true, false, List, [], ◌∷◌, unwrap_or}
use Rattle.sctp_model.specs.end.EndView.{EndView}
use Rattle.sctp_model.specs.end.Reconfiguring.{response_heard}
use Rattle.sctp_reconfig.specs.Reading.{ParameterMeaning, ResetRequested, Responded, OtherRequested, Ignored, parameters_of}
use Rattle.sctp_recv.specs.Requests.{all_requested}

-- whether a parameter is a request
abbrev pub is_request : ParameterMeaning → Bool
is_request (ResetRequested m) = true
is_request (OtherRequested number) = true
is_request (Responded number code) = false
is_request Ignored = false

-- what the parameters of a RE-CONFIG with this value say: none, if it is no list of parameters
abbrev pub parameters_in : (value : List ℕ) → List ParameterMeaning
parameters_in value = unwrap_or (parameters_of value) []

-- the endpoint after the requests among these
abbrev pub requests_heard : (c : ℕ) → EndView → List ParameterMeaning → EndView
requests_heard c e ps = record e { receiver = all_requested e.configuration.limit c e.receiver ps }

-- what a parameter does at the sender, and to what is due and the timer there
abbrev pub responded : EndView → ParameterMeaning → EndView
responded e (Responded number code) = response_heard e number code
responded e (ResetRequested m) = e
responded e (OtherRequested number) = e
responded e Ignored = e

-- the endpoint after the responses among these
abbrev pub responses_heard : EndView → List ParameterMeaning → EndView
responses_heard e [] = e
responses_heard e (p ∷ ps) = responses_heard (responded e p) ps
