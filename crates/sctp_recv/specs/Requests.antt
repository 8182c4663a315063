-- What the requests in a RE-CONFIG do at a receiver (RFC 6525, 5.2), one after the other; of the endpoint only its packet limit counts.
use Rattle.std.specs.Prelude.{ℕ, nat_le, if◌then◌else◌, List, [], ◌∷◌, ◌++◌, find, is_some, Option}
use Rattle.sctp_model.specs.wire.Typed.{Typed}
use Rattle.sctp_model.specs.wire.Packet.{size_of_packet}
use Rattle.sctp_model.specs.wire.Reconfig.{reconfig_chunk, response_item, ResetResult, Denied}
use Rattle.sctp_model.specs.sender.Words.{count_up}
use Rattle.sctp_model.specs.receiver.ReceiverView.{ReceiverView}
use Rattle.sctp_model.specs.receiver.ResetTaken.{reset_answer, answer_in_turn, reset_taken, denied, with_answers}
use Rattle.sctp_reconfig.specs.Reading.{ParameterMeaning, ResetRequested, Responded, OtherRequested, Ignored}

-- ---- responses that wait for a packet

-- A response joins those that wait, unless the chunk of them all would exceed the packet limit: then the peer retransmits its request.
abbrev pub answers_within : (limit : ℕ) → List Typed → Typed → List Typed
answers_within limit xs x = if nat_le (size_of_packet (reconfig_chunk (xs ++ x ∷ []) ∷ [])) limit then xs ++ x ∷ [] else xs

-- the request with this number leaves the view t of r, and has this result
abbrev pub answered : (limit : ℕ) → (r : ReceiverView) → (number : ℕ) → ResetResult → (t : ReceiverView) → ReceiverView
answered limit r number a t = with_answers t (answers_within limit r.resets.answers (response_item number a))

-- ---- parameters

-- a parameter, at the cumulative index c: a request to reset streams acts (5.2.2), any other request is denied, and all else does nothing here
abbrev pub requested : (limit c : ℕ) → ReceiverView → ParameterMeaning → ReceiverView
requested limit c r (ResetRequested m) = answered limit r m.number (answer_in_turn r m.number (reset_answer r c m)) (reset_taken r c m)
requested limit c r (OtherRequested number) = answered limit r number (answer_in_turn r number Denied) (denied r number)
requested limit c r (Responded number code) = r
requested limit c r Ignored = r

-- all of them
abbrev pub all_requested : (limit c : ℕ) → ReceiverView → List ParameterMeaning → ReceiverView
all_requested limit c r [] = r
all_requested limit c r (p ∷ ps) = all_requested limit c (requested limit c r p) ps

-- ---- what is reported to the user

-- the lowest stream of which a reset wasn't reported
abbrev pub reset_there : ReceiverView → Option ℕ
reset_there r = find (λ s. is_some (r.resets.told s)) (count_up 0 r.streams)
