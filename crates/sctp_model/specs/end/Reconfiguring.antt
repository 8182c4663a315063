-- What a RE-CONFIG does at an endpoint that has agreed on it: its parameters act one after the other (RFC 6525, 5.2).
use Rattle.std.specs.Prelude.{ℕ, ◌==◌, Bool, true, false, ◌&&◌, if◌then◌else◌, List, [], ◌∷◌, ◌++◌, drop, is_some, Option, Some, None}
use Rattle.sctp_model.specs.numbers.Numbers.{u32_at}
use Rattle.sctp_model.specs.wire.Typed.{Typed}
use Rattle.sctp_model.specs.wire.Reconfig.{RECONFIG, OUTGOING_RESET, RECONFIG_RESPONSE, reconfig_chunk, ResetMeaning, reset_read, is_parameter}
use Rattle.sctp_model.specs.wire.Reconfig.{is_other_request, response_item, ResetResult, Denied}
use Rattle.sctp_model.specs.sender.Resetting.{is_open_number, may_ask, asked, response_taken}
use Rattle.sctp_model.specs.receiver.ReceiverView.{ReceiverView}
use Rattle.sctp_model.specs.receiver.ResetTaken.{reset_answer, answer_in_turn, reset_taken, denied, with_answers}
use Rattle.sctp_model.specs.end.EndView.{ResetAlarm, EndView, unused_timer, waits_of}
use Rattle.sctp_model.specs.end.Pacing.{Pace, wait_measured}
use Rattle.sctp_model.specs.end.Clock.{is_home, with_timer, restarted}
use Rattle.sctp_model.specs.end.Closing.{with_due, takes_data, hears}
use Rattle.sctp_model.specs.end.Reports.{fits_alone}
use Rattle.sctp_model.specs.end.Trips.{RtoBounds}

-- ---- responses that wait for a packet

-- A response joins those that wait, unless the chunk of them all would exceed the packet limit: then the peer retransmits its request.
abbrev pub answers_with : EndView → Typed → List Typed
answers_with e x =
    if fits_alone e (reconfig_chunk (e.receiver.resets.answers ++ x ∷ [])) then e.receiver.resets.answers ++ x ∷ [] else e.receiver.resets.answers

-- the request with this number leaves this receiver, and has this result
abbrev pub answering : EndView → (number : ℕ) → ResetResult → ReceiverView → EndView
answering e number a r = record e { receiver = with_answers r (answers_with e (response_item number a)) }

-- ---- one parameter

-- an Outgoing SSN Reset Request, at the cumulative index c (5.2.2)
abbrev pub request_heard : (c : ℕ) → EndView → ResetMeaning → EndView
request_heard c e m = answering e m.number (answer_in_turn e.receiver m.number (reset_answer e.receiver c m)) (reset_taken e.receiver c m)

-- any other request: all are denied
abbrev pub other_heard : EndView → (number : ℕ) → EndView
other_heard e number = answering e number (answer_in_turn e.receiver number Denied) (denied e.receiver number)

-- If no request is outstanding, none is due, and its timer is as if it had never run: the expiries of one request don't count for the next (RFC 9260, 8.1).
abbrev pub asking_on : EndView → EndView
asking_on e =
    if is_some e.sender.resets.pending then e
    else with_timer ResetAlarm (unused_timer e.configuration.first_wait) (with_due (record e.due { request = false }) e)

-- how long the timer of a request waits: the RTO, if a round trip was measured (5.1.1; RFC 9260, 6.3.1)
abbrev pub request_wait : RtoBounds → Option Pace → ℕ
request_wait w None = w.first
request_wait w (Some p) = wait_measured w p.trips.smoothed

-- that of this endpoint
abbrev pub asking_wait : EndView → ℕ
asking_wait e = request_wait (waits_of e.configuration) e.pace

-- If the response leaves the request outstanding, its timer starts again (5.2.7), with the wait of a new one and the count 0: a peer that answers isn't given
-- up.
abbrev pub in_progress : Bool → EndView → EndView
in_progress false e = e
in_progress true e = with_timer ResetAlarm (restarted e.moment (asking_wait e) (e.timers ResetAlarm)) e

-- a Re-configuration Response (5.2.7)
abbrev pub response_heard : EndView → (number code : ℕ) → EndView
response_heard e number code = asking_on (in_progress (is_open_number e.sender number) (record e { sender = response_taken e.sender number code }))

-- a parameter; those of other types, or too short, are skipped
abbrev pub parameter_heard : (c : ℕ) → EndView → Typed → EndView
parameter_heard c e x =
    if is_parameter OUTGOING_RESET 12 x then request_heard c e (reset_read x)
    else if is_parameter RECONFIG_RESPONSE 8 x then response_heard e (u32_at x.value) (u32_at (drop 4 x.value))
    else if is_other_request x then other_heard e (u32_at x.value)
    else e

-- all of them
abbrev pub parameters_heard : (c : ℕ) → EndView → List Typed → EndView
parameters_heard c e [] = e
parameters_heard c e (x ∷ xs) = parameters_heard c (parameter_heard c e x) xs

-- A chunk of this type is a RE-CONFIG to this endpoint, which has agreed on it and still takes data.
abbrev pub takes_reconfig : EndView → (kind : ℕ) → Bool
takes_reconfig e kind = (kind == RECONFIG) && (e.terms.reset && hears takes_data e.phase)

-- ---- a request is made

-- it is due, and its timer waits for it first
abbrev pub asking_now : Bool → EndView → EndView
asking_now false e = e
asking_now true e =
    with_timer ResetAlarm (unused_timer (asking_wait e)) (record e { sender = asked e.sender; due = record e.due { request = true } })

-- An endpoint in ESTABLISHED makes its request as soon as it may.
abbrev pub asking : EndView → EndView
asking e = asking_now (e.terms.reset && (is_home ResetAlarm e.phase && may_ask e.sender)) e
