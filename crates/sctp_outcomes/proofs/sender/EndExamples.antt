-- Endpoints, computed: what is abandoned at the end of a packet, the round trip of the handshake, endpoints that aren't opened together, a cookie that says
-- reset.
use Rattle.std.proofs.Common.{◌≡◌, ℕ, true, false, Bool, [], ◌∷◌, Option, Some, None, refl}
use Rattle.std.specs.Prelude.{option_map}
use Rattle.sctp_model.specs.sender.Readers.{point, abandoned}
use Rattle.sctp_model.specs.end.Sealing.{Body}
use Rattle.sctp_model.specs.end.Trips.{Smoothed}
use Rattle.sctp_model.specs.end.Pacing.{Pace, fresh_pace, Heard}
use Rattle.sctp_model.specs.end.EndView.{Configuration, Established, Completed, Phase, Listening, Open, Over, CookieAlarm, DataAlarm, Caller, Listener, EndView, fresh_end}
use Rattle.sctp_model.specs.end.Configured.{plain_configuration}
use Rattle.sctp_model.specs.end.Clock.{with_timer, echo_trip}
use Rattle.sctp_model.specs.end.Opening.{CookieOpens, Strange, body_read, begun, acknowledged_echo}
use Rattle.sctp_model.specs.end.Wearing.{missed_below, wearing}
use Rattle.sctp_model.specs.world.World.{are_alike, Setup, start}
use Rattle.sctp_model.specs.world.Events.{OpenBoth, RefusedState}
use Rattle.sctp_model.specs.world.Steps.{Step, OpenRefused}
use Rattle.sctp_safety.proofs.machine.OpeningWorlds.{open_seal}
use Rattle.sctp_outcomes.proofs.sender.PaceExamples.{worn_two, worn_three}
use Rattle.sctp_model.specs.end.Options.{agreed_zero_checksum, own_options, is_value, OVER_DTLS}
use Rattle.sctp_model.specs.end.Reports.{written}
use Rattle.sctp_safety.proofs.machine.OwnOptions.{zero_read}

abbrev set_up : Configuration
set_up = plain_configuration 5000 5001 1500 1400 65536 3 7

-- ---- the end of a packet (RFC 9260, 7.2.4; RFC 7496, 3.1)

-- an endpoint in this state, after an acknowledgement
abbrev after : Phase → Heard → EndView
after h x = record (fresh_end set_up Caller h) { pace = Some x.pace; sender = x.sender }

abbrev opened_so : Phase
opened_so = Open (record { own = 7; peer = 9 }) Established

-- three acknowledgements missed the first fragment, which may not be retransmitted: its message is abandoned, and a FORWARD to its end is due
abbrev given_up : EndView
given_up = wearing 0 (after opened_so worn_three)

abandons : (abandoned (after opened_so worn_three).sender 1 ≡ false) × (abandoned given_up.sender 1 ≡ true) × (point given_up.sender ≡ 5) × (given_up.due.forward ≡ true)
abandons = (refl, refl, refl, refl)

-- nothing is, if two missed it; if an earlier packet did; and once the association is over
abandons_not : (wearing 0 (after opened_so worn_two) ≡ after opened_so worn_two) × (missed_below (Some worn_three.pace) ≡ 2) × (wearing 2 (after opened_so worn_three) ≡ after opened_so worn_three)
    × (wearing 0 (after (Over Completed) worn_three) ≡ after (Over Completed) worn_three)
abandons_not = (refl, refl, refl, refl)

-- ---- the round trip of the handshake (RFC 9260, 6.3.1)

-- a caller at 140 whose COOKIE ECHO went out at 100, or expired so often
abbrev echoing_at : (repeats wait : ℕ) → EndView
echoing_at repeats wait =
    with_timer CookieAlarm (record { wait = wait; repeats = repeats; expiry = Some 1100 })
    (record (fresh_end (record set_up { least_wait = 0 }) Caller opened_so) { moment = 140; pace = Some (fresh_pace false 1 false 16 1488 65536) })

abbrev smoothed_at : EndView → Option (Option Smoothed)
smoothed_at e = option_map (λ (p : Pace). p.trips.smoothed) e.pace

abbrev acked : (repeats wait : ℕ) → EndView
acked repeats wait = acknowledged_echo (record { own = 7; peer = 9 }) (echoing_at repeats wait)

-- a trip of 40: SRTT 40, RTTVAR 20, the wait 120; after an expiry none, and the doubled wait
echoes : (echo_trip 1000 140 ((echoing_at 0 1000).timers CookieAlarm) ≡ Some 40) × (smoothed_at (acked 0 1000) ≡ Some (Some (record { eight = 320; four = 80 }))) × (((acked 0 1000).timers DataAlarm).wait ≡ 120)
    × (smoothed_at (acked 1 2000) ≡ Some None) × (((acked 1 2000).timers DataAlarm).wait ≡ 2000)
echoes = (refl, refl, refl, refl, refl)

-- ---- a cookie

abbrev body : Bool → Body
body reset = record {
  made = 100;
  listener = record { port = 5000; tag = 9; tsn = 1 };
  caller = record { port = 5001; tag = 7; tsn = 1 };
  rwnd = 65536;
  to_caller = 1;
  from_caller = 1;
  partial = false;
  interleave = false;
  reset = reset;
  zero_checksum = false;
}

abbrev listens : (fast reset : Bool) → EndView
listens fast reset = record (fresh_end (record set_up { fast_retransmit = fast; least_wait = 0; reset = reset }) (Listener open_seal) Listening) { moment = 180 }

-- one that says reset is nobody's to a listener without (RFC 9260, 5.1.5); without reset it opens at both
says_reset : (body_read (listens false false) 9 (Some (body true)) ≡ Strange) × (body_read (listens false true) 9 (Some (body true)) ≡ CookieOpens (body true))
    × (body_read (listens false false) 9 (Some (body false)) ≡ CookieOpens (body false)) × (body_read (listens false true) 9 (Some (body false)) ≡ CookieOpens (body false))
says_reset = (refl, refl, refl, refl)

-- nor is one that says zero checksums, to a listener without
says_zero : (body_read (listens false false) 9 (Some (record (body false) { zero_checksum = true })) ≡ Strange)
    × (body_read (record (listens false false) { configuration = record set_up { zero_checksum = true } }) 9 (Some (record (body false) { zero_checksum = true })) ≡ CookieOpens (record (body false) { zero_checksum = true }))
says_zero = (refl, refl)

-- zero checksums are agreed on if both say that DTLS is below them, and not by another method (RFC 9653)
abbrev zeros : Configuration
zeros = record set_up { zero_checksum = true }

agrees : (agreed_zero_checksum zeros (written (own_options zeros)) ≡ true) × (agreed_zero_checksum set_up (written (own_options zeros)) ≡ false) × (agreed_zero_checksum zeros (written (own_options set_up)) ≡ false)
    × (is_value OVER_DTLS (Some (0 ∷ 0 ∷ 0 ∷ 2 ∷ [])) ≡ false) × (is_value OVER_DTLS (Some (0 ∷ 0 ∷ 0 ∷ 1 ∷ 0 ∷ [])) ≡ false)
agrees = (zero_read zeros zeros, zero_read set_up zeros, zero_read zeros set_up, refl, refl)

-- the listener's trip is the age of its cookie, 80; without a pace none is noted
ages : (smoothed_at (begun (body false) (listens true false)) ≡ Some (Some (record { eight = 640; four = 160 }))) × (((begun (body false) (listens true false)).timers DataAlarm).wait ≡ 240)
    × (smoothed_at (begun (body false) (listens false false)) ≡ None) × (((begun (body false) (listens false false)).timers DataAlarm).wait ≡ 1000)
ages = (refl, refl, refl, refl)

-- ---- endpoints that aren't opened together

-- alike: the lesser of the streams of either way is the same; limits, buffers, delay and closing may differ
alike : are_alike set_up set_up ∷ are_alike set_up (record set_up { inbound = 9 }) ∷ are_alike set_up (record set_up { outbound = 9; inbound = 3 })
    ∷ are_alike set_up (record set_up { limit = 576; fragment = 544; buffer = 1000000; delay = true; standard_closing = true; fast_retransmit = true; congestion_control = true }) ∷ []
    ≡ true ∷ true ∷ true ∷ true ∷ []
alike = refl

-- not: streams, the format, partial reliability, reset
unlike : are_alike set_up (record set_up { outbound = 2 }) ∷ are_alike set_up (record set_up { interleave = true }) ∷ are_alike (record set_up { partial = true }) set_up ∷ are_alike set_up (record set_up { reset = true }) ∷ []
    ≡ false ∷ false ∷ false ∷ false ∷ []
unlike = refl

abbrev unlike_pair : Setup
unlike_pair = record { of_a = set_up; of_b = record set_up { interleave = true }; a_port = 5000; b_port = 5001; sealing = open_seal }

-- they aren't opened, and nothing changes
refused : Step (start unlike_pair) (OpenBoth (record { tag = 7; tsn = 100 }) (record { tag = 9; tsn = 200 })) (Some RefusedState) (start unlike_pair)
refused = OpenRefused (record { tag = 7; tsn = 100 }) (record { tag = 9; tsn = 200 }) refl
