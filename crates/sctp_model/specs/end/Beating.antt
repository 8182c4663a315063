-- The HEARTBEATs of an endpoint: an idle association is tested by them, and one whose peer is silent ends (RFC 9260, 8.1 and 8.3). And the timer of closing
-- as a whole (9.2).
use Rattle.std.specs.Prelude.{ℕ, suc, ◌+◌, ◌-◌, ◌*◌, ◌/◌, ◌%◌, ◌^◌, min, ◌==◌, Bool, true, false, not, ◌&&◌, if◌then◌else◌, List, length, drop}
use Rattle.std.specs.Prelude.{Option, None, Some, is_some, option_map}
use Rattle.sctp_model.specs.numbers.Limits.{LONGEST_WAIT}
use Rattle.sctp_model.specs.numbers.Numbers.{u16_at, u32_at, u32_bytes}
use Rattle.sctp_model.specs.numbers.Serial.{tsn}
use Rattle.sctp_model.specs.wire.Typed.{typed_bytes}
use Rattle.sctp_model.specs.sender.Readers.{unsettled}
use Rattle.sctp_model.specs.sender.Filling.{Wish}
use Rattle.sctp_model.specs.end.Trips.{RtoBounds}
use Rattle.sctp_model.specs.end.Pacing.{Pace, pace_begun, wait_begun}
use Rattle.sctp_model.specs.end.EndView.{waits_of, Phase, Open, DataAlarm, BeatAlarm, GuardAlarm, Timer, EndView}
use Rattle.sctp_model.specs.end.Closing.{hears}
use Rattle.sctp_model.specs.end.Clock.{after_wait, running, is_beat_lost, with_timer}

-- ---- when one is due

-- the endpoint's own tag, which is random, while it is open
abbrev pub own_tag : Phase → ℕ
own_tag (Open t g) = t.own
own_tag h = 0

-- How long the association may be idle: the interval, and the RTO with half of it less to half of it more, by the endpoint's random tag and the number of
-- HEARTBEATs, so that the HEARTBEATs of many associations spread (8.3).
abbrev pub beat_wait : EndView → (interval : ℕ) → ℕ
beat_wait e interval =
    let rto = (e.timers DataAlarm).wait in
    interval + rto / 2 + (own_tag e.phase * suc (e.beats.made % 2 ^ 16)) % suc rto

-- the timer, started anew if the endpoint sends HEARTBEATs
abbrev pub beat_timer : Option ℕ → EndView → Timer
beat_timer None e = e.timers BeatAlarm
beat_timer (Some interval) e = record { wait = beat_wait e interval; repeats = 0; expiry = Some (after_wait e.moment (beat_wait e interval)) }

-- the endpoint with it: from now on it is idle
abbrev pub beating : EndView → EndView
beating e = with_timer BeatAlarm (beat_timer e.configuration.heartbeat e) e

-- a packet with fragments was sent
abbrev pub beating_after : List Wish → EndView → EndView
beating_after ws e = with_timer BeatAlarm (if 0 == length ws then e.timers BeatAlarm else beat_timer e.configuration.heartbeat e) e

-- ---- the timer expires

-- nothing that was sent is to be acknowledged
abbrev pub is_quiet : EndView → Bool
is_quiet e = not (unsettled e.sender)

-- the data timer, if a HEARTBEAT wasn't answered: one more is counted, and the RTO doubled (8.1, 8.3 and 6.3.3, E2)
abbrev pub beat_missed : (lost : Bool) → (longest : ℕ) → Timer → Timer
beat_missed lost longest t = record t { wait = if lost then min (2 * t.wait) longest else t.wait; repeats = if lost then suc t.repeats else t.repeats }

-- An idle association: a HEARTBEAT is due, the next one. One with something to be acknowledged needs none.
abbrev pub beat_again : EndView → EndView
beat_again e = beating (record (with_timer DataAlarm (beat_missed (is_beat_lost e) e.configuration.longest_wait (e.timers DataAlarm)) e) {
  due = record e.due { beat = is_quiet e };
  beats = record { made = if is_quiet e then suc e.beats.made else e.beats.made; sent = None };
})

-- ---- the chunk

-- Heartbeat Info (3.3.5)
abbrev pub HEARTBEAT_INFO : ℕ
HEARTBEAT_INFO = 1

-- the number that the last one has
abbrev pub beat_number : EndView → ℕ
beat_number e = tsn e.terms.own_tsn e.beats.made

-- what it asks back: no more than its number, since packets with the tag come from the peer alone
abbrev pub beat_said : EndView → List ℕ
beat_said e = typed_bytes (record { kind = HEARTBEAT_INFO; value = u32_bytes (beat_number e) })

-- it was sent
abbrev pub beat_sent : EndView → EndView
beat_sent e = record e { due = record e.due { beat = false }; beats = record e.beats { sent = Some e.moment } }

-- ---- HEARTBEAT ACK (8.3)

-- these are the bytes of the last one
abbrev pub is_beat_said : EndView → List ℕ → Bool
is_beat_said e info =
    (length info == 8) && ((u16_at info == HEARTBEAT_INFO) && ((u16_at (drop 2 info) == 8) && (u32_at (drop 4 info) == beat_number e)))

-- the round trip that it measures, if the endpoint is open, and it answers the last one, which waits for its answer (6.3.1 and 8.3)
abbrev pub beat_trip : EndView → List ℕ → Option ℕ
beat_trip e info = if hears (λ g. true) e.phase && is_beat_said e info then option_map (λ m. min (e.moment - m) LONGEST_WAIT) e.beats.sent else None

-- the RTO by it
abbrev pub wait_told : Option Pace → RtoBounds → (trip : Option ℕ) → ℕ
wait_told None w trip = w.first
wait_told (Some p) w trip = wait_begun w w.first (pace_begun trip p)

-- The data timer after it: the count is 0, if nothing is to be acknowledged (8.1), and the RTO is the one computed.
abbrev pub timer_beaten : (answered : Bool) → (wait : ℕ) → (quiet : Bool) → Timer → Timer
timer_beaten answered wait quiet t =
    record t { wait = if answered then wait else t.wait; repeats = if answered && quiet then 0 else t.repeats }

-- the endpoint once a HEARTBEAT was answered after this time, if one was
abbrev pub beat_answered : (trip : Option ℕ) → EndView → EndView
beat_answered trip e =
    record (with_timer DataAlarm (timer_beaten (is_some trip) (wait_told e.pace (waits_of e.configuration) trip) (is_quiet e) (e.timers DataAlarm)) e) {
      beats = record e.beats { sent = if is_some trip then None else e.beats.sent };
      pace = option_map (pace_begun trip) e.pace;
    }

-- What a HEARTBEAT ACK leaves: one that answers nothing changes nothing.
abbrev pub beat_heard : EndView → List ℕ → EndView
beat_heard e info = beat_answered (beat_trip e info) e

-- ---- closing

-- how long after its first SHUTDOWN an endpoint gives up: five times RTO.Max (9.2)
abbrev pub guard_timer : (on : Bool) → (longest now : ℕ) → Timer → Timer
guard_timer false longest now t = t
guard_timer true longest now t = running now (record t { wait = 5 * longest }) t.expiry

-- a SHUTDOWN was sent
abbrev pub guarded : EndView → EndView
guarded e = with_timer GuardAlarm (guard_timer e.configuration.guard e.configuration.longest_wait e.moment (e.timers GuardAlarm)) e
