-- HEARTBEATs, the count of what the peer leaves unanswered, and the timer of closing, computed (RFC 9260, 8.1, 8.3 and 9.2).
use Rattle.std.proofs.Common.{◌≡◌, ℕ, true, false, Bool, List, [], ◌∷◌, Option, Some, None, refl}
use Rattle.sctp_model.specs.numbers.Numbers.{u16_bytes, u32_bytes, u16_at, u32_at}
use Rattle.sctp_model.specs.wire.Chunk.{SackMeaning}
use Rattle.sctp_model.specs.messages.Format.{Plain}
use Rattle.sctp_model.specs.sender.SenderView.{SenderView, fresh_sender}
use Rattle.sctp_model.specs.sender.Filling.{fill}
use Rattle.sctp_model.specs.end.Trips.{Smoothed}
use Rattle.sctp_model.specs.end.Pacing.{Pace}
use Rattle.sctp_model.specs.end.EndView.{Configuration, TimedOut, Established, ShutdownPending, ShutdownSent, Phase, Open, Over, DataAlarm, BeatAlarm, GuardAlarm, Timer, EndView, Beats, no_beats}
use Rattle.sctp_model.specs.end.Clock.{with_timer, at_moment}
use Rattle.sctp_model.specs.end.Beating.{beat_said, beat_sent, beat_heard}
use Rattle.sctp_model.specs.end.Opening.{opened}
use Rattle.sctp_model.specs.end.Acting.{sack_heard}
use Rattle.sctp_model.specs.end.Building.{ShutdownSlot, once_built}
use Rattle.sctp_model.specs.end.Moments.{ticked, next_moment}
use Rattle.sctp_model.specs.end.Configured.{plain_configuration}
use Rattle.sctp_outcomes.proofs.sender.Makers.{asks, sack, block}

-- ---- an idle association

abbrev beats_at : (interval : Option ℕ) → (repeats : ℕ) → EndView
beats_at interval repeats =
    opened (record (plain_configuration 5000 5001 1500 1400 65536 3 7) { heartbeat = interval; repeats = repeats }) (record { tag = 7; tsn = 1 }) (record { tag = 9; tsn = 1 })

abbrev idle : EndView
idle = beats_at (Some 30000) 10

-- the interval, half the RTO, and 7 ms by the tag: 30,507; without the option none
begins : (next_moment idle ≡ Some 30507) × (next_moment (beats_at None 10) ≡ None)
begins = (refl, refl)

abbrev due : EndView
due = ticked idle 30507

-- then a HEARTBEAT is due, with the first number; the next one 30,514 ms later; a millisecond before none
is_due : ((ticked idle 30506).due.beat ≡ false) × (due.due.beat ≡ true) × (due.beats ≡ record { made = 1; sent = None }) × (next_moment due ≡ Some 61021)
    × (beat_said due ≡ 0 ∷ 1 ∷ 0 ∷ 8 ∷ 0 ∷ 0 ∷ 0 ∷ 1 ∷ [])
unfolding u16_bytes u32_bytes u16_at u32_at
is_due = (refl, refl, refl, refl, refl)

-- one that was never built isn't lost
never_built : ((ticked due 61021).beats ≡ record { made = 2; sent = None }) × (((ticked due 61021).timers DataAlarm).repeats ≡ 0)
never_built = (refl, refl)

abbrev asked : EndView
asked = beat_sent due

-- unanswered: one is counted, the RTO doubled, and the next one has the next number
abbrev missed : EndView
missed = ticked asked 61021

is_missed : ((missed.timers DataAlarm).repeats ≡ 1) × ((missed.timers DataAlarm).wait ≡ 2000) × (missed.due.beat ≡ true) × (missed.beats ≡ record { made = 2; sent = None }) × (next_moment missed ≡ Some 92042)
is_missed = (refl, refl, refl, refl, refl)

-- answered after 80 ms: nothing waits, the count is 0
abbrev answered : EndView
answered = beat_heard (at_moment asked 30587) (beat_said asked)

is_answered : (answered.beats ≡ record { made = 1; sent = None }) × ((ticked answered 61021).beats.made ≡ 2) × (((ticked answered 61021).timers DataAlarm).repeats ≡ 0)
unfolding u16_bytes u32_bytes u16_at u32_at
is_answered = (refl, refl, refl)

-- a late answer clears the count too, and the RTO is the first again; an answer to an earlier HEARTBEAT, or the same one twice, changes nothing
abbrev late : EndView
late = beat_sent missed

clears : (((beat_heard (at_moment late 62000) (beat_said late)).timers DataAlarm).repeats ≡ 0) × (((beat_heard (at_moment late 62000) (beat_said late)).timers DataAlarm).wait ≡ 1000)
    × ((beat_heard late (beat_said asked)).beats ≡ late.beats) × (((beat_heard late (beat_said asked)).timers DataAlarm).repeats ≡ 1)
    × ((beat_heard late []).beats ≡ late.beats) × ((beat_heard answered (beat_said asked)).beats ≡ answered.beats)
unfolding u16_bytes u32_bytes u16_at u32_at
clears = (refl, refl, refl, refl, refl, refl)

-- the limit: with 2, the third one that isn't answered ends the association; with 0 the first
abbrev counted : (limit repeats : ℕ) → EndView
counted limit repeats =
    let e = beat_sent (ticked (beats_at (Some 30000) limit) 30507) in
    with_timer DataAlarm (record { wait = 1000; repeats = repeats; expiry = None }) e

gives_up : ((ticked (counted 2 1) 61021).phase ≡ Open (record { own = 7; peer = 9 }) Established) × ((ticked (counted 2 2) 61021).phase ≡ Over TimedOut) × ((ticked (counted 0 0) 61021).phase ≡ Over TimedOut)
    × (next_moment (ticked (counted 2 2) 61021) ≡ None)
gives_up = (refl, refl, refl, refl)

-- while data is in flight its timer counts, and no HEARTBEAT is sent
abbrev flying : EndView
flying = with_timer DataAlarm (record { wait = 60000; repeats = 2; expiry = Some 70000 }) (record asked { sender = (fill Plain 1000 (asks asked.sender 0 0 (1 ∷ []))).view })

data_counts : ((ticked flying 61021).due.beat ≡ false) × (((ticked flying 61021).timers DataAlarm).repeats ≡ 2) × ((ticked flying 61021).beats.sent ≡ None) × (((ticked flying 61021).timers BeatAlarm).expiry ≡ Some 121035)
data_counts = (refl, refl, refl, refl)

-- ---- SACKs that acknowledge nothing

-- an endpoint with one fragment in flight that was retransmitted three times
abbrev sending : (progress : Bool) → EndView
sending progress =
    let e = opened (record (plain_configuration 5000 5001 1500 1400 65536 3 7) { progress = progress }) (record { tag = 7; tsn = 1 }) (record { tag = 9; tsn = 1 }) in
    with_timer DataAlarm (record { wait = 8000; repeats = 3; expiry = Some 9000 }) (record e { sender = (fill Plain 1000 (asks e.sender 0 0 (1 ∷ 2 ∷ []))).view })

abbrev counts : EndView → SackMeaning → ℕ
counts e s = ((sack_heard e s).timers DataAlarm).repeats

-- with the option the count stays, if the peer has space for a fragment, and is 0 once something is acknowledged, or the window is closed; without it each SACK clears it
vain : (counts (sending true) (sack 0 65536 []) ≡ 3) × (counts (sending true) (sack 0 1399 []) ≡ 0) × (counts (sending true) (sack 1 65536 []) ≡ 0) × (counts (sending false) (sack 0 65536 []) ≡ 0)
vain = (refl, refl, refl, refl)

-- ---- closing

abbrev closing : (guard : Bool) → EndView
closing guard =
    let e = opened (record (plain_configuration 5000 5001 1500 1400 65536 3 7) { guard = guard }) (record { tag = 7; tsn = 1 }) (record { tag = 9; tsn = 1 }) in
    once_built ShutdownSlot (record e { phase = Open (record { own = 7; peer = 9 }) ShutdownSent })

-- the guard runs from the first SHUTDOWN on, 300 seconds, whatever the peer sends; without the option none does
guards : (((closing true).timers GuardAlarm).expiry ≡ Some 300000) × (((once_built ShutdownSlot (at_moment (closing true) 5)).timers GuardAlarm).expiry ≡ Some 300000) × (((closing false).timers GuardAlarm).expiry ≡ None)
    × ((ticked (with_timer DataAlarm (record { wait = 1000; repeats = 0; expiry = None }) (closing true)) 300000).phase ≡ Over TimedOut)
guards = (refl, refl, refl, refl)
