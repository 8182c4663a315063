-- What acknowledges user data at an end: a SACK, or the cumulative TSN of a SHUTDOWN (RFC 9260, 6.2.1 and 9.2).
use Rattle.std.specs.Prelude.{ℕ, true, nat_lt}
use Rattle.sctp_model.specs.wire.Chunk.{SackMeaning}
use Rattle.sctp_model.specs.sender.SackTaken.{sack_taken, shutdown_taken}
use Rattle.sctp_model.specs.end.EndView.{EndView, DataAlarm, Timer}
use Rattle.sctp_model.specs.end.Clock.{renewed, settled}
use Rattle.sctp_model.specs.end.Acting.{shut_timer}

-- the end after a SACK, but for its data timer
abbrev pub rests_after : EndView → SackMeaning → EndView
rests_after v x = settled (record v { sender = sack_taken v.sender x; due = record v.due { forward = true } })

-- its data timer: it counts anew, and begins anew if CUM moved (6.3.2)
abbrev pub timer_after : EndView → SackMeaning → Timer
timer_after v x = renewed v.configuration.first_wait v.moment (nat_lt v.sender.cum (sack_taken v.sender x).cum) ((rests_after v x).timers DataAlarm)

-- the end after the cumulative TSN of a SHUTDOWN, but for its data timer
abbrev pub shut_rests : EndView → ℕ → EndView
shut_rests v tsn = settled (record v { sender = shutdown_taken v.sender tsn })

-- its data timer (6.3.2 and 9.2)
abbrev pub shut_timer_of : EndView → ℕ → Timer
shut_timer_of v tsn =
    let moved = nat_lt v.sender.cum (shutdown_taken v.sender tsn).cum in
    shut_timer v.configuration.standard_closing moved v.configuration.first_wait v.moment ((shut_rests v tsn).timers DataAlarm)
