-- A caller that hears nothing: its INIT goes out nine times, 1, 2, 4, 8, 16, 32, 60 and 60 seconds apart, and 60 seconds after the last it gives up (RFC
-- 9260, 5.1 and 6.3.3).
use Rattle.std.proofs.Common.{false, ◌≡◌, ℕ, zero, suc, true, Option, Some, None, refl}
use Rattle.sctp_model.specs.end.EndView.{TimedOut, Idle, Calling, Over, Caller, InitAlarm, EndView, fresh_end}
use Rattle.sctp_model.specs.end.Clock.{started}
use Rattle.sctp_model.specs.end.Closing.{with_due}
use Rattle.sctp_model.specs.end.Moments.{ticked}
use Rattle.sctp_model.specs.end.UserCalls.{called}
use Rattle.sctp_model.specs.world.World.{A, configuration_of}
use Rattle.sctp_safety.proofs.machine.OpeningWorlds.{two, of_a}

-- the INIT goes out, and the endpoint is given the time at which its timer expires
abbrev init_sent : EndView → EndView
init_sent e = started InitAlarm (with_due (record e.due { init = false }) e)

abbrev moment_or : ℕ → Option ℕ → ℕ
moment_or now None = now
moment_or now (Some m) = m

abbrev round : EndView → EndView
round e = ticked (init_sent e) (moment_or e.moment ((init_sent e).timers InitAlarm).expiry)

abbrev rounds : ℕ → EndView → EndView
rounds zero e = e
rounds (suc n) e = rounds n (round e)

abbrev caller : EndView
caller = called (fresh_end (configuration_of two A) Caller Idle) of_a

pub first_again : ((round caller).due.init ≡ true) × ((round caller).moment ≡ 1000)
first_again = (refl, refl)

pub eighth_again : ((rounds 8 caller).phase ≡ Calling of_a) × ((rounds 8 caller).due.init ≡ true) × ((rounds 8 caller).moment ≡ 183000)
eighth_again = (refl, refl, refl)

pub times_out : ((rounds 9 caller).phase ≡ Over TimedOut) × ((rounds 9 caller).moment ≡ 243000)
times_out = (refl, refl)
