-- Round trips, and the RTO of the data timer by them, in milliseconds (RFC 9260, 6.3.1).
use Rattle.std.specs.Prelude.{ℕ, ◌+◌, ◌-◌, ◌*◌, ◌/◌, min, max, nat_lt, Bool, not, ◌&&◌, ◌||◌, Option, None, Some, option_and_then}
use Rattle.sctp_model.specs.numbers.Limits.{LONGEST_WAIT, TICK}
use Rattle.sctp_model.specs.messages.Plan.{entry_at}
use Rattle.sctp_model.specs.sender.SenderView.{SenderView}
use Rattle.sctp_model.specs.sender.Words.{when, some_passes}
use Rattle.sctp_model.specs.sender.Entries.{is_of_abandoned}

-- the one fragment that is timed (C4): its index, and the time at which it was sent
pub record Timed : Type 0 where
  pub index : ℕ
  pub moment : ℕ

-- eight times SRTT and four times RTTVAR, so that both are whole numbers
pub record Smoothed : Type 0 where
  pub eight : ℕ
  pub four : ℕ

-- What an endpoint knows of round trips.
pub record Trips : Type 0 where
  pub timed : Option Timed
  -- once one was measured
  pub smoothed : Option Smoothed

-- before anything was sent
abbrev pub fresh_trips : Trips
fresh_trips = record { timed = None; smoothed = None }

-- ---- a measurement

-- how far apart two numbers are
abbrev pub distance : ℕ → ℕ → ℕ
distance m n = (m - n) + (n - m)

-- The first one (C2), and each one after it (C3): RTTVAR by the SRTT before it.
abbrev pub smoothed_by : Option Smoothed → (trip : ℕ) → Smoothed
smoothed_by None r = record { eight = 8 * r; four = 2 * r }
smoothed_by (Some s) r = record { eight = s.eight - s.eight / 8 + r; four = s.four - s.four / 4 + distance (s.eight / 8) r }

-- RTO.Initial, RTO.Min and RTO.Max (RFC 9260, 16)
pub record RtoBounds : Type 0 where
  pub first : ℕ
  pub least : ℕ
  pub longest : ℕ

-- The RTO: SRTT and four times RTTVAR (C2 and C3), with an RTTVAR of one tick at least (G1), from RTO.Min to RTO.Max (C6 and C7).
abbrev pub wait_of : RtoBounds → Smoothed → ℕ
wait_of w s = min w.longest (max w.least (s.eight / 8 + max (4 * TICK) s.four))

-- ---- what is timed

-- A packet was sent at this time; the highest index ever sent was the one, and is the other: it is timed, if it was sent now, and nothing else is timed.
abbrev pub timed_from : Option Timed → (now before after : ℕ) → Option Timed
timed_from (Some t) now before after = Some t
timed_from None now before after = when (nat_lt before after) (record { index = after; moment = now })

-- what is marked for retransmission isn't timed any more (C5, Karn's algorithm), nor what is acknowledged
abbrev pub still_timed : SenderView → Option Timed → Option Timed
still_timed u o = option_and_then (λ t. when (not (u.marked t.index || u.covered t.index)) t) o

-- an index of an abandoned message: it may be acknowledged because of a FORWARD, and never have arrived (RFC 3758, 3.5)
abbrev pub was_given_up : SenderView → ℕ → Bool
was_given_up v i = some_passes (is_of_abandoned v) (entry_at v.plan i)

-- The round trip that an acknowledgement measures, `v` the sender before it and `u` the sender after it: of the index that is timed, if it is newly
-- acknowledged. RTO.Max at most.
abbrev pub trip_told : (now : ℕ) → (v u : SenderView) → Option Timed → Option ℕ
trip_told now v u o = option_and_then
    (λ t. when (nat_lt v.cum t.index && (u.covered t.index && not (was_given_up v t.index))) (min (now - t.moment) LONGEST_WAIT)) o

-- SRTT and RTTVAR after it
abbrev pub with_trip : Option ℕ → Option Smoothed → Option Smoothed
with_trip None s = s
with_trip (Some r) s = Some (smoothed_by s r)
