-- A world with one clock, of whose time both endpoints are notified at once, is a world of two clocks in which no event is of one clock alone.
use Rattle.std.specs.Prelude.{◌≡◌, Bool, true, false, List, [], ◌∷◌, ◌++◌, Option, Some, None}
use Rattle.sctp_model.specs.numbers.Lists.{Has}
use Rattle.sctp_model.specs.receiver.ReceiverView.{Handed, handed}
use Rattle.sctp_model.specs.world.Calls.{Call}
use Rattle.sctp_model.specs.world.World.{A, B, World, Setup, start}
use Rattle.sctp_model.specs.world.Events.{Event, Later, Moment, At, Deliver, Send, Outcome, Done}
use Rattle.sctp_model.specs.world.Steps.{Run}
use Rattle.sctp_outcomes.specs.Examples.{IsRunTo}

-- it isn't of one clock alone
abbrev pub is_of_both : Event → Bool
is_of_both (Later s m) = false
is_of_both (Moment s) = false
is_of_both e = true

-- In every run without such an event both clocks show the same.
abbrev pub OneClockStaysOne : Type 0
OneClockStaysOne = (s : Setup) (events : List Event) (answers : List (Option Outcome)) (w : World) → Run (start s) events answers w →
    ((e : Event) → Has events e → is_of_both e ≡ true) → w.clock_a ≡ w.clock_b

-- ---- a time of both

-- what `At` is by each clock: both go on, and each endpoint is notified
abbrev pub each_of : Option Outcome → Event → List Event
each_of None e = e ∷ []
each_of (Some o) (At m) = Later A m ∷ Later B m ∷ Moment A ∷ Moment B ∷ []
each_of (Some o) e = e ∷ []

-- and how that is answered
abbrev pub answers_of : Option Outcome → Event → List (Option Outcome)
answers_of None e = None ∷ []
answers_of (Some o) (At m) = Some Done ∷ Some Done ∷ Some Done ∷ Some Done ∷ []
answers_of (Some o) e = Some o ∷ []

-- so each event of a run
abbrev pub by_each : List Event → List (Option Outcome) → List Event
by_each (e ∷ es) (o ∷ os) = each_of o e ++ by_each es os
by_each es os = []

abbrev pub answers_by_each : List Event → List (Option Outcome) → List (Option Outcome)
answers_by_each (e ∷ es) (o ∷ os) = answers_of o e ++ answers_by_each es os
answers_by_each es os = []

-- It adds nothing: each run is a run, to the same world, in which each clock goes on by itself.
abbrev pub BothAreEach : Type 0
BothAreEach = (w v : World) (events : List Event) (answers : List (Option Outcome)) → Run w events answers v →
    Run w (by_each events answers) (answers_by_each events answers) v

-- ---- a run in which the clocks differ

-- A MESSAGE ARRIVES BY TWO CLOCKS. B's application does as a loop does: at the time of its clock, 5, it hands in what arrived, and then notifies its
-- endpoint of the time. A's clock goes on to 7,000 meanwhile: its data timer expires, and it sends the chunk again (RFC 9260, 6.3.3). B's clock still shows
-- 5.
pub record AMessageArrivesByTwoClocks : Type 0 where
  pub events : List Event
  pub last : World
  pub run : IsRunTo events last
  pub call : Call
  pub sent : Has events (Send A call)
  -- the loop of B
  pub front : List Event
  pub back : List Event
  pub loop : events ≡ front ++ Later B 5 ∷ Deliver A 1 ∷ Moment B ∷ back
  pub message : Handed
  pub delivered : handed last.b.receiver call.lane.stream ≡ message ∷ []
  pub bytes : message.bytes ≡ call.bytes
  -- the chunk was retransmitted once, by A's clock alone
  pub again : last.a.sender.repeats 1 ≡ 1
  pub clock_a : last.clock_a ≡ 7000
  pub clock_b : last.clock_b ≡ 5
  pub moment_a : last.a.moment ≡ 7000
  pub moment_b : last.b.moment ≡ 5
