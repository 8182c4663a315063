-- An endpoint that is set up without HEARTBEATs behaves as one that doesn't know of them; at one that is set up for them their timer runs (RFC 9260, 8.3).
use Rattle.std.specs.Prelude.{◌≡◌, ℕ, true, false, List, Option, None, Some, is_some}
use Rattle.sctp_model.specs.end.EndView.{BeatAlarm, EndView, no_beats}
use Rattle.sctp_model.specs.end.Clock.{is_home}
use Rattle.sctp_model.specs.world.World.{Side, World, end_of, Setup, configuration_of, start}
use Rattle.sctp_model.specs.world.Events.{Event, Outcome}
use Rattle.sctp_model.specs.world.Steps.{Run}

-- It has made none, their timer rests, so that it ends no association, and none is due.
pub record IsNeverBeating (e : EndView) : Type 0 where
  pub made : e.beats ≡ no_beats
  pub rests : (e.timers BeatAlarm).expiry ≡ None
  pub due : e.due.beat ≡ false

-- So it is in every run, whatever its peer sends.
abbrev pub NoBeatUnasked : Type 0
NoBeatUnasked = (s : Setup) (events : List Event) (answers : List (Option Outcome)) (w : World) → Run (start s) events answers w →
    (x : Side) → (configuration_of s x).heartbeat ≡ None → IsNeverBeating (end_of w x)

-- At an endpoint that is set up for HEARTBEATs their timer runs in each state in which it may send one: so an idle association is tested again and again, as
-- long as the endpoint is asked what is due.
abbrev pub BeatsGoOn : Type 0
BeatsGoOn = (s : Setup) (events : List Event) (answers : List (Option Outcome)) (w : World) → Run (start s) events answers w →
    (x : Side) (interval : ℕ) → (configuration_of s x).heartbeat ≡ Some interval → is_home BeatAlarm (end_of w x).phase ≡ true →
    is_some ((end_of w x).timers BeatAlarm).expiry ≡ true
