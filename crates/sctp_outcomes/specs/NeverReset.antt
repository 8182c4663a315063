-- An endpoint that is set up without stream reset behaves as one that doesn't know of it (RFC 6525).
use Rattle.std.specs.Prelude.{◌≡◌, ℕ, false, List, Option}
use Rattle.sctp_model.specs.end.EndView.{EndView}
use Rattle.sctp_model.specs.end.Reconfiguring.{takes_reconfig, asking}
use Rattle.sctp_model.specs.world.World.{Side, World, end_of, Setup, configuration_of, start}
use Rattle.sctp_model.specs.world.Events.{Event, Outcome}
use Rattle.sctp_model.specs.world.Steps.{Run}

-- It hasn't agreed on it; a RE-CONFIG is a chunk of an unknown type; and it makes no request.
pub record IsNeverReset (e : EndView) : Type 0 where
  pub agreed : e.terms.reset ≡ false
  pub deaf : (kind : ℕ) → takes_reconfig e kind ≡ false
  pub asks : asking e ≡ e

-- So it is in every run, whatever third parties know, also if a cookie was forged.
abbrev pub NoResetUnasked : Type 0
NoResetUnasked = (s : Setup) (events : List Event) (answers : List (Option Outcome)) (w : World) → Run (start s) events answers w →
    (x : Side) → (configuration_of s x).reset ≡ false → IsNeverReset (end_of w x)
