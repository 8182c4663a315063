-- Which pace stands for which of the definitions (`Pace`): all is equal but that, of an index that CUM passed, nothing is kept.
use Rattle.std.specs.Prelude.{◌≡◌, ℕ, nat_lt, Bool, Option, None, Some, IfSome}
use Rattle.sctp_model.specs.messages.Format.{Format}
use Rattle.sctp_model.specs.messages.Framing.{header_of}
use Rattle.sctp_model.specs.end.Trips.{Trips}
use Rattle.sctp_model.specs.end.Misses.{Misses}
use Rattle.sctp_model.specs.end.Control.{Control}
use Rattle.sctp_model.specs.end.Pacing.{Pace}
use Rattle.sctp_congestion.specs.Went.{WentKept, went_at, WentStands}

-- what is kept of miss indications
pub record MissesKept : Type 0 where
  pub first : ℕ
  pub second : ℕ
  pub third : ℕ
  pub exit : Option ℕ
  pub went : WentKept

-- what is kept of all
pub record PaceKept : Type 0 where
  pub trips : Trips
  pub misses : MissesKept
  pub control : Option Control

-- by what is kept, an index above CUM has its third miss indication, unless it is acknowledged
abbrev pub missed_at : PaceKept → ℕ → Bool
missed_at k i = nat_lt (went_at k.misses.went i) k.misses.third

-- up to this index there is memory for what goes out again or is taken back
abbrev pub pace_room : PaceKept → ℕ
pace_room k = k.misses.went.room

-- miss indications, above this cumulative index
pub record MissesStand (cum : ℕ) (k : MissesKept) (m : Misses) : Type 0 where
  pub first : k.first ≡ m.first
  pub second : k.second ≡ m.second
  pub third : k.third ≡ m.third
  pub exit : k.exit ≡ m.exit
  pub went : WentStands cum k.went m.went

-- Stands for: at a sender of this format with this cumulative index.
pub record PaceStands (f : Format) (cum : ℕ) (k : PaceKept) (p : Pace) : Type 0 where
  pub trips : k.trips ≡ p.trips
  pub misses : MissesStand cum k.misses p.misses
  pub control : k.control ≡ p.control
  pub header : IfSome p.control (λ c. c.header ≡ header_of f)

-- there is one in both, or in neither
abbrev pub PacesStand : Format → (cum : ℕ) → Option PaceKept → Option Pace → Type 0
PacesStand f cum None None = Unit {0}
PacesStand f cum None (Some p) = ⊥
PacesStand f cum (Some k) None = ⊥
PacesStand f cum (Some k) (Some p) = PaceStands f cum k p
