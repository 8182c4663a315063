-- The FORWARD that was built last: what it says of the entries that it was built from stays true, since entries that have a TSN stay (RFC 3758, 3.5).
use Rattle.std.specs.Prelude.{◌≡◌, ℕ, suc, ◌+◌, ◌-◌, ◌/◌, ◌<◌, ◌≤◌, List, length, map, take, drop, Option, None, Some}
use Rattle.sctp_model.specs.messages.Format.{Format, Lane}
use Rattle.sctp_model.specs.messages.Plan.{Entry}
use Rattle.sctp_model.specs.sender.Forwarding.{skips_below}
use Rattle.sctp_model.specs.sender.SentChunks.{skip_said}
use Rattle.sctp_wire.specs.Skips.{skip_size, skips_in}
use Rattle.sctp_framing.specs.SkipForms.{skip_form}
use Rattle.sctp_send.specs.declared.kept.last_forward.LastForward.{LastForward}

-- It lists the streams of the first of these entries, of as many as fit its packet limit with their list.
pub record IsBuilt (f : Format) (base : Lane → ℕ) (streams : ℕ) (es : List Entry) (l : LastForward) : Type 0 where
  pub least : 20 ≤ l.limit
  pub some : 0 < l.passed
  pub within : l.passed ≤ l.run
  pub skips : skips_in (skip_form f) l.list.items ≡ map (skip_said f base) (skips_below f (take l.passed es) streams)
  pub few : length (skips_below f (take l.passed es) streams) ≤ (l.limit - 20) / skip_size (skip_form f)
  pub last : l.passed < l.run → (l.limit - 20) / skip_size (skip_form f) < length (skips_below f (take (suc l.passed) es) streams)

-- So it does of the entries that came after CUM when it was built, which are still in the plan.
pub record IsLastForward (f : Format) (base : Lane → ℕ) (streams : ℕ) (plan : List Entry) (l : LastForward) : Type 0 where
  pub there : l.cum + l.run ≤ length plan
  pub built : IsBuilt f base streams (take l.run (drop l.cum plan)) l

-- if there is one
abbrev pub IsForwardKept : Format → (base : Lane → ℕ) → (streams : ℕ) → (plan : List Entry) → Option LastForward → Type 0
IsForwardKept f b n es None = Unit {0}
IsForwardKept f b n es (Some l) = IsLastForward f b n es l
