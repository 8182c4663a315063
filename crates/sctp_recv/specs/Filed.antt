-- Where the chunks kept are: each in its stream and kind.
use Rattle.std.specs.Prelude.{◌≡◌, ℕ, ◌<◌, Bool, true, false, List, [], length, slice_get, Option, None, Some}
use Rattle.sctp_model.specs.numbers.Lists.{Has}
use Rattle.sctp_model.specs.messages.Format.{Format, Lane, ordered_lane, unordered_lane}
use Rattle.sctp_model.specs.messages.Pieces.{Piece}
use Rattle.sctp_model.specs.receiver.KeptOfLane.{of_lane}
use Rattle.sctp_chains.specs.StandsFor as lane
use Rattle.sctp_chains.specs.declared.chains.Chains.{Chains}
use Rattle.sctp_recv.specs.Fields.{inside}
use Rattle.sctp_recv.specs.declared.inbound.Inbound.{Inbound}
use Rattle.sctp_recv.specs.declared.stream.Stream.{Stream}

-- the chunks of a kind
abbrev pub lane_in : {F : Type 0} → Inbound F → (unordered : Bool) → Chains F
lane_in x true = x.unordered
lane_in x false = x.ordered

-- these are kept of a kind; none where nothing is known
abbrev pub Keeps : {F : Type 0} → Format → Option (Inbound F) → (unordered : Bool) → Lane → List Piece → Type 0
Keeps f None u l kept = kept ≡ []
Keeps f (Some x) u l kept = lane.StandsFor f (lane_in x u) l kept

-- what is kept of either kind is what was
abbrev pub SameLanes : {F : Type 0} → Format → (old new : Stream F) → Type 0
SameLanes f old new = (u : Bool) (l : Lane) (kept : List Piece) → Keeps f (inside old) u l kept → Keeps f (inside new) u l kept

-- A stream keeps its chunks, by their kind.
pub record IsFiledOn {F : Type 0} (f : Format) (kept : List Piece) (s : ℕ) (x : Stream F) : Type 0 where
  pub ordered : Keeps f (inside x) false (ordered_lane s) (of_lane (ordered_lane s) kept)
  pub unordered : Keeps f (inside x) true (unordered_lane s) (of_lane (unordered_lane s) kept)

-- Each stream keeps its own, and there are no others.
pub record AreFiled {F : Type 0} (f : Format) (kept : List Piece) (streams : List (Stream F)) : Type 0 where
  pub each : (s : ℕ) (x : Stream F) → slice_get streams s ≡ Some x → IsFiledOn f kept s x
  pub there : (x : Piece) → Has kept x → x.lane.stream < length streams
