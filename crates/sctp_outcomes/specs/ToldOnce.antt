-- Each ticket is reported to the user once, with the packet that gives the message its first TSN (RFC 9260, 6.9).
use Rattle.std.specs.Prelude.{◌≡◌, ℕ, ◌<◌, List, ◌++◌, Option}
use Rattle.sctp_model.specs.numbers.Lists.{Has, AreInOrder}
use Rattle.sctp_model.specs.wire.Chunk.{ChunkMeaning}
use Rattle.sctp_model.specs.sender.Filling.{newly_numbered}
use Rattle.sctp_model.specs.end.EndView.{EndView}
use Rattle.sctp_model.specs.end.Building.{Builds}
use Rattle.sctp_model.specs.world.World.{Side, World, end_of, end_now, Setup, start}
use Rattle.sctp_model.specs.world.Events.{Event, Outcome}
use Rattle.sctp_model.specs.world.Steps.{Run}
use Rattle.sctp_outcomes.specs.Kept.{numbered}

-- no ticket is twice among these
abbrev pub NoTicketTwice : List ℕ → Type 0
NoTicketTwice = AreInOrder (λ (t u : ℕ). t ≡ u → ⊥)

-- From the one endpoint to the other, a later one, the messages of these tickets took numbers: they had none before, and have one now, as all that had one
-- before.
pub record AreToldAnew (e t : EndView) (tickets : List ℕ) : Type 0 where
  pub behind : numbered t ≡ numbered e ++ tickets
  pub anew : (k : ℕ) → Has tickets k → Has (numbered e) k → ⊥
  pub once : NoTicketTwice (numbered t)

-- In every world of every run, also of one that meets no premise, the packet that an endpoint builds reports tickets anew, as far as the endpoint may put a
-- byte into a fragment.
abbrev pub BuildsTellAnew : Type 0
BuildsTellAnew = (s : Setup) (events : List Event) (answers : List (Option Outcome)) (w : World) → Run (start s) events answers w →
    (x : Side) → 0 < (end_of w x).configuration.fragment → (xs : List ChunkMeaning) (t : EndView) → Builds (end_now w x) xs t →
    AreToldAnew (end_of w x) t (newly_numbered (end_of w x).sender t.sender)

-- And whatever happens then, what was reported stays, and isn't reported again.
abbrev pub RunsTellAnew : Type 0
RunsTellAnew = (s : Setup) (events more : List Event) (answers others : List (Option Outcome)) (w v : World) → Run (start s) events answers w →
    Run w more others v → (x : Side) → 0 < (end_of w x).configuration.fragment → (tickets : List ℕ) × AreToldAnew (end_of w x) (end_of v x) tickets
