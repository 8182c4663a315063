use Rattle.std.proofs.Common.{◌≡◌, ◌≤◌, List, Option, length, take, vec_len}
use Rattle.std.specs.Prelude.{vec_capacity}
use Rattle.sctp_model.specs.world.World.{World}
use Rattle.sctp_model.specs.world.Events as meaning
use Rattle.sctp_model.specs.world.Steps.{PassesThrough, last_of}
use Rattle.sctp_pair.specs.PairRuns.{answers_of, AllMean}
use Rattle.sctp_pair.specs.PairStands.{PairStands}
use Rattle.sctp_pair.proofs.pair.Pair.run.Given as goal

-- there is room for the outcomes that are left, and a course of the events so far gave those that are there
abbrev pub invariant-loop-event : goal.invariant-loop-event
invariant-loop-event l =
    (vec_len l.outcomes ≡ l.event-index) × (length l.events ≤ vec_capacity l.outcomes)
    × ((w : World) → PairStands l.fn.self w
    → (es : List meaning.Event) × (answers : List (Option meaning.Outcome)) × (worlds : List World) × AllMean (take l.event-index l.events) es
    × (answers ≡ answers_of l.outcomes.items) × PassesThrough w es answers worlds × PairStands l.self (last_of w worlds))
