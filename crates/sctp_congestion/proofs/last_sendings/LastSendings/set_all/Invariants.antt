use Rattle.std.proofs.Common.{◌≡◌, ℕ, ◌≤◌, take}
use Rattle.std.specs.List.{All}
use Rattle.sctp_congestion.specs.Went.{went_again, WentStands}
use Rattle.sctp_congestion.proofs.last_sendings.LastSendings.set_all.Given as goal

abbrev pub invariant-loop-index : goal.invariant-loop-index
invariant-loop-index l = record {
  room : l.self.room ≡ l.initial.self.room;
  stands : (cum : ℕ) (went : ℕ → ℕ) → WentStands cum l.initial.self went → All (λ i. i ≤ l.initial.self.room) l.indexes
      → WentStands cum l.self (went_again (take l.index-index l.indexes) l.number went);
}
