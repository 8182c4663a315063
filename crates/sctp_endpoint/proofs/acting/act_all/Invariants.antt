use Rattle.std.proofs.Common.{◌≡◌, List, ◌++◌, length}
use Rattle.sctp_model.specs.wire.Chunk.{ChunkMeaning}
use Rattle.sctp_model.specs.end.EndView.{EndView}
use Rattle.sctp_association.specs.MachineStands.{MachineStands}
use Rattle.sctp_endpoint.specs.inner.Acted.{notes_meaning}
use Rattle.sctp_endpoint.specs.inner.SacksHeard.{after_chunks}
use Rattle.sctp_endpoint.specs.declared.after.Verdict.TheVariants.{Taken}
use Rattle.sctp_endpoint.proofs.ChunksInTurn.{ActsBehind}
use Rattle.sctp_endpoint.proofs.acting.act_all.Given as goal

-- Whatever acts from here on, acts behind what was done; with the SACKs to come all are counted; and no verdict was written.
abbrev pub invariant-loop-rest : goal.invariant-loop-rest
invariant-loop-rest l =
    ((v : EndView) → MachineStands l.fn.machine v
    → (done : List ChunkMeaning) × (t : EndView) × (l.fn.chunks ≡ done ++ l.rest) × MachineStands l.machine t
    × ActsBehind l.tag v (notes_meaning l.fn.notes) done t (notes_meaning l.notes))
    × (after_chunks l.rest l.sacks ≡ after_chunks l.fn.chunks l.fn.sacks) × (l.told ≡ Taken)

abbrev pub decreases-loop-rest : goal.decreases-loop-rest
decreases-loop-rest l = length l.rest
