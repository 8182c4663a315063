-- What is done with a packet at an endpoint without an association, in terms of a view (RFC 9260, 5.1 and 8.4).
use Rattle.std.specs.Prelude.{◌≡◌, ℕ, ◌⊎◌, true, List, Some, None}
use Rattle.sctp_model.specs.wire.Chunk.{ChunkMeaning}
use Rattle.sctp_model.specs.end.Sealing.{Body}
use Rattle.sctp_model.specs.end.EndView.{Draw, EndView}
use Rattle.sctp_model.specs.end.Opening.{begun}
use Rattle.sctp_model.specs.end.Strays.{body_among, chunks_verdict}
use Rattle.sctp_model.specs.end.Arriving.{is_answer}
use Rattle.sctp_association.specs.MachineStands.{MachineStands}
use Rattle.sctp_association.specs.declared.machine.Machine.{Machine}
use Rattle.sctp_endpoint.specs.Handled.{VerdictStands, IsAnsweredWithin}
use Rattle.sctp_endpoint.specs.declared.after.Strayed.{Strayed}
use Rattle.sctp_endpoint.specs.declared.after.Strayed.TheVariants.{Begun, Told}
use Rattle.sctp_endpoint.specs.declared.after.Verdict.TheVariants.{Taken, Dropped, Answer}

-- The first chunk's cookie began an association; or it has no valid one, nothing changed, and this is the verdict, an answer within the packet limit.
abbrev pub StrayLeft : Strayed → EndView → Draw → (tag : ℕ) → List ChunkMeaning → Machine → Type 0
StrayLeft Begun v d tag ms m = (b : Body) × (body_among v tag ms ≡ Some b) × MachineStands m (begun b v)
StrayLeft (Told told) v d tag ms m =
    (body_among v tag ms ≡ None) × VerdictStands told (chunks_verdict v d tag ms) × IsAnsweredWithin v.configuration.limit told × MachineStands m v

-- Such a packet needs memory only for its answer, or for the association that it begins.
abbrev pub StrayWants : EndView → Draw → (tag : ℕ) → List ChunkMeaning → Type 0
StrayWants v d tag ms = (is_answer (chunks_verdict v d tag ms) ≡ true) ⊎ ((b : Body) × (body_among v tag ms ≡ Some b))

-- unless it begins an association it isn't handled, but dropped or answered
abbrev pub IsUntaken : Strayed → Type 0
IsUntaken Begun = Unit {0}
IsUntaken (Told Taken) = ⊥
IsUntaken (Told (Dropped reason)) = Unit {0}
IsUntaken (Told (Answer packet)) = Unit {0}
