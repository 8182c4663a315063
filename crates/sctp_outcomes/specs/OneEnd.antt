-- The steps of one endpoint, whatever it is and whoever its peer: each packet that arrives and each packet that is built leaves one endpoint and one answer.
use Rattle.std.specs.Prelude.{◌≡◌, ℕ, List}
use Rattle.sctp_model.specs.wire.Chunk.{ChunkMeaning}
use Rattle.sctp_model.specs.wire.Packet.{Packet}
use Rattle.sctp_model.specs.receiver.Laws.{IsOrdinary}
use Rattle.sctp_outcomes.specs.receiver.Steps.{IsBound}
use Rattle.sctp_model.specs.end.EndView.{Draw, EndView, format_of}
use Rattle.sctp_model.specs.end.Strays.{Verdict}
use Rattle.sctp_model.specs.end.Arriving.{Arrives}
use Rattle.sctp_model.specs.end.Building.{Builds}

-- What every receiver has that packets alone made: it keeps each chunk in a place of its own, and recorded no index above some bound.
pub record IsReal (e : EndView) : Type 0 where
  pub ordinary : IsOrdinary (format_of e) e.receiver
  pub bound : ℕ
  pub within : IsBound e.receiver bound

-- a packet that arrives leaves an endpoint, and is answered, like this
abbrev pub HasVerdict : EndView → Draw → Packet → Type 0
HasVerdict e d p = (t : EndView) × (v : Verdict) × Arrives e d p t v

-- Every packet that reads has a verdict, and one only; what it leaves is real again.
pub record PacketsAreAnswered (e : EndView) : Type 0 where
  pub some : (d : Draw) (p : Packet) → HasVerdict e d p
  pub one : (d : Draw) (p : Packet) (t u : EndView) (v w : Verdict) → Arrives e d p t v → Arrives e d p u w → (t ≡ u) × (v ≡ w)
  pub real : (d : Draw) (p : Packet) (t : EndView) (v : Verdict) → Arrives e d p t v → IsReal t

-- an endpoint has a next packet, of these chunks, none of which is no packet
abbrev pub HasNext : EndView → Type 0
HasNext e = (xs : List ChunkMeaning) × (t : EndView) × Builds e xs t

-- Every end has a next packet, and one only; what building it leaves is real again.
pub record PacketsAreBuilt (e : EndView) : Type 0 where
  pub some : HasNext e
  pub one : (xs ys : List ChunkMeaning) (t u : EndView) → Builds e xs t → Builds e ys u → (xs ≡ ys) × (t ≡ u)
  pub real : (xs : List ChunkMeaning) (t : EndView) → Builds e xs t → IsReal t

-- ACT is a function, of every end that is real (RFC 9260, 4).
abbrev pub ActIsOne : Type 0
ActIsOne = (e : EndView) → IsReal e → PacketsAreAnswered e

-- And so is BUILD (RFC 9260, 6.10).
abbrev pub BuildIsOne : Type 0
BuildIsOne = (e : EndView) → IsReal e → PacketsAreBuilt e
