-- Which verification tag a packet must have, by its first chunk.
use Rattle.std.proofs.Common.{◌≡◌, ℕ, true, false, List, [], ◌∷◌, refl, ◌∙◌}
use Rattle.std.specs.Prelude.{◌==◌, if◌then◌else◌}
use Rattle.sctp_model.specs.wire.Chunk.{ChunkMeaning, Data, IData, Init, InitAck, Sack, Heartbeat, HeartbeatAck, Abort, Shutdown, ShutdownAck, Error, CookieEcho, CookieAck, ShutdownComplete, ForwardTsn, IForwardTsn, Unknown}
use Rattle.sctp_model.specs.end.EndView.{Phase}
use Rattle.sctp_model.specs.end.Passing.{NO_TAG, passes_tag, passes_chunks}
use Rattle.sctp_wire.specs.Starts.{starts_with_init, starts_reflected}

passes_by : (h : Phase) (tag : ℕ) (ms : List ChunkMeaning)
    → passes_chunks h tag ms ≡ (if starts_with_init ms then tag == NO_TAG else passes_tag h (starts_reflected ms) tag)
passes_by h tag [] = refl
passes_by h tag (Data p ∷ ms) = refl
passes_by h tag (IData p ∷ ms) = refl
passes_by h tag (Init i ∷ ms) = refl
passes_by h tag (InitAck i ∷ ms) = refl
passes_by h tag (Sack s ∷ ms) = refl
passes_by h tag (Heartbeat info ∷ ms) = refl
passes_by h tag (HeartbeatAck info ∷ ms) = refl
passes_by h tag (Abort t causes ∷ ms) = refl
passes_by h tag (Shutdown n ∷ ms) = refl
passes_by h tag (ShutdownAck ∷ ms) = refl
passes_by h tag (Error causes ∷ ms) = refl
passes_by h tag (CookieEcho cookie ∷ ms) = refl
passes_by h tag (CookieAck ∷ ms) = refl
passes_by h tag (ShutdownComplete t ∷ ms) = refl
passes_by h tag (ForwardTsn f ∷ ms) = refl
passes_by h tag (IForwardTsn f ∷ ms) = refl
passes_by h tag (Unknown kind flags value ∷ ms) = refl

pub passes_init : (h : Phase) (tag : ℕ) (ms : List ChunkMeaning) → starts_with_init ms ≡ true → passes_chunks h tag ms ≡ (tag == NO_TAG)
passes_init h tag ms e = passes_by h tag ms ∙ rw e refl

pub passes_other : (h : Phase) (tag : ℕ) (ms : List ChunkMeaning) → starts_with_init ms ≡ false → passes_chunks h tag ms ≡ passes_tag h (starts_reflected ms) tag
passes_other h tag ms e = passes_by h tag ms ∙ rw e refl
