-- The first of whole chunks, if it is a DATA, an I-DATA or a SACK, and what follows it.
use Rattle.std.proofs.Common.{◌≡◌, ℕ, ◌<◌, false, List, ◌∷◌, length, refl, sym, ap, ◌∙◌}
use Rattle.std.specs.Prelude.{◌==◌, None, slice_index}
use Rattle.sctp_model.specs.wire.Chunk.{PieceMeaning, SackMeaning, ChunkMeaning, Data, IData, Init, InitAck, Sack, Heartbeat, HeartbeatAck, Abort, Shutdown, ShutdownAck, Error, CookieEcho, CookieAck, ShutdownComplete, ForwardTsn, IForwardTsn, Unknown, kind_of}
use Rattle.sctp_model.specs.numbers.Numbers.{AreBytes}
use Rattle.sctp_wire.specs.Reading.{body_at, AreChunks, chunks_of}
use Rattle.sctp_wire.specs.Starts.{first_data, first_i_data, first_sack}
use Rattle.sctp_wire.specs.chunks.Data.{data_at}
use Rattle.sctp_wire.specs.chunks.IData.{i_data_at}
use Rattle.sctp_wire.specs.chunks.Sack.{sack_at}
use Rattle.sctp_wire.specs.inner.Standing.{IsParted}
use Rattle.sctp_wire.proofs.StandingLemmas.{told}

no_data : (m : ChunkMeaning) (ms : List ChunkMeaning) → (kind_of m == 0) ≡ false → first_data (m ∷ ms) ≡ None
no_data (Data p) ms e = cc
no_data (IData p) ms e = refl
no_data (Init i) ms e = refl
no_data (InitAck i) ms e = refl
no_data (Sack s) ms e = refl
no_data (Heartbeat info) ms e = refl
no_data (HeartbeatAck info) ms e = refl
no_data (Abort t causes) ms e = refl
no_data (Shutdown n) ms e = refl
no_data ShutdownAck ms e = refl
no_data (Error causes) ms e = refl
no_data (CookieEcho cookie) ms e = refl
no_data CookieAck ms e = refl
no_data (ShutdownComplete t) ms e = refl
no_data (ForwardTsn f) ms e = refl
no_data (IForwardTsn f) ms e = refl
no_data (Unknown kind flags value) ms e = refl

no_i_data : (m : ChunkMeaning) (ms : List ChunkMeaning) → (kind_of m == 64) ≡ false → first_i_data (m ∷ ms) ≡ None
no_i_data (Data p) ms e = refl
no_i_data (IData p) ms e = cc
no_i_data (Init i) ms e = refl
no_i_data (InitAck i) ms e = refl
no_i_data (Sack s) ms e = refl
no_i_data (Heartbeat info) ms e = refl
no_i_data (HeartbeatAck info) ms e = refl
no_i_data (Abort t causes) ms e = refl
no_i_data (Shutdown n) ms e = refl
no_i_data ShutdownAck ms e = refl
no_i_data (Error causes) ms e = refl
no_i_data (CookieEcho cookie) ms e = refl
no_i_data CookieAck ms e = refl
no_i_data (ShutdownComplete t) ms e = refl
no_i_data (ForwardTsn f) ms e = refl
no_i_data (IForwardTsn f) ms e = refl
no_i_data (Unknown kind flags value) ms e = refl

no_sack : (m : ChunkMeaning) (ms : List ChunkMeaning) → (kind_of m == 3) ≡ false → first_sack (m ∷ ms) ≡ None
no_sack (Data p) ms e = refl
no_sack (IData p) ms e = refl
no_sack (Init i) ms e = refl
no_sack (InitAck i) ms e = refl
no_sack (Sack s) ms e = cc
no_sack (Heartbeat info) ms e = refl
no_sack (HeartbeatAck info) ms e = refl
no_sack (Abort t causes) ms e = refl
no_sack (Shutdown n) ms e = refl
no_sack ShutdownAck ms e = refl
no_sack (Error causes) ms e = refl
no_sack (CookieEcho cookie) ms e = refl
no_sack CookieAck ms e = refl
no_sack (ShutdownComplete t) ms e = refl
no_sack (ForwardTsn f) ms e = refl
no_sack (IForwardTsn f) ms e = refl
no_sack (Unknown kind flags value) ms e = refl

data_body : (kind flags : ℕ) (value : List ℕ) → kind ≡ 0 → body_at kind flags value ≡ Data (data_at flags value)
unfolding body_at
data_body kind flags value e = rw e refl

sack_body : (kind flags : ℕ) (value : List ℕ) → kind ≡ 3 → body_at kind flags value ≡ Sack (sack_at value)
unfolding body_at
sack_body kind flags value e = rw e refl

i_data_body : (kind flags : ℕ) (value : List ℕ) → kind ≡ 64 → body_at kind flags value ≡ IData (i_data_at flags value)
unfolding body_at
i_data_body kind flags value e = rw e refl

-- a piece of data, and what follows it
pub data_parted : (bytes value others : List ℕ) (p : PieceMeaning) → IsParted bytes value others → slice_index bytes 0 ≡ 0 → p ≡ data_at (slice_index bytes 1) value
    → (chunks_of bytes ≡ Data p ∷ chunks_of others) × AreChunks others
data_parted bytes value others p parted kind read =
    (parted.listed ∙ ap (λ (m : ChunkMeaning). m ∷ chunks_of others) (data_body (slice_index bytes 0) (slice_index bytes 1) value kind ∙ ap (λ (q : PieceMeaning). Data q) (sym read)), parted.chunks)

pub i_data_parted : (bytes value others : List ℕ) (p : PieceMeaning) → IsParted bytes value others → slice_index bytes 0 ≡ 64 → p ≡ i_data_at (slice_index bytes 1) value
    → (chunks_of bytes ≡ IData p ∷ chunks_of others) × AreChunks others
i_data_parted bytes value others p parted kind read =
    (parted.listed ∙ ap (λ (m : ChunkMeaning). m ∷ chunks_of others) (i_data_body (slice_index bytes 0) (slice_index bytes 1) value kind ∙ ap (λ (q : PieceMeaning). IData q) (sym read)), parted.chunks)

pub sack_parted : (bytes value others : List ℕ) (s : SackMeaning) → IsParted bytes value others → slice_index bytes 0 ≡ 3 → s ≡ sack_at value
    → (chunks_of bytes ≡ Sack s ∷ chunks_of others) × AreChunks others
sack_parted bytes value others s parted kind read =
    (parted.listed ∙ ap (λ (m : ChunkMeaning). m ∷ chunks_of others) (sack_body (slice_index bytes 0) (slice_index bytes 1) value kind ∙ ap (λ (q : SackMeaning). Sack q) (sym read)), parted.chunks)

pub no_data_first : (bytes : List ℕ) → AreBytes bytes → 0 < length bytes → AreChunks bytes → (slice_index bytes 0 == 0) ≡ false → first_data (chunks_of bytes) ≡ None
no_data_first bytes ranged some chunks other =
    let t = told bytes ranged some chunks in rw t.listed (no_data t.first t.others (rw t.kind at other))

pub no_i_data_first : (bytes : List ℕ) → AreBytes bytes → 0 < length bytes → AreChunks bytes → (slice_index bytes 0 == 64) ≡ false → first_i_data (chunks_of bytes) ≡ None
no_i_data_first bytes ranged some chunks other =
    let t = told bytes ranged some chunks in rw t.listed (no_i_data t.first t.others (rw t.kind at other))

pub no_sack_first : (bytes : List ℕ) → AreBytes bytes → 0 < length bytes → AreChunks bytes → (slice_index bytes 0 == 3) ≡ false → first_sack (chunks_of bytes) ≡ None
no_sack_first bytes ranged some chunks other =
    let t = told bytes ranged some chunks in rw t.listed (no_sack t.first t.others (rw t.kind at other))
