-- A chunk's flags and value are read in one way, and what is read has that layout.
use Rattle.std.proofs.Common.{◌≡◌, ℕ, ◌+◌, ◌/◌, ◌<◌, ◌≤◌, ◌^◌, true, List, [], ◌∷◌, length, drop, refl, sym, ap, ◌∙◌, arith}
use Rattle.std.specs.Prelude.{◌==◌}
use Rattle.std.proofs.lemmas.List.{append-nil, drop_all}
use Rattle.std.proofs.lemmas.Bool.{leb-true, le-leb}
use Rattle.std.proofs.lemmas.Grind.{common_steps}
use Rattle.sctp_model.specs.wire.Chunk.{ChunkMeaning, Data, Init, InitAck, Sack, Heartbeat, HeartbeatAck, Abort, Shutdown, ShutdownAck, Error, CookieEcho, CookieAck, ShutdownComplete, IData, ForwardTsn, IForwardTsn, Unknown, kind_of, chunk_length}
use Rattle.sctp_model.specs.numbers.Numbers.{u32_bytes, u32_at, AreBytes}
use Rattle.sctp_wire.specs.declared.skips.SkipForm.TheVariants.{Narrow, Wide}
use Rattle.sctp_wire.specs.chunks.Data.{data_value}
use Rattle.sctp_wire.specs.chunks.IData.{i_data_laid}
use Rattle.sctp_wire.specs.chunks.Init.{init_value}
use Rattle.sctp_wire.specs.Layouts.{flags_of, ReadsFlags, value_of, ReadsValue, has_layout, has_list, IsInRange, IsReadable}
use Rattle.sctp_wire.specs.Reading.{body_at}
use Rattle.sctp_wire.proofs.NumberLemmas.{u32_at-bytes, length-u32, bytes-u32_at, u32_at-lt}
use Rattle.sctp_wire.proofs.KindLemmas.{IsType, is_data, is_init, is_init_ack, is_sack, is_heartbeat, is_heartbeat_ack, is_abort, is_shutdown, is_shutdown_ack, is_error, is_cookie_echo, is_cookie_ack, is_shutdown_complete, is_i_data, is_forward_tsn, is_i_forward_tsn, is_other, type_of, unlike}
use Rattle.sctp_wire.proofs.PieceLemmas.{flags_split, i_flags_split, reflected_split, reflected_read, length-data_value, data_at-value, value-data_at, IsDataPiece-data_at, length-i_data_laid, i_data_at-laid, laid-i_data_at, IsIDataPiece-i_data_at}
use Rattle.sctp_wire.proofs.InitLemmas.{list_behind, init_length, offer_read, value_offered, offer_in_range}
use Rattle.sctp_wire.proofs.SackLemmas.{length-sack_value, is_sack_value-value, sack_at-value, has_counts, value-sack_at, IsSack-sack_at}
use Rattle.sctp_wire.proofs.ForwardLemmas.{has_entries, reads_forward_value, length-reads_forward, is_forward_value-reads, forward_at-reads, reads-forward_at, IsForward-forward_at}

-- ---- lengths

pub length-value : (m : ChunkMeaning) (value : List ℕ) → ReadsValue value m → 4 + length value ≡ chunk_length m
length-value (Data p) value e = omega (arith, ap length e, length-data_value p)
length-value (Init i) value e = omega (arith, ap length e, init_length i)
length-value (InitAck i) value e = omega (arith, ap length e, init_length i)
length-value (Sack s) value e = omega (arith, ap length e, length-sack_value s)
length-value (Heartbeat info) value e = omega (arith, ap length e)
length-value (HeartbeatAck info) value e = omega (arith, ap length e)
length-value (Abort reflected causes) value e = omega (arith, ap length e)
length-value (Shutdown cumulative) value e = omega (arith, ap length e, length-u32 cumulative)
length-value ShutdownAck value e = omega (arith, ap length e)
length-value (Error causes) value e = omega (arith, ap length e)
length-value (CookieEcho cookie) value e = omega (arith, ap length e)
length-value CookieAck value e = omega (arith, ap length e)
length-value (ShutdownComplete reflected) value e = omega (arith, ap length e)
length-value (IData p) value (reserved, e) = omega (arith, ap length e, length-i_data_laid reserved p)
length-value (ForwardTsn f) value reads = omega (arith, length-reads_forward Narrow f value reads)
length-value (IForwardTsn f) value reads = omega (arith, length-reads_forward Wide f value reads)
length-value (Unknown kind flags value') value e = omega (arith, ap length e)

-- what is written for a value reads
pub reads_value_of : (m : ChunkMeaning) → ReadsValue (value_of m) m
reads_value_of (IData p) = (0, refl)
reads_value_of (ForwardTsn f) = reads_forward_value Narrow f
reads_value_of (IForwardTsn f) = reads_forward_value Wide f
reads_value_of (Data p) = refl
reads_value_of (Init i) = refl
reads_value_of (InitAck i) = refl
reads_value_of (Sack s) = refl
reads_value_of (Heartbeat info) = refl
reads_value_of (HeartbeatAck info) = refl
reads_value_of (Abort reflected causes) = refl
reads_value_of (Shutdown cumulative) = refl
reads_value_of ShutdownAck = refl
reads_value_of (Error causes) = refl
reads_value_of (CookieEcho cookie) = refl
reads_value_of CookieAck = refl
reads_value_of (ShutdownComplete reflected) = refl
reads_value_of (Unknown kind flags value) = refl

pub length-value_of : (m : ChunkMeaning) → 4 + length (value_of m) ≡ chunk_length m
length-value_of m = length-value m (value_of m) (reads_value_of m)

-- the flags that are written are read
pub reads_flags_of : (m : ChunkMeaning) → ReadsFlags (flags_of m) m
reads_flags_of (Data p) = (0, omega arith)
reads_flags_of (IData p) = (0, omega arith)
reads_flags_of (Abort reflected causes) = (0, omega arith)
reads_flags_of (ShutdownComplete reflected) = (0, omega arith)
reads_flags_of (Unknown kind flags value) = refl
reads_flags_of (Init i) = tt
reads_flags_of (InitAck i) = tt
reads_flags_of (Sack s) = tt
reads_flags_of (Heartbeat info) = tt
reads_flags_of (HeartbeatAck info) = tt
reads_flags_of (Shutdown cumulative) = tt
reads_flags_of ShutdownAck = tt
reads_flags_of (Error causes) = tt
reads_flags_of (CookieEcho cookie) = tt
reads_flags_of CookieAck = tt
reads_flags_of (ForwardTsn f) = tt
reads_flags_of (IForwardTsn f) = tt

-- ---- what reads as a chunk is of its layout, and reads as it

pub record IsReadBack (f : ℕ) (v : List ℕ) (m : ChunkMeaning) : Type 0 where
  pub laid : has_layout (kind_of m) v ≡ true
  pub list : has_list (kind_of m) v ≡ true
  pub body : body_at (kind_of m) f v ≡ m

pub body_read : (m : ChunkMeaning) (flags : ℕ) (value : List ℕ) → ReadsFlags flags m → ReadsValue value m → IsReadable m → IsReadBack flags value m
unfolding body_at
body_read (Data p) flags value (unused, f) e r = rw e (record {
  laid = le-leb 12 (length (data_value p)) (omega (arith, length-data_value p));
  list = refl;
  body = ap Data (data_at-value p unused flags f r.fields);
})
body_read (Init offer) flags value f e r =
    let long = le-leb 16 (length (init_value offer)) (omega (arith, init_length offer)) in
    rw e (record { laid = long; list = rw (list_behind offer) r.fields.listed; body = ap Init (offer_read offer r.fields) })
body_read (InitAck offer) flags value f e r =
    let long = le-leb 16 (length (init_value offer)) (omega (arith, init_length offer)) in
    rw e (record { laid = long; list = rw (list_behind offer) r.fields.listed; body = ap InitAck (offer_read offer r.fields) })
body_read (Sack s) flags value f e r =
    let small = r.length in
    let blocks : length s.blocks < 2 ^ 16 = omega arith in
    let duplicates : length s.duplicates < 2 ^ 16 = omega arith in
    rw e (record {
      laid = is_sack_value-value s blocks duplicates;
      list = refl;
      body = ap Sack (sack_at-value s blocks duplicates r.fields);
    })
body_read (Heartbeat info) flags value f e r = rw e (record { laid = refl; list = refl; body = refl })
body_read (HeartbeatAck info) flags value f e r = rw e (record { laid = refl; list = refl; body = refl })
body_read (Abort reflected causes) flags value (unused, f) e r =
    rw e (record { laid = refl; list = r.fields; body = rw (reflected_read flags unused reflected f) refl })
body_read (Shutdown cumulative) flags value f e r =
    let same : u32_at value ≡ cumulative = ap u32_at (e ∙ sym (append-nil (u32_bytes cumulative))) ∙ u32_at-bytes cumulative [] r.fields in
    record { laid = rw (e, length-u32 cumulative) refl; list = refl; body = rw same refl }
body_read ShutdownAck flags value f e r = rw e (record { laid = refl; list = refl; body = refl })
body_read (Error causes) flags value f e r = rw e (record { laid = refl; list = r.fields; body = refl })
body_read (CookieEcho cookie) flags value f e r = rw e (record { laid = refl; list = refl; body = refl })
body_read CookieAck flags value f e r = rw e (record { laid = refl; list = refl; body = refl })
body_read (ShutdownComplete reflected) flags value (unused, f) e r =
    rw e (record { laid = refl; list = refl; body = rw (reflected_read flags unused reflected f) refl })
body_read (IData p) flags value (unused, f) (reserved, e) r = rw e (record {
  laid = le-leb 16 (length (i_data_laid reserved p)) (omega (arith, length-i_data_laid reserved p));
  list = refl;
  body = ap IData (i_data_at-laid reserved p unused flags f r.fields);
})
body_read (ForwardTsn f) flags value any reads r =
    record { laid = is_forward_value-reads Narrow f value reads; list = refl; body = ap ForwardTsn (forward_at-reads Narrow f value reads r.fields) }
body_read (IForwardTsn f) flags value any reads r =
    record { laid = is_forward_value-reads Wide f value reads; list = refl; body = ap IForwardTsn (forward_at-reads Wide f value reads r.fields) }
body_read (Unknown kind kept v) flags value f e r =
    let other = r.fields.other in
    rw (e, f) (record { laid = rw (unlike kind 0 other refl, unlike kind 1 other refl, unlike kind 2 other refl, unlike kind 3 other refl, unlike kind 7 other refl, unlike kind 8 other refl, unlike kind 11 other refl, unlike kind 14 other refl, unlike kind 64 other refl, unlike kind 192 other refl, unlike kind 194 other refl) refl; list = rw (unlike kind 1 other refl, unlike kind 2 other refl, unlike kind 6 other refl, unlike kind 9 other refl) refl; body = rw (unlike kind 0 other refl, unlike kind 1 other refl, unlike kind 2 other refl, unlike kind 3 other refl, unlike kind 4 other refl, unlike kind 5 other refl, unlike kind 6 other refl, unlike kind 7 other refl, unlike kind 8 other refl, unlike kind 9 other refl, unlike kind 10 other refl, unlike kind 11 other refl, unlike kind 14 other refl, unlike kind 64 other refl, unlike kind 192 other refl, unlike kind 194 other refl) refl })

-- ---- what is of a layout reads as a chunk of it

pub record IsBody (k f : ℕ) (v : List ℕ) (m : ChunkMeaning) : Type 0 where
  pub kind : kind_of m ≡ k
  pub flags : ReadsFlags f m
  pub value : ReadsValue v m
  pub fields : IsInRange m

-- no bytes where there are none
no_bytes : (value : List ℕ) → (length value == 0) ≡ true → value ≡ []
no_bytes [] h = refl
no_bytes (b ∷ value) h = absurd (grind (arith, common_steps))

-- four bytes are those of a number
four_bytes : (value : List ℕ) → AreBytes value → (length value == 4) ≡ true → value ≡ u32_bytes (u32_at value)
four_bytes value bytes h =
    let four : length value ≡ 4 = grind (arith, common_steps) in
    let none : drop 4 value ≡ [] = drop_all 4 value (omega arith) in
    sym (bytes-u32_at value bytes (omega arith)) ∙ rw none (append-nil (u32_bytes (u32_at value)))

body_by : (kind flags : ℕ) (value : List ℕ) → IsType kind → AreBytes value → kind < 256 → flags < 256 → has_layout kind value ≡ true → has_list kind value ≡ true
    → IsBody kind flags value (body_at kind flags value)
unfolding body_at
body_by kind flags value (is_data e) bytes small low h l =
    let long : 12 ≤ length value = leb-true 12 (length value) (rw e at h) in
    rw e (record { kind = refl; flags = (flags / 16, flags_split flags value); value = sym (value-data_at flags value bytes long); fields = IsDataPiece-data_at flags value bytes })
body_by kind flags value (is_init e) bytes small low h l =
    let long : 16 ≤ length value = leb-true 16 (length value) (rw e at h) in
    rw e (record { kind = refl; flags = tt; value = sym (value_offered value bytes long); fields = offer_in_range value bytes (rw e at l) })
body_by kind flags value (is_init_ack e) bytes small low h l =
    let long : 16 ≤ length value = leb-true 16 (length value) (rw e at h) in
    rw e (record { kind = refl; flags = tt; value = sym (value_offered value bytes long); fields = offer_in_range value bytes (rw e at l) })
body_by kind flags value (is_sack e) bytes small low h l =
    let counts = has_counts value (rw e at h) in
    rw e (record { kind = refl; flags = tt; value = sym (value-sack_at value bytes counts); fields = IsSack-sack_at value bytes })
body_by kind flags value (is_heartbeat e) bytes small low h l = rw e (record { kind = refl; flags = tt; value = refl; fields = tt })
body_by kind flags value (is_heartbeat_ack e) bytes small low h l = rw e (record { kind = refl; flags = tt; value = refl; fields = tt })
body_by kind flags value (is_abort e) bytes small low h l =
    let listed = rw e at l in rw e (record { kind = refl; flags = (flags / 2, reflected_split flags); value = refl; fields = listed })
body_by kind flags value (is_shutdown e) bytes small low h l =
    let four = rw e at h in rw e (record { kind = refl; flags = tt; value = four_bytes value bytes four; fields = u32_at-lt value bytes })
body_by kind flags value (is_shutdown_ack e) bytes small low h l =
    let none = rw e at h in rw e (record { kind = refl; flags = tt; value = no_bytes value none; fields = tt })
body_by kind flags value (is_error e) bytes small low h l =
    let listed = rw e at l in rw e (record { kind = refl; flags = tt; value = refl; fields = listed })
body_by kind flags value (is_cookie_echo e) bytes small low h l = rw e (record { kind = refl; flags = tt; value = refl; fields = tt })
body_by kind flags value (is_cookie_ack e) bytes small low h l =
    let none = rw e at h in rw e (record { kind = refl; flags = tt; value = no_bytes value none; fields = tt })
body_by kind flags value (is_shutdown_complete e) bytes small low h l =
    let none = rw e at h in rw e (record { kind = refl; flags = (flags / 2, reflected_split flags); value = no_bytes value none; fields = tt })
body_by kind flags value (is_i_data e) bytes small low h l =
    let long : 16 ≤ length value = leb-true 16 (length value) (rw e at h) in
    rw e (record { kind = refl; flags = (flags / 16, i_flags_split flags value); value = (_, sym (laid-i_data_at flags value bytes long)); fields = IsIDataPiece-i_data_at flags value bytes })
body_by kind flags value (is_forward_tsn e) bytes small low h l =
    let has = has_entries Narrow value (rw e at h) in
    rw e (record { kind = refl; flags = tt; value = reads-forward_at Narrow value bytes has; fields = IsForward-forward_at Narrow value bytes })
body_by kind flags value (is_i_forward_tsn e) bytes small low h l =
    let has = has_entries Wide value (rw e at h) in
    rw e (record { kind = refl; flags = tt; value = reads-forward_at Wide value bytes has; fields = IsForward-forward_at Wide value bytes })
body_by kind flags value (is_other other) bytes small low h l =
    rw (unlike kind 0 other refl, unlike kind 1 other refl, unlike kind 2 other refl, unlike kind 3 other refl, unlike kind 4 other refl, unlike kind 5 other refl, unlike kind 6 other refl, unlike kind 7 other refl, unlike kind 8 other refl, unlike kind 9 other refl, unlike kind 10 other refl, unlike kind 11 other refl, unlike kind 14 other refl, unlike kind 64 other refl, unlike kind 192 other refl, unlike kind 194 other refl) (record { kind = refl; flags = refl; value = refl; fields = record { kind = small; other = other; flags = low } })

-- a value of its type's layout is that of the chunk that it reads as
pub body_of : (kind flags : ℕ) (value : List ℕ) → AreBytes value → kind < 256 → flags < 256 → has_layout kind value ≡ true → has_list kind value ≡ true
    → IsBody kind flags value (body_at kind flags value)
body_of kind flags value bytes small low h l = body_by kind flags value (type_of kind) bytes small low h l
