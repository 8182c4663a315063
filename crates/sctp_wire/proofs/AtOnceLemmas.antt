-- What is written at once is the bytes of its chunk.
use Rattle.std.proofs.Common.{◌≡◌, ℕ, ◌+◌, List, ◌++◌, length, replicate, refl, arith}
use Rattle.std.specs.Prelude.{Result, Ok, Err, OnOk}
use Rattle.std.specs.List.{flat_map}
use Rattle.std.proofs.lemmas.List.{append-nil}
use Rattle.sctp_model.specs.wire.Chunk.{PieceMeaning, SackMeaning, Data, IData, Sack, padding_after, chunk_length}
use Rattle.sctp_model.specs.numbers.Numbers.{u16_bytes, u32_bytes}
use Rattle.sctp_wire.specs.Items.{block_bytes}
use Rattle.sctp_wire.specs.Writes.{written}
use Rattle.sctp_wire.specs.inner.AtOnce.{data_head, i_data_head, sack_head}

data_joined : (p : PieceMeaning) → data_head p ++ (p.bytes ++ replicate (padding_after (16 + length p.bytes)) 0) ≡ written (Data p)
unfolding u16_bytes u32_bytes
data_joined p = refl

i_data_joined : (p : PieceMeaning) → i_data_head p ++ (p.bytes ++ replicate (padding_after (20 + length p.bytes)) 0) ≡ written (IData p)
unfolding u16_bytes u32_bytes
i_data_joined p = refl

data_long : (p : PieceMeaning) → length (data_head p) ≡ 16
unfolding u16_bytes u32_bytes
data_long p = refl

i_data_long : (p : PieceMeaning) → length (i_data_head p) ≡ 20
unfolding u16_bytes u32_bytes
i_data_long p = refl

-- the head, the data, and their padding
pub data_whole : (p : PieceMeaning) (head : List ℕ) → head ≡ data_head p
    → head ++ (p.bytes ++ replicate (padding_after (length head + length p.bytes)) 0) ≡ written (Data p)
data_whole p head e = rw (e, data_long p) (data_joined p)

pub i_data_whole : (p : PieceMeaning) (head : List ℕ) → head ≡ i_data_head p
    → head ++ (p.bytes ++ replicate (padding_after (length head + length p.bytes)) 0) ≡ written (IData p)
i_data_whole p head e = rw (e, i_data_long p) (i_data_joined p)

no_padding : (s : SackMeaning) → padding_after (chunk_length (Sack s)) ≡ 0
no_padding s = omega arith

-- the head and the two lists
pub sack_whole : (s : SackMeaning) → sack_head s ++ (flat_map block_bytes s.blocks ++ flat_map u32_bytes s.duplicates) ≡ written (Sack s)
unfolding u16_bytes u32_bytes
sack_whole s = rw (no_padding s, append-nil (flat_map block_bytes s.blocks ++ flat_map u32_bytes s.duplicates)) refl

pub on_ok : {A E : Type 0} (r : Result A E) (P : Type 0) → P → OnOk r P
on_ok (Ok x) P p = p
on_ok (Err e) P p = tt
