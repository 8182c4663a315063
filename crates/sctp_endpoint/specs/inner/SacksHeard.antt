-- SACK chunks are counted one after the other, before the verdict on their packet is known.
use Rattle.std.specs.Prelude.{ℕ, if◌then◌else◌, List, [], ◌∷◌, Result, Ok, Err}
use Rattle.sctp_model.specs.wire.Chunk.{ChunkMeaning}
use Rattle.sctp_values.specs.declared.no_memory.NoMemory.{NoMemory}
use Rattle.sctp_endpoint.specs.Counted.{more, is_sack}
use Rattle.sctp_endpoint.specs.declared.after.Verdict.{Verdict}
use Rattle.sctp_endpoint.specs.declared.after.Verdict.TheVariants.{Taken, Dropped, Answer}

-- the count after this chunk
abbrev pub after_chunk : ChunkMeaning → ℕ → ℕ
after_chunk m n = if is_sack m then more n 1 else n

-- the count after these chunks
abbrev pub after_chunks : List ChunkMeaning → ℕ → ℕ
after_chunks [] n = n
after_chunks (m ∷ ms) n = after_chunks ms (after_chunk m n)

-- this of a packet that was handled
abbrev pub IfTaken : Result Verdict NoMemory → Type 0 → Type 0
IfTaken (Ok Taken) p = p
IfTaken (Ok (Dropped reason)) p = Unit {0}
IfTaken (Ok (Answer packet)) p = Unit {0}
IfTaken (Err why) p = Unit {0}
