-- What the types of this crate say: a chunk without where it lies in memory.
use Rattle.std.specs.Prelude.{◌≡◌, true}
use Rattle.sctp_model.specs.wire.Chunk.{PieceMeaning, BlockMeaning, SackMeaning, InitMeaning, SkipMeaning, ForwardMeaning, ChunkMeaning, Data, IData, Init, InitAck, Sack, Heartbeat, HeartbeatAck, Abort, Shutdown, ShutdownAck, Error, CookieEcho, CookieAck, ShutdownComplete, ForwardTsn, IForwardTsn, Unknown}
use Rattle.sctp_wire.specs.declared.lists.GapBlock.{GapBlock}
use Rattle.sctp_wire.specs.declared.skips.Skip.{Skip}
use Rattle.sctp_wire.specs.declared.chunks.piece.Piece.{Piece}
use Rattle.sctp_wire.specs.declared.chunks.init.Init.{Init as InitFields}
use Rattle.sctp_wire.specs.declared.chunks.sack.Sack.{Sack as SackFields}
use Rattle.sctp_wire.specs.declared.chunks.forward.Forward.{Forward as ForwardFields}
use Rattle.sctp_wire.specs.declared.chunk.Chunk.{Chunk}
use Rattle.sctp_wire.specs.declared.chunk.Chunk.TheVariants as chunk

-- a gap block
abbrev pub block_meaning : GapBlock → BlockMeaning
block_meaning b = record { start = b.start; end = b.end }

-- an entry of a FORWARD
abbrev pub skip_meaning : Skip → SkipMeaning
skip_meaning s = record { stream = s.stream; unordered = s.unordered; number = s.number }

-- a piece, with its data
abbrev pub piece_meaning : Piece → PieceMeaning
piece_meaning p = record {
  immediate = p.immediate;
  unordered = p.unordered;
  begin = p.begin;
  end = p.end;
  tsn = p.tsn;
  stream = p.stream;
  number = p.number;
  word = p.word;
  bytes = p.bytes.now;
}

-- an INIT or INIT ACK, with the bytes of its parameters
abbrev pub init_meaning : InitFields → InitMeaning
init_meaning i =
    record { tag = i.tag; rwnd = i.rwnd; outbound = i.outbound; inbound = i.inbound; tsn = i.tsn; parameters = i.parameters }

-- a SACK, with its lists
abbrev pub sack_meaning : SackFields → SackMeaning
sack_meaning s =
    record { cumulative = s.cumulative; rwnd = s.rwnd; blocks = s.blocks; duplicates = s.duplicates }

-- a FORWARD, with its entries
abbrev pub forward_meaning : ForwardFields → ForwardMeaning
forward_meaning f = record { cumulative = f.cumulative; skips = f.skips.skips }

-- a chunk
abbrev pub chunk_meaning : Chunk → ChunkMeaning
chunk_meaning (chunk.Data p) = Data (piece_meaning p)
chunk_meaning (chunk.Init i) = Init (init_meaning i)
chunk_meaning (chunk.InitAck i) = InitAck (init_meaning i)
chunk_meaning (chunk.Sack s) = Sack (sack_meaning s)
chunk_meaning (chunk.Heartbeat info) = Heartbeat info.now
chunk_meaning (chunk.HeartbeatAck info) = HeartbeatAck info.now
chunk_meaning (chunk.Abort reflected causes) = Abort reflected causes
chunk_meaning (chunk.Shutdown cumulative) = Shutdown cumulative
chunk_meaning chunk.ShutdownAck = ShutdownAck
chunk_meaning (chunk.Error causes) = Error causes
chunk_meaning (chunk.CookieEcho cookie) = CookieEcho cookie.now
chunk_meaning chunk.CookieAck = CookieAck
chunk_meaning (chunk.ShutdownComplete reflected) = ShutdownComplete reflected
chunk_meaning (chunk.IData p) = IData (piece_meaning p)
chunk_meaning (chunk.ForwardTsn f) = ForwardTsn (forward_meaning f)
chunk_meaning (chunk.IForwardTsn f) = IForwardTsn (forward_meaning f)
chunk_meaning (chunk.Unknown kind flags value) = Unknown kind flags value.now

-- the reserved bits of a FORWARD's entries are zero, where they were read from bytes that have some
abbrev pub HasZeroReserved : Chunk → Type 0
HasZeroReserved (chunk.ForwardTsn f) = f.skips.plain ≡ true
HasZeroReserved (chunk.IForwardTsn f) = f.skips.plain ≡ true
HasZeroReserved c = Unit {0}
