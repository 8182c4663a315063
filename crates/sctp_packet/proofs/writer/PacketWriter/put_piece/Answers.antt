use Rattle.std.proofs.Common.{arith}
use Rattle.sctp_wire.specs.ChunkTree.{piece_meaning}
use Rattle.sctp_packet.specs.Draft.{piece_chunk}
use Rattle.sctp_packet.proofs.DraftLemmas.{IsReadBack}
use Rattle.sctp_packet.proofs.PutLemmas.{put_room, put_kept, put_last}
use Rattle.sctp_packet.proofs.writer.PacketWriter.put_piece.Goals as goal

read_back : (c : goal.After-put_piece) → IsReadBack
read_back c = λ bytes ms writes. c.chunks_are_read.ensures bytes ms (c.written_each_reads.ensures bytes ms writes)

pub put_piece-requires-clause-room : goal.put_piece-requires-clause-room
put_piece-requires-clause-room c =
    omega (arith, put_room _ _ _ _ _ _ _ c.args.self.now (piece_chunk c.args.interleaved (piece_meaning c.args.piece.now)) c.self.view_is c.self.invariant c.requires.reserved c.requires.room)

pub invariant_of-self : goal.invariant_of-self
invariant_of-self c =
    put_kept _ _ _ _ _ _ _ c.args.self.now (piece_chunk c.args.interleaved (piece_meaning c.args.piece.now)) c.self.view_is c.self.invariant c.requires.reserved c.requires.room _ _ (read_back c) c.requires.fits c.put_piece.ensures.put c.put_piece.ensures.capacity

pub returns : goal.returns
returns c =
    put_last _ _ _ _ _ _ _ c.args.self.now (piece_chunk c.args.interleaved (piece_meaning c.args.piece.now)) c.self.view_is c.self.invariant c.requires.reserved c.requires.room _ (read_back c) c.requires.fits c.put_piece.ensures.put
