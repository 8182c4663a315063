use Rattle.std.proofs.Common.{sym, arith}
use Rattle.std.proofs.lemmas.Result.{err_from_is_err_and}
use Rattle.sctp_wire.specs.ChunkTree.{chunk_meaning}
use Rattle.sctp_packet.proofs.DraftLemmas.{IsReadBack}
use Rattle.sctp_packet.proofs.PutLemmas.{is_within, is_past, try_room, try_kept, try_last}
use Rattle.sctp_packet.proofs.writer.PacketWriter.try_chunk.Goals as goal
use Rattle.sctp_packet.proofs.writer.PacketWriter.try_chunk.Goals.{After-put}

pub returns-then-size-room-clause-answer : goal.returns-then-size-room-clause-answer
returns-then-size-room-clause-answer c =
    is_past c.args.self.now (chunk_meaning c.args.chunk.now) (omega (arith, c.if-size-room.true, c.room.ensures.room, c.written_length-size.ensures.size))

pub begin-requires : goal.begin-requires
begin-requires c =
    let m = chunk_meaning c.args.chunk.now in
    let within = try_room _ _ _ _ _ _ _ c.args.self.now m c.self.view_is c.self.invariant (omega (arith, c.if-size-room.false, c.room.ensures.room, c.written_length-size.ensures.size)) in
    omega (arith, within, c.written_length-size.ensures.size)

pub returns-in_err-begin-clause-refused : goal.returns-in_err-begin-clause-refused
returns-in_err-begin-clause-refused c =
    let p = err_from_is_err_and c.from_residual.result c.from_residual.ensures.1 in
    rw p.1 (sym (is_within c.args.self.now (chunk_meaning c.args.chunk.now) (omega (arith, c.if-size-room.false, c.room.ensures.room, c.written_length-size.ensures.size))))

pub returns-in_err-begin-clause-early : goal.returns-in_err-begin-clause-early
returns-in_err-begin-clause-early c =
    let p = err_from_is_err_and c.from_residual.result c.from_residual.ensures.1 in
    rw (p.1, ← c.self.view_is) (grind (arith, c.in_err-begin.ensures.short, c.self.invariant.room))

pub put-requires-clause-room : goal.put-requires-clause-room
put-requires-clause-room c = omega (arith, c.in_ok-begin.ensures.room, c.written_length-size.ensures.written)

read_back : (c : After-put) → IsReadBack
read_back c = λ bytes ms writes. c.chunks_are_read.ensures bytes ms (c.written_each_reads.ensures bytes ms writes)

pub invariant_of-self-2 : goal.invariant_of-self-2
invariant_of-self-2 c =
    let m = chunk_meaning c.args.chunk.now in
    try_kept _ _ _ _ _ _ _ c.args.self.now m c.self.view_is c.self.invariant (omega (arith, c.if-size-room.false, c.room.ensures.room, c.written_length-size.ensures.size)) _ _ (read_back c) c.requires
    (rw c.in_ok-begin.ensures.begun at c.put.ensures.put) (λ some. omega (arith, c.in_ok-begin.ensures.whole some, c.put.ensures.capacity)) (omega (arith, c.in_ok-begin.ensures.capacity, c.put.ensures.capacity))

pub returns-clause-answer : goal.returns-clause-answer
returns-clause-answer c =
    is_within c.args.self.now (chunk_meaning c.args.chunk.now) (omega (arith, c.if-size-room.false, c.room.ensures.room, c.written_length-size.ensures.size))

pub returns-clause-after : goal.returns-clause-after
returns-clause-after c =
    let m = chunk_meaning c.args.chunk.now in
    try_last _ _ _ _ _ _ _ c.args.self.now m c.self.view_is c.self.invariant (omega (arith, c.if-size-room.false, c.room.ensures.room, c.written_length-size.ensures.size)) _ (read_back c) c.requires
    (rw c.in_ok-begin.ensures.begun at c.put.ensures.put)
