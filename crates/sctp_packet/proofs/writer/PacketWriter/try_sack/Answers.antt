use Rattle.std.proofs.Common.{sym, arith}
use Rattle.std.proofs.lemmas.Result.{err_from_is_err_and}
use Rattle.sctp_wire.specs.Layouts.{Fits}
use Rattle.sctp_packet.specs.PlainSack.{plain_sack}
use Rattle.sctp_packet.proofs.DraftLemmas.{IsReadBack}
use Rattle.sctp_packet.proofs.PutLemmas.{is_within, is_past, try_room, try_kept, try_last}
use Rattle.sctp_packet.proofs.writer.PacketWriter.try_sack.Goals as goal
use Rattle.sctp_packet.proofs.writer.PacketWriter.try_sack.Goals.{In_ok-put_sack}

pub returns-then-room-lt-SACK_HEADER-clause-answer : goal.returns-then-room-lt-SACK_HEADER-clause-answer
returns-then-room-lt-SACK_HEADER-clause-answer c =
    is_past c.args.self.now (plain_sack c.args.cumulative c.args.rwnd) (omega (arith, c.if-room-lt-SACK_HEADER.true, c.room.ensures.room))

pub put_sack-requires : goal.put_sack-requires
put_sack-requires c =
    let m = plain_sack c.args.cumulative c.args.rwnd in
    record { within = try_room _ _ _ _ _ _ _ c.args.self.now m c.self.view_is c.self.invariant (omega (arith, c.if-room-lt-SACK_HEADER.false, c.room.ensures.room)) }

pub returns-in_err-put_sack-clause-refused : goal.returns-in_err-put_sack-clause-refused
returns-in_err-put_sack-clause-refused c =
    let p = err_from_is_err_and c.from_residual.result c.from_residual.ensures.1 in
    let m = plain_sack c.args.cumulative c.args.rwnd in
    rw p.1 (sym (is_within c.args.self.now m (omega (arith, c.if-room-lt-SACK_HEADER.false, c.room.ensures.room))))

fits : (c : In_ok-put_sack) → Fits (plain_sack c.args.cumulative c.args.rwnd)
fits c = record { fields = record { cumulative = c.ranges.cumulative.fits; rwnd = c.ranges.rwnd.fits; blocks = tt; duplicates = tt }; length = omega arith; plain = tt }

read_back : (c : In_ok-put_sack) → IsReadBack
read_back c = λ bytes ms writes. c.chunks_are_read.ensures bytes ms (c.written_each_reads.ensures bytes ms writes)

pub invariant_of-self-2 : goal.invariant_of-self-2
invariant_of-self-2 c =
    let m = plain_sack c.args.cumulative c.args.rwnd in
    try_kept _ _ _ _ _ _ _ c.args.self.now m c.self.view_is c.self.invariant (omega (arith, c.if-room-lt-SACK_HEADER.false, c.room.ensures.room)) _ _ (read_back c) (fits c) c.in_ok-put_sack.ensures.put c.in_ok-put_sack.ensures.whole c.put_sack.ensures.capacity

pub returns-clause-answer : goal.returns-clause-answer
returns-clause-answer c =
    is_within c.args.self.now (plain_sack c.args.cumulative c.args.rwnd) (omega (arith, c.if-room-lt-SACK_HEADER.false, c.room.ensures.room))

pub returns-clause-after : goal.returns-clause-after
returns-clause-after c =
    let m = plain_sack c.args.cumulative c.args.rwnd in
    try_last _ _ _ _ _ _ _ c.args.self.now m c.self.view_is c.self.invariant (omega (arith, c.if-room-lt-SACK_HEADER.false, c.room.ensures.room)) _ (read_back c) (fits c) c.in_ok-put_sack.ensures.put
