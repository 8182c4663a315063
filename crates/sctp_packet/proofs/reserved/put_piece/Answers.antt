use Rattle.std.proofs.Common.{◌≡◌, ◌+◌, ◌≤◌, true, Ok, Err, sym, ap, ◌∙◌, arith}
use Rattle.std.specs.Prelude.{Result, IsOk, is_ok, is_err, vec_len, vec_capacity}
use Rattle.std.proofs.lemmas.Bool.{false≢true}
use Rattle.sctp_model.specs.wire.Chunk.{size_of_chunk}
use Rattle.sctp_wire.specs.ChunkTree.{piece_meaning}
use Rattle.sctp_wire.proofs.WriteLemmas.{length-written}
use Rattle.sctp_packet.specs.Draft.{piece_chunk}
use Rattle.sctp_packet.proofs.reserved.put_piece.Goals as goal
use Rattle.sctp_packet.proofs.reserved.put_piece.Goals.{then-interleaved, else-interleaved}

never_both : {A E : Type 0} (r : Result A E) → true ≡ is_err r → IsOk r → ⊥
never_both (Ok x) refused ok = false≢true (sym refused)
never_both (Err why) refused ok = false≢true ok

pub unreachable-requires : goal.unreachable-requires
unreachable-requires c =
    let m = piece_chunk c.args.interleaved (piece_meaning c.args.piece.now) in
    let room : vec_len c.args.bytes.now + size_of_chunk m ≤ vec_capacity c.args.bytes.now = omega (arith, length-written m, c.requires.room) in
    never_both c.if-interleaved.put c.if-is_err.ensures.value
    (elim c.if-interleaved.branch [
      | then-interleaved w ↦ ap is_ok w.put-is ∙ w.write_i_data-put.ensures.memory (rw w.if-interleaved.true at room)
      | else-interleaved w ↦ ap is_ok w.put-is ∙ w.write_data-put.ensures.memory (rw w.if-interleaved.false at room)
    ])
