use Rattle.std.specs.Prelude.{vec_capacity}
use Rattle.std.proofs.lemmas.Result.{err_from_is_err_and}
use Rattle.sctp_packet.specs.PacketBytes.{header_bytes}
use Rattle.sctp_packet.proofs.DraftLemmas.{early_whole}
use Rattle.sctp_packet.proofs.writer.PacketWriter.reserve.Goals as goal

pub returns-in_err-reserve_all-clause-early : goal.returns-in_err-reserve_all-clause-early
returns-in_err-reserve_all-clause-early c =
    let s = c.self.inside in
    let p = err_from_is_err_and c.from_residual.result c.from_residual.ensures.1 in
    rw (p.1, ← c.self.view_is) (early_whole s.limit (vec_capacity s.bytes) (header_bytes s.source s.destination s.tag 0) s.bytes.items c.self.invariant.draft c.self.invariant.room c.in_err-reserve_all.ensures.short)
