use Rattle.std.proofs.Common.{ℕ, List, ◌++◌, ap, append_assoc}
use Rattle.sctp_wire.specs.ChunkTree.{sack_meaning}
use Rattle.sctp_wire.proofs.AtOnceLemmas.{sack_whole}
use Rattle.sctp_wire.proofs.chunks.sack.write_sack.Goals as goal

pub returns-clause-written : goal.returns-clause-written
returns-clause-written c =
    rw (c.append_list-2.ensures.items, c.append_list.ensures.items, c.append.ensures.items, c.make_room.ensures.items, c.bytes.ensures.bytes, c.bytes-2.ensures.bytes, c.sack_head.ensures, append_assoc, append_assoc)
    (ap (λ (xs : List ℕ). c.args.out.now.items ++ xs) (sack_whole (sack_meaning c.args.sack.now)))
