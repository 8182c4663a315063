use Rattle.std.proofs.Common.{◌≡◌, ◌+◌, false, length, nat_le, sym, arith}
use Rattle.std.proofs.lemmas.Grind.{common_steps}
use Rattle.sctp_model.specs.wire.Chunk.{padded}
use Rattle.sctp_model.specs.end.Reports.{item}
use Rattle.sctp_opening.proofs.FittingLemmas.{stays_out}
use Rattle.sctp_opening.proofs.lists.put_within.Goals as goal

pub returns-then-not-has_room-clause-bytes : goal.returns-then-not-has_room-clause-bytes
returns-then-not-has_room-clause-bytes c =
    let a = c.args in
    let large : nat_le (padded (length a.list.now.items) + 4 + length a.value.now) a.most ≡ false = grind (arith, common_steps) in
    sym (stays_out a.most a.list.now.items (item a.kind a.value.now) large)
