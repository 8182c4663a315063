use Rattle.std.proofs.Common.{◌≡◌, ◌++◌, arith}
use Rattle.std.proofs.lemmas.Grind.{common_steps}
use Rattle.sctp_model.specs.wire.Typed.{Typed, filled, typed_bytes}
use Rattle.sctp_model.proofs.TypedWriting.{reads_more, writes_more}
use Rattle.sctp_wire.proofs.PutLemmas.{filled_then}
use Rattle.sctp_wire.proofs.items.put_parameter.Goals as goal

pub returns-clause-reads : goal.returns-clause-reads
returns-clause-reads c =
    let item : Typed = record { kind = c.args.kind; value = c.args.value.now } in
    let whole : c.append.new.out.items ≡ filled c.args.list.now.items ++ typed_bytes item =
    rw (c.append.ensures.items, c.append_u16-2.ensures.items, c.append_u16.ensures.items, c.append_zeros.ensures.items, c.reserve.ensures.items)
    (filled_then c.args.list.now.items item _ (grind (arith, common_steps))) in
    λ items reads. rw whole (reads_more c.args.list.now.items items item c.requires reads)

pub returns-clause-writes : goal.returns-clause-writes
returns-clause-writes c =
    let item : Typed = record { kind = c.args.kind; value = c.args.value.now } in
    let whole : c.append.new.out.items ≡ filled c.args.list.now.items ++ typed_bytes item =
    rw (c.append.ensures.items, c.append_u16-2.ensures.items, c.append_u16.ensures.items, c.append_zeros.ensures.items, c.reserve.ensures.items)
    (filled_then c.args.list.now.items item _ (grind (arith, common_steps))) in
    λ items writes. rw whole (writes_more c.args.list.now.items items item c.requires writes)
