use Rattle.std.proofs.Common.{◌≡◌, ◌++◌, arith}
use Rattle.std.proofs.lemmas.Grind.{common_steps}
use Rattle.sctp_model.specs.wire.Typed.{filled, typed_bytes}
use Rattle.sctp_model.specs.wire.Reconfig.{reset_item}
use Rattle.sctp_model.proofs.TypedWriting.{writes_more}
use Rattle.sctp_reconfig.specs.Meanings.{own_meaning}
use Rattle.sctp_reconfig.proofs.WritingLemmas.{reset_fits}
use Rattle.sctp_reconfig.proofs.write.put_reset.Goals as goal

pub returns-clause-writes : goal.returns-clause-writes
returns-clause-writes c =
    let request = own_meaning c.args.request.now in
    let item = reset_item c.args.answered request in
    let whole : c.append_u16s.new.out.items ≡ filled c.args.out.now.items ++ typed_bytes item = grind (arith, common_steps) in
    λ items w. rw whole (writes_more c.args.out.now.items items item (reset_fits c.args.answered request c.requires) w)
