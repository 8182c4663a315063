use Rattle.std.proofs.Common.{◌≡◌, ◌++◌, arith}
use Rattle.std.proofs.lemmas.Grind.{common_steps}
use Rattle.sctp_model.specs.wire.Typed.{filled, typed_bytes}
use Rattle.sctp_model.specs.wire.Reconfig.{response_item}
use Rattle.sctp_model.proofs.TypedWriting.{writes_more}
use Rattle.sctp_reconfig.specs.Meanings.{result_meaning}
use Rattle.sctp_reconfig.proofs.WritingLemmas.{response_fits}
use Rattle.sctp_reconfig.proofs.write.put_response.Goals as goal

pub returns-clause-writes : goal.returns-clause-writes
returns-clause-writes c =
    let item = response_item c.args.number (result_meaning c.args.answer) in
    let whole : c.append_u32-2.new.out.items ≡ filled c.args.out.now.items ++ typed_bytes item = grind (arith, common_steps) in
    λ items w. rw whole (writes_more c.args.out.now.items items item (response_fits c.args.number (result_meaning c.args.answer)) w)
