use Rattle.sctp_association.proofs.BuildLemmas.{answered}
use Rattle.sctp_association.proofs.ReportLemmas.{on_err}
use Rattle.sctp_association.proofs.machine.Machine.build_asked.Goals as goal

pub returns-in_err-filled-clause-memory : goal.returns-in_err-filled-clause-memory
returns-in_err-filled-clause-memory c = λ v stands. on_err _ _ (c.in_err-filled.ensures.memory v (c.packing-packing.ensures.keeps v (c.keep_forward.ensures v stands)))

pub returns-clause-built : goal.returns-clause-built
returns-clause-built c = λ v stands off.
    let n = c.args.moment in
    let kept = c.keep_forward.ensures v stands in
    let packed = c.in_ok-filled.ensures.packed v (c.packing-packing.ensures.keeps v kept) off (c.packing-packing.ensures.empty v n kept) in
    answered (record v { moment = n }) packed.0 packed.1 c.sent.result c.sent.new.self c.pack.new.packing c.in_ok-filled.filled packed.2
    c.sent.ensures.packet c.sent.ensures.size c.sent.ensures.within c.sent.ensures.tickets c.sent.ensures.sendings (c.sent.ensures.stands (record v { sender = packed.0; pace = packed.1 }) packed.3)
