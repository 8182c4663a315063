use Rattle.std.proofs.Common.{◌≡◌, ap, subst}
use Rattle.sctp_model.specs.end.EndView.{EndView}
use Rattle.sctp_association.specs.MachineStands.{MachineStands}
use Rattle.sctp_association.specs.Drafted.{drafted}
use Rattle.sctp_association.specs.PlainPacket.{plain_marks}
use Rattle.sctp_association.specs.declared.state.due.Due.{Due}
use Rattle.sctp_association.specs.declared.machine.Machine.{Machine}
use Rattle.sctp_association.proofs.BuildLemmas.{answered}
use Rattle.sctp_association.proofs.PlainLemmas.{plain_empty, plain_at, still_plain}
use Rattle.sctp_association.proofs.ReportLemmas.{on_err}
use Rattle.sctp_association.proofs.machine.Machine.build_plain.Goals as goal

pub returns-in_err-plain-clause-memory : goal.returns-in_err-plain-clause-memory
returns-in_err-plain-clause-memory c = λ v stands. on_err _ _ (c.in_err-plain.ensures.memory v (c.empty_packet-writer.ensures.keeps v stands))

pub returns-clause-built : goal.returns-clause-built
unfolding MachineStands
returns-clause-built c = λ v t g stands phase plain calm.
    let e : EndView = record v { moment = c.args.moment } in
    let d = c.args.self.now.due in
    let before = c.empty_packet-writer.ensures.keeps v stands in
    let packed = c.in_ok-plain.ensures.packed v t g before phase (still_plain _ _ v.due c.empty_packet-writer.ensures.kept plain) calm
    (plain_empty v c.args.moment _ c.empty_packet-writer.result (c.empty_packet-writer.ensures.empty v stands) before.due) in
    let p = c.in_ok-plain.plain in
    let same : c.pack_plain.new.self.due ≡ c.empty_packet-writer.new.self.due = ap (λ (m : Machine). m.due) c.in_ok-plain.ensures.kept in
    let left = c.sent_plain.ensures.stands (record v { sender = packed.0; pace = packed.1 }) packed.3 in
    answered e packed.0 packed.1 c.sent_plain.result c.sent_plain.new.self (plain_at c.empty_packet-writer.new.self.due c.pack_plain.new.writer p.sack p.fragments) p.filled packed.2
    c.sent_plain.ensures.packet c.sent_plain.ensures.size c.sent_plain.ensures.within c.sent_plain.ensures.tickets c.sent_plain.ensures.sendings
    (subst (λ (n : Due). MachineStands c.sent_plain.new.self (record (drafted (plain_marks n p.sack p.fragments) e) { sender = packed.0; pace = packed.1 })) same left)
