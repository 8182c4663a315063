use Rattle.sctp_socket.specs.SocketStands.{SocketStands}
use Rattle.sctp_socket.proofs.HeardLemmas.{end_at_failed, end_at_heard, end_at_none}
use Rattle.std.proofs.Common.{◌≡◌, Some, None, Result, rules, subst}
use Rattle.sctp_values.specs.declared.no_memory.NoMemory.{NoMemory}
use Rattle.sctp_endpoint.specs.declared.after.Verdict.{Verdict}
use Rattle.sctp_socket.specs.Entries.{EndHeard}
use Rattle.sctp_socket.specs.Table.{entry_of}
use Rattle.sctp_socket.proofs.socket.Socket.end_at_hears.Goals as goal

pub returns-in-None : goal.returns-in-None
unfolding SocketStands
returns-in-None g c = λ v p stands reads.
    let s = c.args.self.now in
    let none : entry_of s.table c.args.number ≡ None = search rules in
    end_at_none g.E.SocketEnd.Stands s c.end_hears.new.self v c.args.number c.args.from.now c.args.draw p none (c.end_hears.ensures.none none).1 stands

pub returns-in-Some-Ok : goal.returns-in-Some-Ok
unfolding SocketStands
returns-in-Some-Ok g c = λ v p stands reads.
    let s = c.args.self.now in
    end_at_heard g.E.SocketEnd.Stands c.args.self.now c.end_hears.new.self v c.args.number c.args.from.now c.args.draw p c.args.bytes.now c.in-Some-Ok.verdict
    (subst (λ (r : Result Verdict NoMemory). EndHeard g.E.SocketEnd.Stands s.table c.args.number c.args.from.now s.moment c.args.bytes.now c.args.draw (Some r) c.end_hears.new.self) c.in-Some-Ok.field-0-is c.in-Some-Ok.ensures.step) reads stands

pub returns-in-Some-Err : goal.returns-in-Some-Err
unfolding SocketStands
returns-in-Some-Err g c = λ v p stands reads.
    let s = c.args.self.now in
    end_at_failed g.E.SocketEnd.Stands c.args.self.now c.end_hears.new.self v c.args.number c.args.from.now c.args.draw p c.args.bytes.now c.in-Some-Err.fault
    (subst (λ (r : Result Verdict NoMemory). EndHeard g.E.SocketEnd.Stands s.table c.args.number c.args.from.now s.moment c.args.bytes.now c.args.draw (Some r) c.end_hears.new.self) c.in-Some-Err.field-0-is c.in-Some-Err.ensures.step) reads stands
