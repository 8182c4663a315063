use Rattle.std.proofs.Common.{◌≡◌, Some, refl, rules, subst}
use Rattle.sctp_socket.specs.Table.{Replaced, entry_of}
use Rattle.sctp_socket.specs.declared.table.Entry.{Entry}
use Rattle.sctp_socket.specs.declared.table.Table.{Table}
use Rattle.sctp_socket.proofs.table.Table.end_hears.Goals as goal

pub returns-in-Some-clause-step : goal.returns-in-Some-clause-step
returns-in-Some-clause-step g c =
    let a = c.args in
    let e = c.in-Some.entry.now in
    let is : entry_of a.self.now a.number ≡ Some e = search rules in
    let f = c.hear.new.self in
    let u : Table g.row.E.Denot = record { entries = record { values = c.get_mut.follows.lender f; next = a.self.now.entries.next }; tags = a.self.now.tags } in
    let there : Replaced a.self.now a.number f u = record { entry = (c.get_mut.follows.holds f).3 (search rules); next = refl; tags = refl } in
    (e, f.end, is, c.hear.ensures.step, subst (λ (w : Entry g.row.E.Denot). Replaced a.self.now a.number w u) c.hear.ensures.others there)
