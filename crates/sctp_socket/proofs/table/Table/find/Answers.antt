use Rattle.std.proofs.Common.{sym, ◌∙◌}
use Rattle.sctp_socket.proofs.TableLemmas.{only_for}
use Rattle.sctp_socket.proofs.table.Table.find.Goals as goal

pub returns-in-Some : goal.returns-in-Some
returns-in-Some g c =
    let a = c.args in
    only_for a.self.now a.tag c.in-Some.number a.from.now a.source c.admitted.result (sym c.number_of.ensures ∙ c.in-Some.is) c.admitted.ensures
