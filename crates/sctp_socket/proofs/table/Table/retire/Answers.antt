use Rattle.std.proofs.Common.{◌≡◌, false, refl, rules}
use Rattle.sctp_socket.proofs.table.Table.retire.Goals as goal

pub returns-in-Some-clause-step : goal.returns-in-Some-clause-step
returns-in-Some-clause-step g c = λ e is.
    let same : c.in-Some.entry.now ≡ e = search rules in
    let w = record e { current = false } in
    rw same (w, refl, record { entry = (c.get_mut.follows.holds w).3 (search rules); next = refl; tags = refl })
