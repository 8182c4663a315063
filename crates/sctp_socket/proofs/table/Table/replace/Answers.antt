use Rattle.std.proofs.Common.{refl, rules}
use Rattle.sctp_socket.proofs.table.Table.replace.Goals as goal

pub returns-in-Some : goal.returns-in-Some
returns-in-Some g c = λ e is. (c.args.entry, refl, record { entry = (c.get_mut.follows.holds c.args.entry).3 (search rules); next = refl; tags = refl })
