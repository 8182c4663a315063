use Rattle.std.proofs.Common.{◌≡◌, false, Some, IsSome, refl, sym, ◌∙◌, subst}
use Rattle.sctp_socket.specs.SocketStands.{SocketStands}
use Rattle.sctp_socket.specs.SocketView.{succeeded_by, is_taken}
use Rattle.sctp_socket.specs.Table.{entry_of, serves_another}
use Rattle.sctp_socket.proofs.HeardLemmas.{socket_same, socket_succeeded, some_both}
use Rattle.sctp_socket.proofs.SocketLemmas.{taken_in}
use Rattle.sctp_socket.proofs.socket.Socket.settle_there.Goals as goal

pub returns-in-Err : goal.returns-in-Err
unfolding SocketStands
returns-in-Err g c = λ v x stands e some free. (v, refl, socket_same g.E.SocketEnd.Stands c.args.self.now c.succeed.new.self v c.in-Err.ensures.refused stands)

pub returns-in-Ok : goal.returns-in-Ok
unfolding SocketStands
returns-in-Ok g c = λ v x stands e some free.
    let s = c.args.self.now in
    let n = c.args.number in
    let apart : serves_another s.table c.args.entry.own (Some n) ≡ false =
    taken_in g.E.SocketEnd.Stands s.table v c.args.entry.own x.own (Some n) (Some n) (serves_another s.table c.args.entry.own (Some n)) stands.table e.own refl refl ∙ free in
    let there : IsSome (entry_of s.table n) = some_both g.E.SocketEnd.Stands (entry_of s.table n) (v.slots n) (stands.table.slots n) some in
    (succeeded_by n x v, (refl, refl, refl), socket_succeeded g.E.SocketEnd.Stands s c.succeed.new.self v n c.args.entry x (c.in-Ok.ensures.step apart there) stands e)
