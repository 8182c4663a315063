use Rattle.std.proofs.Common.{◌≡◌, ◌==◌, ℕ, false, refl, subst, rules}
use Rattle.sctp_socket.specs.Hearing.{retired_in}
use Rattle.sctp_socket.specs.SocketStands.{SocketStands}
use Rattle.sctp_socket.specs.SocketView.{begun_with}
use Rattle.sctp_socket.proofs.socket.Socket.settle_anew.Goals as goal

pub returns-in-Ok : goal.returns-in-Ok
unfolding SocketStands
returns-in-Ok g c = λ v x stands e.
    let entered = c.in-Ok.ensures.step v x stands e in
    let full : (c.args.self.now.room == 0) ≡ false = search rules in
    let room : (v.room == 0) ≡ false = subst (λ (n : ℕ). (n == 0) ≡ false) stands.room full in
    (retired_in c.args.found (begun_with x v), (room, entered.0, refl, refl), c.retire.ensures (begun_with x v) entered.1)

pub returns-in-Err : goal.returns-in-Err
returns-in-Err g c = λ v x stands e. (v, refl, c.in-Err.ensures.refused v stands)
