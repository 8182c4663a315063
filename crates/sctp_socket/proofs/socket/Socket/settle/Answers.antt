use Rattle.std.proofs.Common.{◌≡◌, true, false, None, Some, refl, sym, ap, ◌∙◌, rules}
use Rattle.sctp_socket.specs.Hearing.{succeeds}
use Rattle.sctp_socket.specs.SocketStands.{SocketStands}
use Rattle.sctp_socket.specs.SocketView.{is_taken}
use Rattle.sctp_socket.proofs.HeardLemmas.{call_there}
use Rattle.sctp_socket.proofs.SocketLemmas.{taken_in}
use Rattle.sctp_socket.proofs.socket.Socket.settle.Goals as goal

pub returns-then-serves_another : goal.returns-then-serves_another
unfolding SocketStands
returns-then-serves_another g c = λ v x stands e is.
    let a = c.args in
    let taken : c.serves_another.result ≡ is_taken v x.own (succeeds a.standing a.found) =
    taken_in g.E.SocketEnd.Stands a.self.now.table v a.entry.own x.own c.succeeds-there.result (succeeds a.standing a.found) c.serves_another.result stands.table e.own
    c.succeeds-there.ensures c.serves_another.ensures in
    let yes : is_taken v x.own (succeeds a.standing a.found) ≡ true = sym taken ∙ c.if-serves_another.true in
    rw yes (v, (refl, refl), stands)

pub returns-in-None : goal.returns-in-None
unfolding SocketStands
returns-in-None g c = λ v x stands e is.
    let a = c.args in
    let none : succeeds a.standing a.found ≡ None = sym c.succeeds-there.ensures ∙ c.in-None.is in
    let taken : c.serves_another.result ≡ is_taken v x.own None =
    taken_in g.E.SocketEnd.Stands a.self.now.table v a.entry.own x.own c.succeeds-there.result None c.serves_another.result stands.table e.own
    c.in-None.is c.serves_another.ensures in
    let no : is_taken v x.own None ≡ false = sym taken ∙ c.if-serves_another.false in
    rw (none, no) (c.settle_anew.ensures v x stands e)

pub returns-in-Some : goal.returns-in-Some
unfolding SocketStands
returns-in-Some g c = λ v x stands e is.
    let a = c.args in
    let n = c.in-Some.number in
    let some : succeeds a.standing a.found ≡ Some n = sym c.succeeds-there.ensures ∙ c.in-Some.is in
    let taken : c.serves_another.result ≡ is_taken v x.own (Some n) =
    taken_in g.E.SocketEnd.Stands a.self.now.table v a.entry.own x.own c.succeeds-there.result (Some n) c.serves_another.result stands.table e.own
    c.in-Some.is c.serves_another.ensures in
    let no : is_taken v x.own (Some n) ≡ false = sym taken ∙ c.if-serves_another.false in
    rw (some, no) (c.settle_there.ensures v x stands e (call_there v a.standing a.found n is some) no)
