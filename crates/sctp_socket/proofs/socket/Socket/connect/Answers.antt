use Rattle.std.proofs.Common.{◌≡◌, ◌==◌, ℕ, false, Option, None, refl, sym, ap, subst, ◌∙◌, rules}
use Rattle.sctp_model.specs.end.EndView.{Configuration}
use Rattle.sctp_socket.specs.Connecting.{is_with}
use Rattle.sctp_socket.specs.SocketStands.{IsSocket, SocketStands}
use Rattle.sctp_socket.specs.SocketView.{at_time, begun_with, is_taken, slot_at, slot_called, standing_of, with_port}
use Rattle.sctp_socket.proofs.ConnectLemmas.{no_fault}
use Rattle.sctp_socket.proofs.SocketLemmas.{begun_timed, taken_in}
use Rattle.sctp_socket.proofs.socket.Socket.connect.Goals as goal

pub returns-in-Ok-enter-clause-answer : goal.returns-in-Ok-enter-clause-answer
unfolding SocketStands
returns-in-Ok-enter-clause-answer g c = λ v stands.
    let a = c.args in
    let port : (a.peer.port == 0) ≡ false = search rules in
    let apart : is_with (standing_of (slot_at v (v.latest a.peer))) ≡ false =
    sym (c.is_with.ensures ∙ ap is_with (c.standing_at.ensures v stands ∙ ap (λ (o : Option ℕ). standing_of (slot_at v o)) (c.number_with.ensures ∙ stands.latest a.peer)))
    ∙ c.if-is_with.false in
    let full : (a.self.now.room == 0) ≡ false = search rules in
    let room : (v.room == 0) ≡ false = subst (λ (n : ℕ). (n == 0) ≡ false) stands.room full in
    let free : is_taken v a.draw.tag None ≡ false =
    sym (taken_in g.E.SocketEnd.Stands a.self.now.table v c.tag.result a.draw.tag None None c.serves_another.result stands.table c.tag.ensures.exact refl c.serves_another.ensures)
    ∙ c.if-serves_another.false in
    let config = c.in-Ok.ensures.exact.0 ∙ ap (λ (n : ℕ). with_port a.self.now.config n) c.port-2.ensures ∙ ap (λ (k : Configuration). with_port k a.peer.port) stands.configuration in
    let slot = c.calling_entry-entry.ensures v.configuration config in
    (no_fault v a.peer a.draw port apart room free, (c.in-Ok-enter.ensures.step v (slot_called v.configuration a.peer c.later-moment.result a.draw) stands slot).0)

pub returns-in-Ok-enter-clause-step : goal.returns-in-Ok-enter-clause-step
unfolding SocketStands
returns-in-Ok-enter-clause-step g c = λ v stands.
    let a = c.args in
    let later = c.later-moment.ensures v stands in
    let config = c.in-Ok.ensures.exact.0 ∙ ap (λ (n : ℕ). with_port a.self.now.config n) c.port-2.ensures ∙ ap (λ (k : Configuration). with_port k a.peer.port) stands.configuration in
    let slot = c.calling_entry-entry.ensures v.configuration config in
    let x = slot_called v.configuration a.peer c.later-moment.result a.draw in
    let entered = (c.in-Ok-enter.ensures.step v x stands slot).1 in
    let s = c.enter.new.self in
    let timed = begun_timed g.E.SocketEnd.Stands s v x a.now c.later-moment.result later entered in
    subst (λ (m : ℕ). IsSocket g.E.SocketEnd.Stands (record s { moment = c.later-moment.result }) (begun_with (slot_called v.configuration a.peer m a.draw) (at_time v a.now))) later timed
