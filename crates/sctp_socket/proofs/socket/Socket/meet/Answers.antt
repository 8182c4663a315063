use Rattle.std.proofs.Common.{◌≡◌, ℕ, Bool, refl, sym, ap, subst, ◌∙◌}
use Rattle.sctp_cookie.specs.CookieTree.{content_meaning}
use Rattle.sctp_socket.specs.Meeting.{meets as meets_by}
use Rattle.sctp_socket.specs.declared.meeting.Meeting.TheVariants.{Ignored, Begins, CallsAgain}
use Rattle.sctp_socket.specs.Routing.{Place}
use Rattle.sctp_socket.specs.SocketStands.{IsSlot, SocketStands}
use Rattle.sctp_socket.specs.SocketView.{is_taken, slot_called}
use Rattle.sctp_socket.proofs.SocketLemmas.{taken_in}
use Rattle.sctp_socket.proofs.socket.Socket.meet.Goals as goal

pub returns-in-Ignored : goal.returns-in-Ignored
unfolding SocketStands
returns-in-Ignored g c = λ v s p stands reads under is.
    let a = c.args in
    let b = content_meaning a.content.now in
    let served = taken_in g.E.SocketEnd.Stands a.self.now.table v b.listener.tag b.listener.tag a.found a.found c.serves_another-served.result stands.table refl refl c.serves_another-served.ensures in
    let met : meets_by a.place.now.standing a.place.now.bar (is_taken v b.listener.tag a.found) b ≡ Ignored =
    ap (λ (x : Bool). meets_by a.place.now.standing a.place.now.bar x b) (sym served) ∙ sym c.meets.ensures ∙ c.in-Ignored.is in
    rw met (v, (refl, refl), stands)

pub returns-in-Begins : goal.returns-in-Begins
unfolding SocketStands
returns-in-Begins g c = λ v s p stands reads under is.
    let a = c.args in
    let b = content_meaning a.content.now in
    let served = taken_in g.E.SocketEnd.Stands a.self.now.table v b.listener.tag b.listener.tag a.found a.found c.serves_another-served.result stands.table refl refl c.serves_another-served.ensures in
    let met : meets_by a.place.now.standing a.place.now.bar (is_taken v b.listener.tag a.found) b ≡ Begins =
    ap (λ (x : Bool). meets_by a.place.now.standing a.place.now.bar x b) (sym served) ∙ sym c.meets.ensures ∙ c.in-Begins.is in
    rw met (c.begin.ensures v s p stands reads under is)

pub returns-in-CallsAgain : goal.returns-in-CallsAgain
unfolding SocketStands
returns-in-CallsAgain g c = λ v s p stands reads under is.
    let a = c.args in
    let b = content_meaning a.content.now in
    let served = taken_in g.E.SocketEnd.Stands a.self.now.table v b.listener.tag b.listener.tag a.found a.found c.serves_another-served.result stands.table refl refl c.serves_another-served.ensures in
    let met : meets_by a.place.now.standing a.place.now.bar (is_taken v b.listener.tag a.found) b ≡ CallsAgain =
    ap (λ (x : Bool). meets_by a.place.now.standing a.place.now.bar x b) (sym served) ∙ sym c.meets.ensures ∙ c.in-CallsAgain.is in
    let slot : IsSlot g.E.SocketEnd.Stands c.calling_entry-entry.result (slot_called v.configuration a.from.now v.moment a.place.now.draw) =
    subst (λ (now : ℕ). IsSlot g.E.SocketEnd.Stands c.calling_entry-entry.result (slot_called v.configuration a.from.now now a.place.now.draw)) stands.moment
    (c.calling_entry-entry.ensures v.configuration (ap (λ (l : Place). l.configuration) is)) in
    rw met (c.settle.ensures v (slot_called v.configuration a.from.now v.moment a.place.now.draw) stands slot (ap (λ (l : Place). l.standing) is))
