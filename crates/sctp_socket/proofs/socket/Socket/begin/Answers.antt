use Rattle.std.proofs.Common.{◌≡◌, ℕ, refl, ap, subst, inl, inr}
use Rattle.sctp_model.specs.end.Arriving.{Receives}
use Rattle.sctp_model.specs.end.EndView.{Listener, Listening, fresh_end}
use Rattle.std.specs.Prelude.{Some}
use Rattle.sctp_cookie.specs.CookieTree.{content_meaning}
use Rattle.sctp_socket.specs.Hearing.{slot_begun}
use Rattle.sctp_socket.specs.Routing.{Place}
use Rattle.sctp_socket.specs.SocketStands.{SocketStands}
use Rattle.sctp_socket.proofs.socket.Socket.begin.Goals as goal

pub returns-in-Err : goal.returns-in-Err
returns-in-Err g c = λ v s p stands reads under is. (v, inr (c.in-Err.fault, refl, refl), stands)

pub returns-in-Ok : goal.returns-in-Ok
unfolding SocketStands
returns-in-Ok g c = λ v s p stands reads under is.
    let a = c.args in
    let l = fresh_end a.place.now.config (Listener s) Listening in
    let did = c.in-Ok.ensures.step l (Some p) (c.listener-end.ensures.stands s under) reads in
    let receives = subst (λ (now : ℕ). Receives l now a.place.now.draw (Some p) did.0 did.1) stands.moment did.2 in
    let settled = c.settle.ensures v (slot_begun a.from.now (content_meaning a.content.now) did.0) stands (record { peer = refl; own = refl; bar = refl; current = refl; end = did.4 }) (ap (λ (k : Place). k.standing) is) in
    (settled.0, inl (did.0, did.1, c.in-Ok.verdict, receives, did.3, settled.1), settled.2)
