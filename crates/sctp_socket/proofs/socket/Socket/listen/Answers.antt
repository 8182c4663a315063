use Rattle.std.proofs.Common.{refl, subst, inl, inr}
use Rattle.sctp_opening.specs.declared.outside.Stray.{Stray}
use Rattle.sctp_opening.specs.declared.outside.Stray.TheVariants as stray
use Rattle.sctp_packet.specs.PacketTree.{packet_meaning}
use Rattle.sctp_socket.specs.Places.{place_meaning}
use Rattle.sctp_socket.specs.Routing.{listener_there}
use Rattle.sctp_socket.specs.Unkept.{Leaves}
use Rattle.sctp_socket.proofs.socket.Socket.listen.Goals as goal

pub returns-in-Err : goal.returns-in-Err
returns-in-Err g c = λ v s stands reads under is. (v, inr (c.in-Err.fault, refl, refl, c.in-Err.ensures.memory s under), stands)

pub returns-in-Ok-Dropped : goal.returns-in-Ok-Dropped
returns-in-Ok-Dropped g c = λ v s stands reads under is.
    let there = subst (λ (told : Stray). Leaves (listener_there (place_meaning s c.args.place.now)) c.args.own (packet_meaning c.args.packet.now) told)
    c.in-Ok-Dropped.field-0-is (c.in-Ok-Dropped.ensures.step s under) in
    (v, inl (stray.Dropped c.in-Ok-Dropped.reason, there, (refl, refl)), stands)

pub returns-in-Ok-Answered : goal.returns-in-Ok-Answered
returns-in-Ok-Answered g c = λ v s stands reads under is.
    let there = subst (λ (told : Stray). Leaves (listener_there (place_meaning s c.args.place.now)) c.args.own (packet_meaning c.args.packet.now) told)
    c.in-Ok-Answered.field-0-is (c.in-Ok-Answered.ensures.step s under) in
    (v, inl (stray.Answered c.in-Ok-Answered.answer, there, (refl, refl)), stands)

pub returns-in-Ok-Begins : goal.returns-in-Ok-Begins
returns-in-Ok-Begins g c = λ v s stands reads under is.
    let there = subst (λ (told : Stray). Leaves (listener_there (place_meaning s c.args.place.now)) c.args.own (packet_meaning c.args.packet.now) told)
    c.in-Ok-Begins.field-0-is (c.in-Ok-Begins.ensures.step s under) in
    let met = c.meet.ensures v s _ stands reads under is in
    (met.0, inl (stray.Begins c.in-Ok-Begins.content, there, met.1), met.2)
