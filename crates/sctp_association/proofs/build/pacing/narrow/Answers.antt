use Rattle.std.proofs.Common.{◌∙◌, ℕ, sym, ap, arith}
use Rattle.sctp_model.specs.sender.Filling.{fill}
use Rattle.sctp_model.specs.end.Control.{room_of_repeats}
use Rattle.sctp_congestion.specs.Allowed.{room_allowed}
use Rattle.sctp_congestion.specs.declared.control.Allowance.{Allowance}
use Rattle.sctp_packet.specs.Draft.{room_in}
use Rattle.sctp_association.proofs.PaceLemmas.{low_limit}
use Rattle.sctp_association.proofs.build.pacing.narrow.Goals as goal

pub returns-in-All-clause-room : goal.returns-in-All-clause-room
returns-in-All-clause-room c = λ f s r p stands kept.
    let room = room_in c.args.writer.now in
    sym (c.allowance.ensures f s.cum room s p kept (c.chunk_flight.ensures f s r stands) ∙ ap (λ (a : Allowance). room_allowed a room (room_of_repeats f (fill f room s).wishes)) c.in-All.is)

pub returns-in-Retransmissions-clause-room : goal.returns-in-Retransmissions-clause-room
returns-in-Retransmissions-clause-room c = λ f s r p stands kept.
    let room = room_in c.args.writer.now in
    let is = c.allowance.ensures f s.cum room s p kept (c.chunk_flight.ensures f s r stands) ∙ ap (λ (a : Allowance). room_allowed a room (room_of_repeats f (fill f room s).wishes)) c.in-Retransmissions.is in
    c.narrow.ensures.room
    ∙ (low_limit c.room_of_repeats.result room (let bound = c.room_of_repeats.ensures.bound in let has = c.room-room.ensures.room in omega (arith, bound, has))
    ∙ (c.room_of_repeats.ensures.count f s r stands ∙ (ap (λ (n : ℕ). room_of_repeats f (fill f n s).wishes) c.room-room.ensures.room ∙ sym is)))

pub returns-in-Nothing-clause-room : goal.returns-in-Nothing-clause-room
returns-in-Nothing-clause-room c = λ f s r p stands kept.
    let room = room_in c.args.writer.now in
    let is = c.allowance.ensures f s.cum room s p kept (c.chunk_flight.ensures f s r stands) ∙ ap (λ (a : Allowance). room_allowed a room (room_of_repeats f (fill f room s).wishes)) c.in-Nothing.is in
    c.narrow-in-Nothing.ensures.room ∙ (low_limit 0 room (omega arith) ∙ sym is)
