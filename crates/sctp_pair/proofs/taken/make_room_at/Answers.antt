use Rattle.std.proofs.Common.{◌<◌, refl, length, arith}
use Rattle.sctp_pair.proofs.TakenLemmas.{logged_set, room_set, on_ok}
use Rattle.sctp_pair.proofs.taken.make_room_at.Goals as goal

pub returns-clause-same : goal.returns-clause-same
returns-clause-same c = λ taken all.
    let ls = c.grow.new.logs.items in
    let less : c.from-2.result < length ls = omega (arith, c.in_ok-grow.ensures.within, c.from.ensures, c.from-2.ensures) in
    logged_set ls _ c.from-2.result c.index_mut-log.result.now c.make_room.new.self taken taken less c.index_mut-log.ensures.value refl
    (λ is. c.make_room.ensures.same (taken c.from-2.result) is) (λ j other. refl) (c.grow.ensures.same taken all)

pub returns-clause-room : goal.returns-clause-room
returns-clause-room c =
    let ls = c.grow.new.logs.items in
    let less : c.from-2.result < length ls = omega (arith, c.in_ok-grow.ensures.within, c.from.ensures, c.from-2.ensures) in
    on_ok c.make_room.result _ _ (λ room. rw (← c.from-2.ensures) (room_set ls _ c.from-2.result c.make_room.new.self less refl room)) c.make_room.ensures.room
