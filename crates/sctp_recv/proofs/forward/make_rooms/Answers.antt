use Rattle.std.proofs.Common.{◌≡◌, ◌<◌, ◌≤◌, Some, length, refl, ◌∙◌, arith}
use Rattle.std.specs.Prelude.{slice_get}
use Rattle.std.proofs.lemmas.List.{length-set}
use Rattle.std.proofs.lemmas.Option.{slice_get_read}
use Rattle.sctp_recv.proofs.StreamLemmas.{set_unchanged}
use Rattle.sctp_recv.proofs.FiledLemmas.{filed_same, room_next, room_past}
use Rattle.sctp_recv.proofs.TouchedLemmas.{got_at}
use Rattle.sctp_recv.proofs.forward.make_rooms.Goals as goal
use Rattle.sctp_recv.proofs.forward.make_rooms.Goals.{then-place-len+in_ok-make_room_on, else-place-len}

pub loop-at-init : goal.loop-at-init
loop-at-init g c = record { same = refl; size = refl; filed = λ kept was. was; room = λ i s x low at_i got. absurd (omega (arith, low)) }

pub returns-in_err-make_room_on-clause-same : goal.returns-in_err-make_room_on-clause-same
returns-in_err-make_room_on-clause-same g c =
    let items = c.loop-at.streams.items in
    let low : c.from-place.result < length items = omega (arith, c.if-place-len.true, c.len.ensures, c.loop-at.streams.ok) in
    set_unchanged items c.from-place.result c.make_room_on.new.stream c.index_mut.result.now low c.index_mut.ensures.value c.make_room_on.ensures.same ∙ c.loop-at.invariant.same

pub returns-in_err-make_room_on-clause-filed : goal.returns-in_err-make_room_on-clause-filed
returns-in_err-make_room_on-clause-filed g c = λ kept was.
    let items = c.loop-at.streams.items in
    let k = c.from-place.result in
    let low : k < length items = omega (arith, c.if-place-len.true, c.len.ensures, c.loop-at.streams.ok) in
    let got = slice_get_read items (length items) k c.index_mut.result.now refl low c.index_mut.ensures.value in
    filed_same g.F.Framing.format kept items k c.index_mut.result.now c.make_room_on.new.stream (c.loop-at.invariant.filed kept was) low got c.make_room_on.ensures.chunks

pub loop-at-preserved : goal.loop-at-preserved
loop-at-preserved g c =
    let items = c.loop-at.streams.items in
    let touched = c.args.touched.now in
    let k = c.from-place.result in
    let inv = c.loop-at.invariant in
    let here : slice_get touched c.loop-at.at ≡ Some k = got_at touched c.loop-at.at k 0 c.loop-at-test.true c.from-place.ensures in
    elim c.if-place-len.branch [
      | then-place-len+in_ok-make_room_on w ↦
          let x = w.index_mut.result.now in
          let y = w.make_room_on.new.stream in
          let low : k < length items = omega (arith, w.if-place-len.true, c.len.ensures, c.loop-at.streams.ok) in
          let got = slice_get_read items (length items) k x refl low w.index_mut.ensures.value in
          rw w.streams-is (record {
            same = set_unchanged items k y x low w.index_mut.ensures.value w.make_room_on.ensures.same ∙ inv.same;
            size = length-set items k y ∙ inv.size;
            filed = λ kept was. filed_same g.F.Framing.format kept items k x y (inv.filed kept was) low got w.make_room_on.ensures.chunks;
            room = room_next touched c.loop-at.at k items y inv.room here low w.in_ok-make_room_on.ensures.room;
          })
      | else-place-len w ↦
          let past : length items ≤ k = omega (arith, w.if-place-len.false, c.len.ensures, c.loop-at.streams.ok) in
          rw w.streams-is (record { same = inv.same; size = inv.size; filed = inv.filed; room = room_past touched c.loop-at.at k items inv.room here past })
    ]

pub returns-clause-same : goal.returns-clause-same
returns-clause-same g c = c.loop-at.invariant.same

pub returns-clause-filed : goal.returns-clause-filed
returns-clause-filed g c = c.loop-at.invariant.filed

pub returns-clause-room : goal.returns-clause-room
returns-clause-room g c = λ i s x low at_i got. c.loop-at.invariant.room i s x (omega (arith, low, c.loop-at-test.false)) at_i got
