use Rattle.std.proofs.Common.{◌≡◌, ◌∙◌, ◌+◌, ◌*◌, ◌<◌, ◌≤◌, true, false, length, map, sym, ap, arith}
use Rattle.std.specs.Prelude.{nat_le}
use Rattle.std.proofs.lemmas.Bool.Decides.{nat_tests}
use Rattle.std.proofs.lemmas.List.{length-map}
use Rattle.sctp_packet.specs.Draft.{room_in, has_room}
use Rattle.sctp_wire.specs.Skips.{skip_size}
use Rattle.sctp_framing.specs.SkipForms.{skip_form}
use Rattle.sctp_send.specs.ResetsKept.{base_of}
use Rattle.sctp_send.specs.inner.Lanes.{passed_meaning, forward_of_lanes}
use Rattle.sctp_send.proofs.forward.ForwardLemmas.{room_counted}
use Rattle.sctp_send.proofs.fill.NewMayLemmas.{on_err}
use Rattle.sctp_send.proofs.forward.put_lanes.Goals as goal

pub returns-then-size-lanes-clause-answer : goal.returns-then-size-lanes-clause-answer
returns-then-size-lanes-clause-answer g c =
    let f = g.F.Framing.format in
    let bytes : c.size.result ≡ skip_size (skip_form f) = c.size.ensures ∙ ap skip_size c.skip_form-form.ensures in
    let past : room_in c.args.packet.now < 8 + c.size.result * length c.args.lanes.now = omega (arith, c.room.ensures.room, c.if-size-lanes.true) in
    let over : nat_le (8 + c.size.result * length c.args.lanes.now) (room_in c.args.packet.now) ≡ false = grind (arith, nat_tests) in
    sym over ∙ ap (λ n. nat_le (8 + n * length c.args.lanes.now) (room_in c.args.packet.now)) bytes
    ∙ room_counted f (base_of c.args.resets.now) c.args.packet.now (length c.args.lanes.now) c.args.cumulative (map passed_meaning c.args.lanes.now) (sym (length-map c.args.lanes.now passed_meaning))

pub returns-in_err-list-clause-memory : goal.returns-in_err-list-clause-memory
returns-in_err-list-clause-memory g c =
    let f = g.F.Framing.format in
    let bytes : c.size.result ≡ skip_size (skip_form f) = c.size.ensures ∙ ap skip_size c.skip_form-form.ensures in
    let within : 8 + c.size.result * length c.args.lanes.now ≤ room_in c.args.packet.now = omega (arith, c.room.ensures.room, c.if-size-lanes.false) in
    let fits : nat_le (8 + c.size.result * length c.args.lanes.now) (room_in c.args.packet.now) ≡ true = grind (arith, nat_tests) in
    on_err (has_room c.args.packet.now (forward_of_lanes f (base_of c.args.resets.now) c.args.cumulative c.args.lanes.now) ≡ true) c.from_residual.result
    (sym (room_counted f (base_of c.args.resets.now) c.args.packet.now (length c.args.lanes.now) c.args.cumulative (map passed_meaning c.args.lanes.now) (sym (length-map c.args.lanes.now passed_meaning)))
    ∙ sym (ap (λ n. nat_le (8 + n * length c.args.lanes.now) (room_in c.args.packet.now)) bytes) ∙ fits)
