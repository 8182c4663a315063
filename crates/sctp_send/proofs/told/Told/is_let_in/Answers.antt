use Rattle.std.proofs.Common.{◌≡◌, ◌∙◌, Bool, true, List, ℕ, Some, length, sym, ap}
use Rattle.std.specs.Prelude.{◌&&◌, ◌||◌}
use Rattle.sctp_packet.specs.Draft.{has_room}
use Rattle.sctp_send.specs.OutstandingFields.{entry_meaning, lane_meaning, message_meaning}
use Rattle.sctp_send.specs.ResetsKept.{base_of}
use Rattle.sctp_send.specs.inner.Asking.{flows}
use Rattle.sctp_send.specs.inner.Wishing.{lets_flow}
use Rattle.sctp_send.specs.inner.Stocking.{bare, said_chunk}
use Rattle.sctp_send.proofs.fill.NewMayLemmas.{flying_is}
use Rattle.sctp_send.proofs.told.Told.is_let_in.Goals.{then-again, else-again}
use Rattle.sctp_send.proofs.told.Told.is_let_in.Goals as goal

pub returns-then-flows-clause-asked : goal.returns-then-flows-clause-asked
returns-then-flows-clause-asked g c = λ v p number i k room.
    let f = g.F.Framing.format in
    let s = bare c.args.self.now in
    let d = c.args.stock.now in
    let m = c.args.message.now in
    let e = entry_meaning (lane_meaning m) number c.args.content in
    let said = Some (message_meaning s.fragment m) in
    let long = ap (λ (bs : List ℕ). length bs) (c.bytes_of-bytes.ensures (lane_meaning m) number) in
    let may = flows s d c.bytes_of-bytes.result.now in
    let on : (c.args.again || may) ≡ true =
    elim c.if-again.branch [
      | then-again w ↦ ap (λ (b : Bool). b || may) w.if-again.true
      | else-again w ↦ ap (λ (b : Bool). b || may) w.if-again.false
          ∙ sym (w.may_flow-flows.ensures ∙ ap (λ (n : ℕ). lets_flow n (length c.bytes_of-bytes.result.now) s.rwnd) (flying_is f s v d w.flight.result k c.requires.window w.flight.ensures.flight w.flight.ensures.bound))
          ∙ (sym w.flows-is ∙ c.if-flows.true)
    ] in
    c.fits.ensures p (base_of s.resets) s.initial i e said room long
    ∙ sym (ap (λ (bs : List ℕ). (c.args.again || flows s d bs) && has_room p (said_chunk f (base_of s.resets) s.initial i e said)) (sym (c.bytes_of-bytes.ensures (lane_meaning m) number)) ∙ ap (λ (b : Bool). b && has_room p (said_chunk f (base_of s.resets) s.initial i e said)) on)
