use Rattle.std.proofs.Common.{◌≡◌, ◌<◌, true, length, subst, ap, sym, ◌∙◌, arith}
use Rattle.std.specs.Prelude.{IfOk}
use Rattle.std.proofs.lemmas.Grind.{common_steps}
use Rattle.sctp_model.specs.wire.Chunk.{InitMeaning}
use Rattle.sctp_model.specs.end.Opening.{has_no_stream}
use Rattle.sctp_model.specs.end.Strays.{Verdict}
use Rattle.sctp_wire.specs.ChunkTree.{init_meaning}
use Rattle.sctp_opening.specs.Told.{IsAnswer}
use Rattle.sctp_opening.specs.inner.Fitting.{IsList}
use Rattle.sctp_opening.proofs.ListLemmas.{written_list, init_ack-fits}
use Rattle.sctp_opening.proofs.AckLemmas.{refused-is}
use Rattle.sctp_opening.proofs.outside.Outside.answer_init.Goals as goal

pub returns-then-has_no_stream-clause-answer : goal.returns-then-has_no_stream-clause-answer
returns-then-has_no_stream-clause-answer c = λ s e under at.
    let none : has_no_stream (init_meaning c.args.offer.now) ≡ true = grind (arith, common_steps) in
    subst (λ (v : Verdict). IfOk c.abort_packet.result (λ packet. IsAnswer packet.items v))
    (refused-is s e c.args.self.now.draw (init_meaning c.args.offer.now) c.args.self.now.config at.configured none) c.abort_packet.ensures.packet

pub introduction-requires : goal.introduction-requires
introduction-requires c = rw c.deref.ensures.value ((written_list c.in_ok-list.list.items c.in_ok-list.ensures.list).listed)

pub lone_packet-requires-clause-fits : goal.lone_packet-requires-clause-fits
lone_packet-requires-clause-fits c =
    let bytes = c.in_ok-list.list.items in
    let m = init_meaning c.introduction.result in
    let is : m.parameters ≡ bytes = ap (λ (x : InitMeaning). x.parameters) c.introduction.ensures ∙ c.deref.ensures.value in
    let few : length bytes < 60000 = omega (arith, c.in_ok-list.ensures.room) in
    let short : length m.parameters < 60000 = rw is few in
    init_ack-fits m (record { tag = omega arith; rwnd = omega arith; outbound = omega arith; inbound = omega arith; tsn = omega arith; short = short; list = subst IsList (sym is) c.in_ok-list.ensures.list })
