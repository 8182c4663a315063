use Rattle.std.proofs.Common.{map, refl, arith}
use Rattle.sctp_send.specs.OutstandingFields.{item_meaning}
use Rattle.sctp_send.proofs.pace.TallyLemmas.{tally_none}
use Rattle.sctp_send.proofs.pace.FlyingLemmas.{tally_flying}
use Rattle.sctp_send.proofs.pace.tally.Tally.of_passed.Goals as goal

pub returns-then-is_in_flight-clause-tally : goal.returns-then-is_in_flight-clause-tally
returns-then-is_in_flight-clause-tally c = λ on all.
    let xs = map (item_meaning c.args.outstanding.now.size) c.args.outstanding.now.items in
    tally_flying c.args.outstanding.now.header xs on _ c.args.to (c.is_in_flight.ensures c.if-is_in_flight.true) refl refl c.chunk_flight.ensures.flight all

pub returns-clause-tally : goal.returns-clause-tally
returns-clause-tally c = λ on all.
    let xs = map (item_meaning c.args.outstanding.now.size) c.args.outstanding.now.items in
    c.take.ensures.tally on (tally_none c.args.outstanding.now.header xs on c.none.result c.none.ensures.at c.none.ensures.bytes c.none.ensures.newest) (λ j lo hi. all j (omega (arith, lo, c.none.ensures.at)) hi)
