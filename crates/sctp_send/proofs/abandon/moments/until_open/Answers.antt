use Rattle.std.proofs.Common.{inl, inr, map}
use Rattle.sctp_send.specs.OutstandingFields.{item_meaning}
use Rattle.sctp_send.specs.SenderFields.{track_meaning}
use Rattle.sctp_send.proofs.abandon.UntilLemmas.{open_item, open_rest, open_none}
use Rattle.sctp_send.proofs.abandon.moments.until_open.Goals as goal

pub returns-in-Some : goal.returns-in-Some
returns-in-Some c = λ size.
    let xs = map (item_meaning size) c.args.outstanding.now.items in
    let ts = map (track_meaning size) c.args.streams.now.items in
    inl (open_item c.args.ticket xs ts (c.in-Some.ensures.uncovered size), inl (c.in-Some.ensures.some size))

pub returns-in-None : goal.returns-in-None
returns-in-None c = λ size.
    let xs = map (item_meaning size) c.args.outstanding.now.items in
    let ts = map (track_meaning size) c.args.streams.now.items in
    elim (c.until_in_part.ensures size) [
      | inl rest ↦ inl (open_rest c.args.ticket xs ts c.until_in_part.result rest, inr rest)
      | inr none ↦ inr (open_none c.args.ticket xs ts none.0 (c.in-None.ensures.none size), none.1)
    ]
