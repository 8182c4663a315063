use Rattle.std.proofs.Common.{inl, inr, refl, map}
use Rattle.sctp_send.specs.SenderFields.{track_meaning}
use Rattle.sctp_send.specs.inner.Walks.{GoesOnAt}
use Rattle.sctp_send.proofs.abandon.UntilLemmas.{part_until}
use Rattle.sctp_send.proofs.abandon.moments.until_in_part.Goals as goal

pub returns-in-Some : goal.returns-in-Some
returns-in-Some c = λ size.
    let there : GoesOnAt c.args.ticket c.in-Some.at (map (track_meaning size) c.args.streams.now.items) = c.in-Some.ensures.some size in
    inl (part_until c.args.ticket size c.in-Some.at c.args.streams.now.items c.index-tracks-at.result c.until_left.result (rw c.tracks.ensures at c.index-tracks-at.is) there c.until_left.ensures)

pub returns-in-None : goal.returns-in-None
returns-in-None c = λ size. inr (c.in-None.ensures.none size, refl)
