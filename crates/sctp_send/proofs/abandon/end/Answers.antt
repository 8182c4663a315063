use Rattle.std.proofs.Common.{◌≡◌, None, map, set, ap}
use Rattle.sctp_send.specs.SenderFields.{track_meaning}
use Rattle.sctp_send.specs.PartsKept.{StreamsKept}
use Rattle.sctp_send.specs.inner.Walks.{GoesOnAt}
use Rattle.sctp_send.proofs.abandon.TrackLemmas.{rest_taken, never_none}
use Rattle.sctp_send.proofs.abandon.end.Goals as goal

pub returns-clause-none : goal.returns-clause-none
returns-clause-none c = λ size.
    let there : GoesOnAt c.args.ticket c.in_ok-at.at (map (track_meaning size) c.args.streams.now.items) = c.in_ok-at.ensures.some size in
    never_none size c.args.ticket c.in_ok-at.at c.args.streams.now.items c.leave.result _ _ c.leave.ensures.before there (c.ending_of.ensures.ending size)

pub returns-clause-same : goal.returns-clause-same
returns-clause-same c =
    let there : GoesOnAt c.args.ticket c.in_ok-at.at (map (track_meaning 1) c.args.streams.now.items) = c.in_ok-at.ensures.some 1 in
    never_none 1 c.args.ticket c.in_ok-at.at c.args.streams.now.items c.leave.result _ _ c.leave.ensures.before there (c.ending_of.ensures.ending 1)

pub returns-clause-some : goal.returns-clause-some
returns-clause-some c = λ size.
    let ts = c.args.streams.now.items in
    let x = c.leave.result in
    let there : GoesOnAt c.args.ticket c.in_ok-at.at (map (track_meaning size) ts) = c.in_ok-at.ensures.some size in
    let next : c.leave.new.self.items ≡ set ts c.in_ok-at.at (record x { rest = None }) = ap (λ (w : StreamsKept). w.items) c.leave.ensures.after in
    rw next (rest_taken size c.args.ticket c.in_ok-at.at ts x _ c.leave.ensures.before there (c.ending_of.ensures.ending size))
