use Rattle.std.proofs.Common.{◌≡◌, map, subst, false}
use Rattle.sctp_send.specs.SenderFields.{track_meaning}
use Rattle.sctp_send.specs.PartsKept.{StreamsKept}
use Rattle.sctp_send.specs.inner.PartSeats.{tickets_left}
use Rattle.sctp_send.specs.inner.Walks.{any_rest, GoesOnAt}
use Rattle.sctp_send.proofs.fill.NextLemmas.{none_with}
use Rattle.sctp_send.proofs.kept.OwedLemmas.{no_part}
use Rattle.sctp_send.proofs.kept.PartStreams.{goes_on_there, none_goes_on_with}
use Rattle.sctp_send.proofs.kept.streams.Streams.stream_of.Goals as goal

pub returns-then-self-eq0-clause-none : goal.returns-then-self-eq0-clause-none
returns-then-self-eq0-clause-none c = λ size.
    let w = c.self.inside in
    subst (λ (k : StreamsKept). any_rest c.args.ticket (map (track_meaning size) k.items) ≡ false) c.self.view_is
    (none_with c.args.ticket (map (track_meaning size) w.tracks.items) (no_part w.size size w.parts w.owed w.tracks.items c.self.invariant.counted c.if-self-eq0.true))

pub returns-in-Some-clause-some : goal.returns-in-Some-clause-some
returns-in-Some-clause-some c = λ size.
    let w = c.self.inside in
    let there = c.in-Some.ensures (tickets_left w.tracks.items) c.self.invariant.listed in
    subst (λ (k : StreamsKept). GoesOnAt c.args.ticket c.in-Some.stream (map (track_meaning size) k.items)) c.self.view_is (goes_on_there size c.in-Some.stream c.args.ticket w.tracks.items there)

pub returns-in-None-clause-none : goal.returns-in-None-clause-none
returns-in-None-clause-none c = λ size.
    let w = c.self.inside in
    let none = c.in-None.ensures (tickets_left w.tracks.items) c.self.invariant.listed in
    subst (λ (k : StreamsKept). any_rest c.args.ticket (map (track_meaning size) k.items) ≡ false) c.self.view_is (none_goes_on_with size c.args.ticket w.tracks.items none)
