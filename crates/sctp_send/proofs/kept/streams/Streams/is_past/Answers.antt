use Rattle.std.proofs.Common.{◌≡◌, List, map, subst, false, arith}
use Rattle.sctp_send.specs.SenderFields.{track_meaning}
use Rattle.sctp_send.specs.PartsKept.{StreamsKept}
use Rattle.sctp_send.specs.inner.PartSeats.{tickets_left}
use Rattle.sctp_send.specs.inner.Walks.{any_rest}
use Rattle.sctp_send.specs.declared.kept.track.Track.{Track as TrackFields}
use Rattle.sctp_send.proofs.fill.NextLemmas.{none_with}
use Rattle.sctp_send.proofs.kept.OwedLemmas.{no_part}
use Rattle.sctp_send.proofs.kept.PartStreams.{none_goes_on_with}
use Rattle.sctp_send.proofs.kept.streams.Streams.is_past.Goals as goal

pub returns-then-self-eq0 : goal.returns-then-self-eq0
returns-then-self-eq0 c = λ size t on le.
    let w = c.self.inside in
    subst (λ (k : StreamsKept). any_rest t (map (track_meaning size) k.items) ≡ false) c.self.view_is
    (none_with t (map (track_meaning size) w.tracks.items) (no_part w.size size w.parts w.owed w.tracks.items c.self.invariant.counted c.if-self-eq0.true))

pub returns-then-is_complete : goal.returns-then-is_complete
returns-then-is_complete c = λ size t on le.
    let w = c.self.inside in
    let above = c.are_above.ensures.above (tickets_left w.tracks.items) c.self.invariant.listed on in
    subst (λ (k : StreamsKept). any_rest t (map (track_meaning size) k.items) ≡ false) c.self.view_is (none_goes_on_with size t w.tracks.items (λ j is. let lt = above j t is in omega (arith, lt, le)))

pub returns : goal.returns
returns c = λ size t on le.
    let w = c.self.inside in
    subst (λ (k : StreamsKept). any_rest t (map (track_meaning size) k.items) ≡ false) c.self.view_is
    (subst (λ (ts : List TrackFields). any_rest t (map (track_meaning size) ts) ≡ false) c.deref.ensures.value (c.are_past.ensures size t on le))
