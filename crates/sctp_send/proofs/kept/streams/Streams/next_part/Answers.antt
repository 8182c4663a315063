use Rattle.std.proofs.Common.{map, subst, arith}
use Rattle.sctp_send.specs.SenderFields.{track_meaning}
use Rattle.sctp_send.specs.PartsKept.{StreamsKept}
use Rattle.sctp_send.specs.inner.Newcomers.{IsNextPart}
use Rattle.sctp_send.proofs.fill.NextLemmas.{none_goes_on}
use Rattle.sctp_send.proofs.kept.OwedLemmas.{no_part}
use Rattle.sctp_send.proofs.kept.streams.Streams.next_part.Goals as goal

pub returns-then-self-eq0 : goal.returns-then-self-eq0
returns-then-self-eq0 c = λ size.
    let w = c.self.inside in
    let none = no_part w.size size w.parts w.owed w.tracks.items c.self.invariant.counted c.if-self-eq0.true in
    subst (λ (k : StreamsKept). IsNextPart c.args.from c.args.below (map (track_meaning size) k.items) c.args.below) c.self.view_is
    (record { before = λ j lo hi. none_goes_on (map (track_meaning size) w.tracks.items) j none; here = λ lt. absurd (omega (arith, lt)); within = omega arith })
