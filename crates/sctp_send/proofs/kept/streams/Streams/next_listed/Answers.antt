use Rattle.std.proofs.Common.{ℕ, None, map, subst, ◌∙◌, ap, min}
use Rattle.sctp_sequence.specs.TwoWays.{IsFirstKey, FirstKeyAnswer}
use Rattle.sctp_send.specs.SenderFields.{track_meaning}
use Rattle.sctp_send.specs.PartsKept.{StreamsKept}
use Rattle.sctp_send.specs.inner.Newcomers.{IsNextPart}
use Rattle.sctp_send.specs.inner.PartSeats.{tickets_left}
use Rattle.sctp_send.proofs.kept.PartStreams.{next_found, next_none}
use Rattle.sctp_send.proofs.kept.streams.Streams.next_listed.Goals as goal

pub returns-in-Some : goal.returns-in-Some
returns-in-Some c = λ size.
    let w = c.self.inside in
    let first = subst (λ (n : ℕ). IsFirstKey n (tickets_left w.tracks.items) c.in-Some.part) c.from.ensures (c.in-Some.ensures (tickets_left w.tracks.items) c.self.invariant.listed) in
    subst (λ (k : StreamsKept). IsNextPart c.args.from c.args.below (map (track_meaning size) k.items) c.min.result) c.self.view_is
    (next_found c.args.from c.args.below c.min.result size w.tracks.items c.in-Some.part first (c.min.ensures ∙ ap (λ n. min c.in-Some.part.first n) c.from-in-Some.ensures))

pub returns-in-None : goal.returns-in-None
returns-in-None c = λ size.
    let w = c.self.inside in
    let none = subst (λ (n : ℕ). FirstKeyAnswer n (tickets_left w.tracks.items) None) c.from.ensures (c.in-None.ensures (tickets_left w.tracks.items) c.self.invariant.listed) in
    subst (λ (k : StreamsKept). IsNextPart c.args.from c.args.below (map (track_meaning size) k.items) c.args.below) c.self.view_is (next_none c.args.from c.args.below size w.tracks.items none)
