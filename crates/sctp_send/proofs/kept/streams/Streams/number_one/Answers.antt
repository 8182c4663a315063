use Rattle.std.proofs.Common.{refl, ◌+◌, ◌%◌, ◌^◌}
use Rattle.sctp_values.specs.declared.kind.Kind.TheVariants.{Ordered, Unordered}
use Rattle.sctp_send.specs.inner.Entering.{counted_to}
use Rattle.sctp_send.proofs.kept.TrackCounts.{streams_counted, set_changed}
use Rattle.sctp_send.proofs.kept.streams.Streams.number_one.Goals.{in-Ordered, in-Unordered}
use Rattle.sctp_send.proofs.kept.streams.Streams.number_one.Goals as goal

pub invariant_of-self : goal.invariant_of-self
invariant_of-self c =
    let w = c.self.inside in
    let x = c.index_mut-track.result.now in
    let read = c.index_mut-track.ensures.value in
    elim c.match-kind.branch [
      | in-Ordered v ↦
          rw (v.self-inside-is, set_changed (counted_to Ordered ((x.ordered + 1) % 2 ^ 64)) c.args.at w.tracks.items x _ read refl)
          (streams_counted w.size _ c.args.at w.parts w.owed Ordered w.tracks.items w.lists c.self.invariant)
      | in-Unordered v ↦
          rw (v.self-inside-is, set_changed (counted_to Unordered ((x.unordered + 1) % 2 ^ 64)) c.args.at w.tracks.items x _ read refl)
          (streams_counted w.size _ c.args.at w.parts w.owed Unordered w.tracks.items w.lists c.self.invariant)
    ]

pub returns-clause-counted : goal.returns-clause-counted
returns-clause-counted c =
    let ts = c.self.inside.tracks.items in
    let x = c.index_mut-track.result.now in
    let read = c.index_mut-track.ensures.value in
    elim c.match-kind.branch [
      | in-Ordered v ↦
          rw (v.self-inside-is, v.result-is, v.in-Ordered.is, ← c.self.view_is, set_changed (counted_to Ordered ((x.ordered + 1) % 2 ^ 64)) c.args.at ts x _ read refl) refl
      | in-Unordered v ↦
          rw (v.self-inside-is, v.result-is, v.in-Unordered.is, ← c.self.view_is, set_changed (counted_to Unordered ((x.unordered + 1) % 2 ^ 64)) c.args.at ts x _ read refl) refl
    ]
