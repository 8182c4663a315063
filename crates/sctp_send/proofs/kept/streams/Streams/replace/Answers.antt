use Rattle.std.proofs.Common.{◌≡◌, ◌<◌, ◌∙◌, ◌%◌, ◌^◌, ℕ, length, set, sym, ap, subst}
use Rattle.sctp_send.specs.SenderFields.{track_meaning}
use Rattle.sctp_send.specs.PartsKept.{StreamsKept}
use Rattle.sctp_send.specs.inner.Owning.{IsRestOwned, AreRestsOwned}
use Rattle.sctp_send.specs.inner.PartSeats.{ticket_left}
use Rattle.sctp_send.specs.inner.Walks.{one_if_rest, rest_owes}
use Rattle.sctp_send.specs.declared.kept.track.Track.{Track as TrackFields}
use Rattle.sctp_send.proofs.kept.OwedLemmas.{counted_set, IsCountOf}
use Rattle.sctp_send.proofs.kept.OwnedLemmas.{rests_read, rests_set}
use Rattle.sctp_send.proofs.kept.PartStreams.{listed_replaced}
use Rattle.sctp_send.proofs.kept.streams.Streams.replace.Goals as goal

pub invariant_of-self : goal.invariant_of-self
invariant_of-self c =
    let w = c.self.inside in
    let x = c.index_mut.result.now in
    let low : c.args.at < length w.tracks.items = subst (λ (k : StreamsKept). c.args.at < length k.items) (sym c.self.view_is) c.requires.within in
    let own : IsRestOwned w.size c.args.track.rest = subst (λ (k : StreamsKept). IsRestOwned k.size c.args.track.rest) (sym c.self.view_is) c.requires.owned in
    let new : IsCountOf w.size c.args.track c.one_if_in_part.result c.owed_by_track.result = record { one = c.one_if_in_part.ensures w.size; owes = c.owed_by_track.ensures } in
    let old : IsCountOf w.size x c.one_if_in_part-2.result c.owed_by_track-2.result = record {
      one = c.one_if_in_part-2.ensures w.size ∙ ap (λ (t : TrackFields). one_if_rest (track_meaning w.size t).rest) c.replace-before.ensures.value;
      owes = c.owed_by_track-2.ensures ∙ ap (λ (t : TrackFields). rest_owes (track_meaning w.size t).rest % 2 ^ 64) c.replace-before.ensures.value;
    } in
    let is = ap (λ (t : TrackFields). set w.tracks.items c.args.at t) c.replace-before.ensures.after in
    record {
      counted = counted_set w.size w.parts w.owed c.one_if_in_part.result c.owed_by_track.result c.one_if_in_part-2.result c.owed_by_track-2.result c.args.at w.tracks.items
          (set w.tracks.items c.args.at c.replace-before.new.dest) x c.args.track c.self.invariant.counted low c.index_mut.ensures.value is new old;
      listed = listed_replaced c.args.at w.tracks.items (set w.tracks.items c.args.at c.replace-before.new.dest) x c.args.track c.ticket_of_track-goes.result c.ticket_of_track-comes.result w.lists c.change.new.self low c.index_mut.ensures.value is
          (c.ticket_of_track-goes.ensures ∙ ap (λ (t : TrackFields). ticket_left t.rest) c.replace-before.ensures.value) c.ticket_of_track-comes.ensures c.self.invariant.listed c.change.ensures;
      owned = subst (AreRestsOwned w.size) (sym is) (rests_set w.size c.args.at w.tracks.items c.args.track c.self.invariant.owned own);
    }

pub returns-clause-owned : goal.returns-clause-owned
returns-clause-owned c =
    let w = c.self.inside in
    let x = c.index_mut.result.now in
    let low : c.args.at < length w.tracks.items = subst (λ (k : StreamsKept). c.args.at < length k.items) (sym c.self.view_is) c.requires.within in
    let had = rests_read w.size c.args.at w.tracks.items x c.self.invariant.owned low c.index_mut.ensures.value in
    let size : w.size ≡ c.args.self.now.size = ap (λ (k : StreamsKept). k.size) c.self.view_is in
    subst (λ (n : ℕ). IsRestOwned n c.replace-before.result.rest) size (subst (λ (t : TrackFields). IsRestOwned w.size t.rest) (sym c.replace-before.ensures.value) had)
