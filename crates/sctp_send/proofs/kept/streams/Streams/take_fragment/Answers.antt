use Rattle.std.proofs.Common.{◌≡◌, ◌<◌, Some, length, map, set, sym, subst}
use Rattle.sctp_send.specs.SenderFields.{track_meaning}
use Rattle.sctp_send.specs.PartsKept.{StreamsKept}
use Rattle.sctp_send.specs.inner.Newcomers.{rest_after, rest_at, track_of}
use Rattle.sctp_send.specs.inner.Owning.{taken_meaning}
use Rattle.sctp_send.proofs.kept.OwnedLemmas.{rests_read}
use Rattle.sctp_send.proofs.kept.TakenLemmas.{goes_on_from, taken_was, left_on, taken_streams}
use Rattle.sctp_send.proofs.kept.streams.Streams.take_fragment.Goals as goal

pub invariant_of-self : goal.invariant_of-self
invariant_of-self c =
    let w = c.self.inside in
    let ts = w.tracks.items in
    let x = c.index_mut.result.now in
    let y = c.take_next.new.track in
    let low : c.args.at < length ts = subst (λ (k : StreamsKept). c.args.at < length k.items) (sym c.self.view_is) c.requires in
    let goes = goes_on_from w.size x y c.in-Some.taken (rests_read w.size c.args.at ts x c.self.invariant.owned low c.index_mut.ensures.value) c.in-Some.ensures.some in
    taken_streams w.size c.args.at w.parts w.owed ts x y c.in-Some.taken w.lists c.self.invariant low c.index_mut.ensures.value goes

pub returns-in-Some-clause-taken : goal.returns-in-Some-clause-taken
returns-in-Some-clause-taken c =
    let w = c.self.inside in
    let ts = w.tracks.items in
    let x = c.index_mut.result.now in
    let y = c.take_next.new.track in
    let t = c.in-Some.taken in
    let low : c.args.at < length ts = subst (λ (k : StreamsKept). c.args.at < length k.items) (sym c.self.view_is) c.requires in
    let goes = goes_on_from w.size x y t (rests_read w.size c.args.at ts x c.self.invariant.owned low c.index_mut.ensures.value) c.in-Some.ensures.some in
    subst (λ (k : StreamsKept). rest_at (map (track_meaning k.size) k.items) c.args.at ≡ Some (taken_meaning k.size t)) c.self.view_is (taken_was w.size c.args.at ts x y t low c.index_mut.ensures.value goes)

pub returns-in-Some-clause-items : goal.returns-in-Some-clause-items
returns-in-Some-clause-items c =
    let w = c.self.inside in
    let ts = w.tracks.items in
    let at = c.args.at in
    let x = c.index_mut.result.now in
    let y = c.take_next.new.track in
    let t = c.in-Some.taken in
    let low : at < length ts = subst (λ (k : StreamsKept). at < length k.items) (sym c.self.view_is) c.requires in
    let goes = goes_on_from w.size x y t (rests_read w.size at ts x c.self.invariant.owned low c.index_mut.ensures.value) c.in-Some.ensures.some in
    subst (λ (k : StreamsKept). map (track_meaning k.size) (set ts at y) ≡ set (map (track_meaning k.size) k.items) at (record (track_of (map (track_meaning k.size) k.items) at) { rest = rest_after (taken_meaning k.size t).entry (taken_meaning k.size t).message })) c.self.view_is
    (left_on w.size at ts x y (rest_after (taken_meaning w.size t).entry (taken_meaning w.size t).message) low c.index_mut.ensures.value goes.now)
