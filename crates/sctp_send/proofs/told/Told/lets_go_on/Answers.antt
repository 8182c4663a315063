use Rattle.std.proofs.Common.{◌≡◌, ◌∙◌, suc, ◌+◌, ◌%◌, ◌^◌, List, length, map, Some, true, false, refl, sym, ap, arith}
use Rattle.std.specs.Prelude.{nat_lt}
use Rattle.sctp_send.specs.SenderFields.{number_left, rest_meaning, track_meaning}
use Rattle.sctp_send.specs.inner.Newcomers.{has_rest, rest_at, track_of}
use Rattle.sctp_send.specs.inner.Stocking.{bare}
use Rattle.sctp_send.specs.declared.kept.message.Message.{Message as MessageFields}
use Rattle.sctp_send.specs.declared.kept.track.Track.{Track as TrackFields}
use Rattle.sctp_send.proofs.fill.NewMayLemmas.{more_read, window_read}
use Rattle.sctp_send.proofs.fill.ContinuedPut.{never_ended, continued_room, continued_few, continued_asked, continued_full}
use Rattle.sctp_send.proofs.told.Told.lets_go_on.Goals as goal

pub returns-in_default-clause-asked : goal.returns-in_default-clause-asked
returns-in_default-clause-asked g c = λ v p k room stands next.
    let n = c.args.self.now.fragment in
    absurd (never_ended g.F.Framing.format (bare c.args.self.now) v c.args.stock.now c.args.stream k next
    (c.in_default.ensures.rest n ∙ ap (λ (ts : List TrackFields). rest_at (map (track_meaning n) ts) c.args.stream) c.tracks.ensures))

pub returns-then-not-has_room-clause-asked : goal.returns-then-not-has_room-clause-asked
returns-then-not-has_room-clause-asked g c = λ v p k room stands next.
    let s = bare c.args.self.now in
    let d = c.args.stock.now in
    let r = c.in-Some.rest.now in
    let t = track_of (map (track_meaning s.fragment) d.streams.items) c.args.stream in
    let its : Some (rest_meaning s.fragment t r) ≡ rest_at (map (track_meaning s.fragment) d.streams.items) c.args.stream = rw c.tracks.ensures at (c.in-Some.ensures.rest s.fragment) in
    let space = continued_room g.F.Framing.format s v d r.message.value (number_left t r) r.fragment c.args.stream k stands next its in
    let full = c.has_room.ensures.none c.if-not-has_room.true in
    absurd (omega (arith, space, full))

pub returns-then-not-has_window-clause-asked : goal.returns-then-not-has_window-clause-asked
returns-then-not-has_window-clause-asked g c = λ v p k room stands next.
    let f = g.F.Framing.format in
    let s = bare c.args.self.now in
    let d = c.args.stock.now in
    let r = c.in-Some.rest.now in
    let t = track_of (map (track_meaning s.fragment) d.streams.items) c.args.stream in
    let its : Some (rest_meaning s.fragment t r) ≡ rest_at (map (track_meaning s.fragment) d.streams.items) c.args.stream = rw c.tracks.ensures at (c.in-Some.ensures.rest s.fragment) in
    let few = continued_few f s v d r.message.value (number_left t r) r.fragment c.args.stream k stands next its in
    let more = more_read r.fragment s.fragment s.fragment c.fragments_of.result c.deref-2.result.now r.message.value.bytes.items few c.fragments_of.ensures refl
    (c.deref-2.ensures.value ∙ ap (λ (m : MessageFields). m.bytes.items) c.deref.ensures) in
    let left = nat_lt ((r.fragment + 1) % 2 ^ 32) c.fragments_of.result in
    let window = window_read s d 1 c.args.stream left true c.has_window.result false (sym (ap has_rest its)) (c.has_window.ensures.fits s.fragment (sym c.requires.sized.tracks)) c.if-not-has_window.true in
    continued_full f s v d r.message.value (number_left t r) r.fragment c.args.stream k stands next its p left more window

pub returns-clause-asked : goal.returns-clause-asked
returns-clause-asked g c = λ v p k room stands next.
    let f = g.F.Framing.format in
    let s = bare c.args.self.now in
    let d = c.args.stock.now in
    let r = c.in-Some.rest.now in
    let t = track_of (map (track_meaning s.fragment) d.streams.items) c.args.stream in
    let its : Some (rest_meaning s.fragment t r) ≡ rest_at (map (track_meaning s.fragment) d.streams.items) c.args.stream = rw c.tracks.ensures at (c.in-Some.ensures.rest s.fragment) in
    let few = continued_few f s v d r.message.value (number_left t r) r.fragment c.args.stream k stands next its in
    let more = more_read r.fragment s.fragment s.fragment c.fragments_of.result c.deref-2.result.now r.message.value.bytes.items few c.fragments_of.ensures refl
    (c.deref-2.ensures.value ∙ ap (λ (m : MessageFields). m.bytes.items) c.deref.ensures) in
    let left = nat_lt ((r.fragment + 1) % 2 ^ 32) c.fragments_of.result in
    let window = window_read s d 1 c.args.stream left true c.has_window.result true (sym (ap has_rest its)) (c.has_window.ensures.fits s.fragment (sym c.requires.sized.tracks)) c.if-not-has_window.false in
    let on = rw c.deref-3.ensures at (c.is_let_in.ensures.asked v p (number_left t r) (suc (s.cum + length d.outstanding.items)) k room) in
    continued_asked f s v d r.message.value (number_left t r) r.fragment c.args.stream k stands next its p left c.is_let_in.result more window (sym on)
