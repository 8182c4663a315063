use Rattle.std.proofs.Common.{◌∙◌, Option, None, map, set, refl, sym, ap}
use Rattle.sctp_send.specs.SenderKept.{Rest}
use Rattle.sctp_send.specs.SenderFields.{track_meaning}
use Rattle.sctp_send.specs.PartsKept.{StreamsKept}
use Rattle.sctp_send.specs.inner.Newcomers.{track_of}
use Rattle.sctp_send.specs.declared.kept.track.Taken.{Taken}
use Rattle.sctp_send.proofs.kept.TakenLemmas.{left_on, taken_last}
use Rattle.sctp_send.proofs.kept.streams.Streams.take_last.Goals as goal

pub returns-clause-items : goal.returns-clause-items
returns-clause-items c =
    let w = c.args.self.now in
    let at = c.args.at in
    let x = c.leave.result in
    let e = c.in_ok-ending.ending in
    let t : Taken = record { message = e.rest.message; fragment = e.rest.fragment; number = e.number } in
    let none = taken_last w.size x e.rest t (sym c.in_ok-ending.ensures.rest) c.leave.ensures.owned (c.requires.last x c.leave.ensures.before) refl refl in
    ap (λ (k : StreamsKept). map (track_meaning w.size) k.items) c.leave.ensures.after
    ∙ left_on w.size at w.items x (record x { rest = None }) None c.requires.within c.leave.ensures.before refl
    ∙ ap (λ (o : Option Rest). set (map (track_meaning w.size) w.items) at (record (track_of (map (track_meaning w.size) w.items) at) { rest = o })) (sym none)
