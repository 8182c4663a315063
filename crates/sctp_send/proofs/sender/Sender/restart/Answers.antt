use Rattle.std.proofs.Common.{◌≡◌, ◌<◌, List, length, refl, subst, sym, ap, ◌∙◌}
use Rattle.sctp_model.specs.messages.Format.{Lane}
use Rattle.sctp_send.specs.SenderKept.{Kept}
use Rattle.sctp_send.specs.SenderStands.{StandsFor, Keeps}
use Rattle.sctp_send.specs.inner.Resetting.{number_from}
use Rattle.sctp_send.specs.declared.kept.track.Track.{Track as TrackFields}
use Rattle.sctp_send.proofs.resetting.ResetKept.{keeps_resets, track_counts}
use Rattle.sctp_send.proofs.sender.Sender.restart.Goals as goal

pub returns : goal.returns
unfolding StandsFor
returns g c = λ v q stands waits.
    let s = c.self.inside in
    let f = g.F.Framing.format in
    let keeps = subst (λ (k : Kept). Keeps f k v) (sym c.self.view_is) stands in
    let counts : (l : Lane) → l.stream < v.streams → number_from c.tracks.result.now l ≡ length (v.plan.messages l) = λ l low. ap (λ (ts : List TrackFields). number_from ts l) c.tracks.ensures ∙ track_counts f _ v s.told.fragment s.parts.streams.items l keeps refl low in
    keeps_resets f _ v _ c.restart.new.self _ keeps (c.restart.ensures v.streams v.resets q (λ l. length (v.plan.messages l)) keeps.resets waits counts) tt
