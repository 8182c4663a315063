use Rattle.std.proofs.Common.{◌≡◌, ℕ, zero, suc, List, ◌∷◌, map, refl, ap}
use Rattle.std.specs.Prelude.{replicate}
use Rattle.sctp_send.specs.SenderKept.{Track}
use Rattle.sctp_send.specs.SenderFields.{track_meaning}
use Rattle.sctp_send.specs.SenderStands.{StandsFor}
use Rattle.sctp_send.specs.declared.kept.track.Track.{Track as TrackFields}
use Rattle.sctp_send.proofs.TimerLemmas.{keeps_fresh}
use Rattle.sctp_send.proofs.sender.Sender.new.Goals as goal

map-replicate : (size n : ℕ) (t : TrackFields) → map (track_meaning size) (replicate n t) ≡ replicate n (track_meaning size t)
map-replicate size zero t = refl
map-replicate size (suc n) t = ap (λ (ts : List Track). track_meaning size t ∷ ts) (map-replicate size n t)

pub returns : goal.returns
unfolding StandsFor
returns g c =
    rw (c.new-2.ensures.items, c.new-2.ensures.ended, c.new-2.ensures.abandoned, c.none.ensures, c.new-3.ensures.passed, c.new-3.ensures.moments, c.new-3.ensures.asleep, c.new-4.ensures.items, c.new-6.ensures.items, c.new-7.ensures.items, c.in_ok-all_streams.ensures.items, map-replicate)
    (keeps_fresh g.F.Framing.format c.args.initial_tsn c.args.streams c.args.fragment c.args.peer_rwnd c.new-6.result.capacity c.args.partial c.requires.some)
