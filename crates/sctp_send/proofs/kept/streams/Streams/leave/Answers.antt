use Rattle.std.proofs.Common.{◌∙◌, List, get_or, set, ap}
use Rattle.sctp_send.specs.declared.kept.track.Track.{Track}
use Rattle.sctp_send.proofs.abandon.TrackLemmas.{same_read}
use Rattle.sctp_send.proofs.kept.streams.Streams.leave.Goals as goal

pub returns-clause-after : goal.returns-clause-after
returns-clause-after c =
    let w = c.args.self.now in
    let x = c.index-tracks-at.result in
    let read = c.index-tracks-at.is ∙ ap (λ (ts : List Track). get_or ts c.args.at x) c.tracks.ensures in
    c.replace.ensures.after ∙ ap (λ (t : Track). record w { items = set w.items c.args.at (record t { rest = c.args.rest }) }) (same_read w.items c.args.at x c.replace.result c.requires.within read c.replace.ensures.before)
