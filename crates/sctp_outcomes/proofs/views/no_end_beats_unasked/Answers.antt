use Rattle.sctp_outcomes.proofs.BeatlessRuns.{no_beat_unasked}
use Rattle.sctp_outcomes.proofs.views.no_end_beats_unasked.Goals as goal

pub returns : goal.returns
returns c = no_beat_unasked
