use Rattle.sctp_outcomes.proofs.UnresetRuns.{no_reset_unasked}
use Rattle.sctp_outcomes.proofs.views.no_end_resets_unasked.Goals as goal

pub returns : goal.returns
returns c = no_reset_unasked
