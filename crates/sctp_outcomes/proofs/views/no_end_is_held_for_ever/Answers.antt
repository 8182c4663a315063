use Rattle.sctp_outcomes.proofs.HeldRuns.{none_is_held_for_ever}
use Rattle.sctp_outcomes.proofs.views.no_end_is_held_for_ever.Goals as goal

pub returns : goal.returns
returns c = none_is_held_for_ever
