use Rattle.sctp_outcomes.proofs.receiver.LawLemmas.{pieces_so}
use Rattle.sctp_outcomes.proofs.receiver.StepsLemmas.{piece_steps}
use Rattle.sctp_outcomes.proofs.receiver_steps.pieces_are_computed.Goals as goal

pub returns-clause-taken : goal.returns-clause-taken
returns-clause-taken c = piece_steps

pub returns-clause-only : goal.returns-clause-only
returns-clause-only c = pieces_so
