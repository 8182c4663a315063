use Rattle.sctp_outcomes.proofs.receiver.LawLemmas.{wholes_are_all, number_is_computed, number_is_one, with_is_computed, with_is_one}
use Rattle.sctp_outcomes.proofs.receiver_steps.wholes_are_computed.Goals as goal

pub returns-clause-all : goal.returns-clause-all
returns-clause-all c = wholes_are_all

pub returns-clause-number : goal.returns-clause-number
returns-clause-number c = number_is_computed

pub returns-clause-only_number : goal.returns-clause-only_number
returns-clause-only_number c = number_is_one

pub returns-clause-chunk : goal.returns-clause-chunk
returns-clause-chunk c = with_is_computed

pub returns-clause-only_chunk : goal.returns-clause-only_chunk
returns-clause-only_chunk c = with_is_one
