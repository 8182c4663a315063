use Rattle.sctp_outcomes.proofs.sender.TurnCases.{turn_is_computed}
use Rattle.sctp_outcomes.proofs.sender.WishTold.{next_index_is_computed, next_wish_is_computed}
use Rattle.sctp_outcomes.proofs.sender_calls.next_wishes_are_computed.Goals as goal

pub returns-clause-turn : goal.returns-clause-turn
returns-clause-turn c = turn_is_computed

pub returns-clause-index : goal.returns-clause-index
returns-clause-index c = next_index_is_computed

pub returns-clause-wish : goal.returns-clause-wish
returns-clause-wish c = next_wish_is_computed
