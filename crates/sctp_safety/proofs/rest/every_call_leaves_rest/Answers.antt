use Rattle.sctp_model.proofs.receiver.AtRest.{fresh_at_rest, piece_at_rest, take_at_rest, sent_at_rest}
use Rattle.sctp_model.proofs.receiver.ForwardAtRest.{forward_at_rest}
use Rattle.sctp_safety.proofs.rest.every_call_leaves_rest.Goals as goal

pub returns-clause-begins : goal.returns-clause-begins
returns-clause-begins c = fresh_at_rest

pub returns-clause-piece : goal.returns-clause-piece
returns-clause-piece c = piece_at_rest

pub returns-clause-forward : goal.returns-clause-forward
returns-clause-forward c = forward_at_rest

pub returns-clause-take : goal.returns-clause-take
returns-clause-take c = take_at_rest

pub returns-clause-sent : goal.returns-clause-sent
returns-clause-sent c = sent_at_rest
