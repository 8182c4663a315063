use Rattle.sctp_model.proofs.receiver.HeldBytes.{fresh_fits, piece_fits, forward_fits, take_fits, sent_fits}
use Rattle.sctp_safety.proofs.rest.no_call_passes_the_buffer.Goals as goal

pub returns-clause-begins : goal.returns-clause-begins
returns-clause-begins c = fresh_fits

pub returns-clause-piece : goal.returns-clause-piece
returns-clause-piece c = piece_fits

pub returns-clause-forward : goal.returns-clause-forward
returns-clause-forward c = forward_fits

pub returns-clause-take : goal.returns-clause-take
returns-clause-take c = take_fits

pub returns-clause-sent : goal.returns-clause-sent
returns-clause-sent c = sent_fits
