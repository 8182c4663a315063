use Rattle.sctp_safety.proofs.moves.PlacedAlways.{placed_always as it}
use Rattle.sctp_safety.proofs.safety.each_message_is_placed.Goals as goal

pub returns : goal.returns
returns c = it
