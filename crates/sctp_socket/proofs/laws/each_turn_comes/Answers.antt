use Rattle.sctp_socket.proofs.TurnLaws as laws
use Rattle.sctp_socket.proofs.laws.each_turn_comes.Goals as goal

pub returns : goal.returns
returns c = laws.each_turn_comes
