use Rattle.sctp_socket.proofs.ProductLaws as laws
use Rattle.sctp_socket.proofs.laws.each_is_alone.Goals as goal

pub returns : goal.returns
returns c = laws.each_is_alone
