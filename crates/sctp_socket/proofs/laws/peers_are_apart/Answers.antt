use Rattle.sctp_socket.proofs.PeerLaws as laws
use Rattle.sctp_socket.proofs.laws.peers_are_apart.Goals as goal

pub returns-clause-hosts : goal.returns-clause-hosts
returns-clause-hosts c = laws.hosts_are_their_bytes

pub returns-clause-texts : goal.returns-clause-texts
returns-clause-texts c = laws.texts_are_apart

pub returns-clause-stay : goal.returns-clause-stay
returns-clause-stay c = laws.hosts_stay
