use Rattle.sctp_socket.proofs.UnmovedLaws as laws
use Rattle.sctp_socket.proofs.UnkeptLaws as kept
use Rattle.sctp_socket.proofs.laws.listeners_are_values.Goals as goal

pub returns-clause-anew : goal.returns-clause-anew
returns-clause-anew c = laws.listeners_are_anew

pub returns-clause-inits : goal.returns-clause-inits
returns-clause-inits c = laws.inits_are_dropped

pub returns-clause-unkept : goal.returns-clause-unkept
returns-clause-unkept c = kept.inits_open_nothing
