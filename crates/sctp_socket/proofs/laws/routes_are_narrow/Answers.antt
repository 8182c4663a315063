use Rattle.sctp_socket.proofs.RoutingLaws as laws
use Rattle.sctp_socket.proofs.laws.routes_are_narrow.Goals as goal

pub returns-clause-inits : goal.returns-clause-inits
returns-clause-inits c = laws.inits_reach_no_end

pub returns-clause-echoes : goal.returns-clause-echoes
returns-clause-echoes c = laws.echoes_are_own

pub returns-clause-acks : goal.returns-clause-acks
returns-clause-acks c = laws.acks_reach_callers

pub returns-clause-apart : goal.returns-clause-apart
returns-clause-apart c = laws.apart_without
