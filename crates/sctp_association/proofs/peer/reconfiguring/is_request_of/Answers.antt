use Rattle.sctp_association.proofs.ResetLemmas.{asked_number, asked_none}
use Rattle.sctp_association.proofs.peer.reconfiguring.is_request_of.Goals as goal

pub returns-in-Some : goal.returns-in-Some
returns-in-Some c = λ f s r stands. asked_number s c.args.number _ _ _ (c.in-Some.ensures f s r stands)

pub returns-in-None : goal.returns-in-None
returns-in-None c = λ f s r stands. asked_none s c.args.number (c.in-None.ensures f s r stands)
