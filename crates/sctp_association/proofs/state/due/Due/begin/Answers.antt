use Rattle.sctp_association.proofs.state.due.Due.begin.Goals as goal

pub returns : goal.returns
returns c = λ d t stands. c.acknowledge_cookie.ensures _ (c.turn.ensures d t stands)
