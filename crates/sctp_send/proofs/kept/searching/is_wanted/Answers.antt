use Rattle.sctp_send.proofs.kept.searching.is_wanted.Goals as goal

pub returns-then-again : goal.returns-then-again
returns-then-again c = λ size. rw c.if-again.true (c.is_repeat.ensures size)

pub returns-else-again : goal.returns-else-again
returns-else-again c = λ size. rw c.if-again.false (c.is_first_sending.ensures size)
