use Rattle.sctp_endpoint.proofs.arriving.give_up.Goals as goal

pub returns-in-None : goal.returns-in-None
returns-in-None c = λ v stands. rw c.in-None.is stands

pub returns-in-Some : goal.returns-in-Some
returns-in-Some c = λ v stands. rw c.in-Some.is (c.give_up_missed.ensures v stands)
