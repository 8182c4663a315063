use Rattle.sctp_socket.proofs.socket.Socket.end_hears.Goals as goal

pub returns-in-Some : goal.returns-in-Some
returns-in-Some g c = λ v p stands reads. rw c.in-Some.is (c.end_at_hears.ensures v p stands reads)
