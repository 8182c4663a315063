use Rattle.std.proofs.Common.{◌≤◌, inl, inr, arith}
use Rattle.sctp_recv.proofs.receiver.Receiver.next_readable.Goals as goal

pub returns-then-from-lowest : goal.returns-then-from-lowest
returns-then-from-lowest g c = λ v w.
    let lowest = c.in_ok-lowest.ensures v w in
    inl (record { above = omega (arith, c.if-from-lowest.true); some = lowest.some; first = λ q le lt. lowest.first q (omega arith) lt })

pub returns-in-Some : goal.returns-in-Some
returns-in-Some g c = λ v w. inl (c.in-Some.ensures v w)

pub returns-in-None : goal.returns-in-None
returns-in-None g c = λ v w. inr (c.in-None.ensures v w, c.in_ok-lowest.ensures v w)
