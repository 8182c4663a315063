use Rattle.std.proofs.Common.{inl, inr, refl, []}
use Rattle.sctp_end.proofs.command_line.run_words.Goals as goal

-- the words set an end up, and it answered the lines
pub returns-in-Some-clause-ends : goal.returns-in-Some-clause-ends
returns-in-Some-clause-ends g c =
    let set = c.in-Some.ensures.exact in
    let ran = c.run.ensures.runs set.0 set.2 c.in-Some.ensures.counts in
    (ran.0, ran.1, [], ran.2, ran.3, g.met.F.Sink.writes_none _, inl (set.0, set.1, refl, ran.4))

pub returns-in-Some-clause-wrong : goal.returns-in-Some-clause-wrong
returns-in-Some-clause-wrong g c = λ wrong failed. absurd (wrong c.in-Some.ensures.exact.0 c.in-Some.ensures.exact.1)

-- they are wrong
pub returns-in-None-clause-ends : goal.returns-in-None-clause-ends
returns-in-None-clause-ends g c =
    let told = c.refuse.ensures.tells in
    ([], [], told.0, g.met.R.Source.reads_none _, g.met.W.Sink.writes_none _, told.1, inr (c.in-None.ensures.exact, refl, refl, told.2))

pub returns-in-None-clause-wrong : goal.returns-in-None-clause-wrong
returns-in-None-clause-wrong g c = λ wrong failed. c.refuse.ensures.failed failed
