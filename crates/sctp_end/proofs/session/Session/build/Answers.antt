use Rattle.std.proofs.Common.{refl}
use Rattle.sctp_end.specs.Performing.{BuildsNone, WantsMemory}
use Rattle.sctp_end.proofs.SessionLemmas.{counted_as, built_one}
use Rattle.sctp_end.proofs.session.Session.build.Goals as goal

pub returns-in-Ok-Some : goal.returns-in-Ok-Some
returns-in-Ok-Some c = λ v stands.
    built_one _ _ _ _ (rw c.in-Ok-Some.field-0-is at (c.in-Ok-Some.ensures.counts v stands)) c.new.ensures

pub returns-in-Ok-None : goal.returns-in-Ok-None
returns-in-Ok-None c = λ v stands.
    let none = rw c.in-Ok-None.field-0-is at (c.in-Ok-None.ensures.step v stands) in
    let counts = rw c.in-Ok-None.field-0-is at (c.in-Ok-None.ensures.counts v stands) in
    (none.0, counted_as _ _ _ _ _ _ counts (BuildsNone _ none.1), none.2)

pub returns : goal.returns
returns c = λ v stands.
    (v, counted_as _ _ _ _ _ _ (c.in-Err.ensures.counts v stands) (WantsMemory _ refl), c.in-Err.ensures.refused v stands)
