use Rattle.std.proofs.Common.{refl, subst}
use Rattle.sctp_terms.specs.PlainOptions.{HasPlainOptions}
use Rattle.sctp_end.specs.Performing.{TakesOne, TakesNone, WantsMemory}
use Rattle.sctp_end.proofs.SessionLemmas.{counted_as, took, nothing_waits}
use Rattle.sctp_end.proofs.session.Session.take.Goals as goal

pub returns-in-Ok-Some : goal.returns-in-Ok-Some
returns-in-Ok-Some c = λ v stands.
    let told = rw c.in-Ok-Some.field-0-is at (c.in-Ok-Some.ensures v stands) in
    let taken = c.take-taken.ensures.step v stands in
    (taken.0, counted_as _ _ _ _ _ _ c.take-taken.ensures.counts (TakesOne _ told.0 _ _ (took v _ _ taken.0 told.0 told.1 taken.1) told.2), taken.2)

pub returns-in-Ok-None : goal.returns-in-Ok-None
returns-in-Ok-None c = λ v stands.
    let options : HasPlainOptions v.configuration = subst HasPlainOptions (c.config.ensures v stands) c.limit-limit.ensures.plain in
    (v, TakesNone _ _ (nothing_waits v _ options (rw c.in-Ok-None.field-0-is at (c.in-Ok-None.ensures v stands))), stands)

pub returns-in-Err : goal.returns-in-Err
returns-in-Err c = λ v stands. (v, WantsMemory _ refl, stands)
