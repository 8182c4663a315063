use Rattle.std.proofs.Common.{refl, arith}
use Rattle.std.proofs.lemmas.Bool.Decides.{nat_tests}
use Rattle.sctp_endpoint.specs.EndpointStands.{EndpointStands}
use Rattle.sctp_c.proofs.messages.sctp_endpoint_take.Goals as goal

pub returns-clause-narrow : goal.returns-clause-narrow
returns-clause-narrow c = λ v h holds waits small.
    let stands : EndpointStands c.lend-end.result.now v = rw c.lend-end.ensures.value at holds in
    let answer = c.tell_next-answer.ensures.narrow v h stands waits small in
    let wanted = answer.0 in
    let put = c.if-answer-ne-OK.false in
    absurd (grind (arith, nat_tests))

pub returns-clause-taken : goal.returns-clause-taken
returns-clause-taken c = λ v h holds waits large.
    let stands : EndpointStands c.lend-end.result.now v = rw c.lend-end.ensures.value at holds in
    let step = c.drop_next.ensures.step v h stands waits in
    let told = c.tell_next-answer.ensures.told v h stands waits large in (
      refl,
      record {
        after = step.0;
        takes = step.1;
        step = step.2;
        notes = c.drop_next.ensures.notes v h stands waits;
        told = told.1;
      },
    )

pub returns-then-answer-ne-OK-clause-narrow : goal.returns-then-answer-ne-OK-clause-narrow
returns-then-answer-ne-OK-clause-narrow c = λ v h holds waits small.
    let stands : EndpointStands c.lend-end.result.now v = rw c.lend-end.ensures.value at holds in
    let told = c.tell_next-answer.ensures.narrow v h stands waits small in
    (told.0, told.1, stands)
