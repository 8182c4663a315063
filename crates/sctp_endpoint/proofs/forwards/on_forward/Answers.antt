use Rattle.std.proofs.Common.{◌∙◌, false, sym}
use Rattle.sctp_model.specs.end.EndView.{AbortedHere, EndView}
use Rattle.sctp_model.specs.end.Clock.{closed}
use Rattle.sctp_model.specs.end.Closing.{takes_data}
use Rattle.sctp_model.specs.end.PeerFaults.{packet_to, abort_for, violation}
use Rattle.sctp_model.specs.end.Acting.{ForwardNotHeard, WrongKind, IsBad, IsOld, ForwardComes}
use Rattle.sctp_association.specs.StageMeans.{tags_meaning, stage_meaning}
use Rattle.sctp_endpoint.proofs.RowLemmas.{hears_by, on_err, receiver_same}
use Rattle.sctp_endpoint.proofs.forwards.on_forward.Goals as goal

pub returns-in_default-clause-step : goal.returns-in_default-clause-step
returns-in_default-clause-step c = λ v stands. (ForwardNotHeard (c.in_default.ensures v stands takes_data), stands)

pub returns-then-not-takes_data-clause-step : goal.returns-then-not-takes_data-clause-step
returns-then-not-takes_data-clause-step c = λ v stands.
    (ForwardNotHeard (hears_by takes_data v.phase _ _ false c.takes_data.result (c.in-Some.ensures v stands) c.takes_data.ensures c.if-not-takes_data.true), stands)

pub returns-then-not-may_forward-clause-step : goal.returns-then-not-may_forward-clause-step
returns-then-not-may_forward-clause-step c = λ v stands.
    let t = tags_meaning c.in-Some.opened.tags in
    let takes = sym c.takes_data.ensures ∙ c.if-not-takes_data.false in
    let may = sym (c.may_forward.ensures v stands) ∙ c.if-not-may_forward.true in
    let made = c.in_ok-abort_with.ensures.step v stands in
    (closed AbortedHere v, packet_to v.configuration t.peer (abort_for violation), WrongKind t (stage_meaning c.in-Some.opened.stage) (c.in-Some.ensures v stands) takes may, made.0, c.in_ok-abort_with.ensures.within v stands, made.1)

pub returns-in_ok-abort_with-in-Bad-clause-step : goal.returns-in_ok-abort_with-in-Bad-clause-step
returns-in_ok-abort_with-in-Bad-clause-step c = λ v stands.
    let phase = c.in-Some.ensures v stands in
    let t = tags_meaning c.in-Some.opened.tags in
    let takes = sym c.takes_data.ensures ∙ c.if-not-takes_data.false in
    let may = sym (c.may_forward.ensures v stands) ∙ c.if-not-may_forward.false in
    let took = rw c.in-Bad.is at c.in_ok-hear_forward.ensures.step v _ _ stands phase in
    let same = receiver_same _ v took.0 took.1.leaves took.2 in
    let made = c.in_ok-abort_with-in-Bad.ensures.step v same in
    (closed AbortedHere v, packet_to v.configuration t.peer (abort_for violation), IsBad t (stage_meaning c.in-Some.opened.stage) took.0 phase takes may took.1, made.0, c.in_ok-abort_with-in-Bad.ensures.within v same, made.1)

pub returns-in_err-abort_with-in-Bad-clause-refused : goal.returns-in_err-abort_with-in-Bad-clause-refused
returns-in_err-abort_with-in-Bad-clause-refused c = λ v stands.
    let phase = c.in-Some.ensures v stands in
    let took = rw c.in-Bad.is at c.in_ok-hear_forward.ensures.step v _ _ stands phase in
    let same = receiver_same _ v took.0 took.1.leaves took.2 in
    on_err _ _ (c.in_err-abort_with-in-Bad.ensures.refused v same)

pub returns-in-OutOfDate-clause-step : goal.returns-in-OutOfDate-clause-step
returns-in-OutOfDate-clause-step c = λ v stands.
    let phase = c.in-Some.ensures v stands in
    let takes = sym c.takes_data.ensures ∙ c.if-not-takes_data.false in
    let may = sym (c.may_forward.ensures v stands) ∙ c.if-not-may_forward.false in
    let took = rw c.in-OutOfDate.is at c.in_ok-hear_forward.ensures.step v _ _ stands phase in
    let came : EndView = record v { receiver = took.0 } in
    rw c.acted.ensures (came, IsOld _ _ took.0 phase takes may took.1, took.2)

pub returns-in-Moved-clause-step : goal.returns-in-Moved-clause-step
returns-in-Moved-clause-step c = λ v stands.
    let phase = c.in-Some.ensures v stands in
    let takes = sym c.takes_data.ensures ∙ c.if-not-takes_data.false in
    let may = sym (c.may_forward.ensures v stands) ∙ c.if-not-may_forward.false in
    let took = rw c.in-Moved.is at c.in_ok-hear_forward.ensures.step v _ _ stands phase in
    let came : EndView = record v { receiver = took.0 } in
    rw c.acted-in-Moved.ensures (came, ForwardComes _ _ took.0 phase takes may took.1, took.2)
