use Rattle.std.proofs.Common.{◌∙◌, true, false, sym, inl, inr}
use Rattle.sctp_model.specs.end.EndView.{AbortedHere}
use Rattle.sctp_model.specs.end.Clock.{closed}
use Rattle.sctp_model.specs.end.Closing.{takes_acknowledgements}
use Rattle.sctp_model.specs.end.PeerFaults.{packet_to, abort_for, violation}
use Rattle.sctp_model.specs.end.Acting.{SackNotHeard, SackStale, SackWrong, SackCounts, sack_heard}
use Rattle.sctp_wire.specs.ChunkTree.{sack_meaning}
use Rattle.sctp_association.specs.StageMeans.{tags_meaning, stage_meaning}
use Rattle.sctp_endpoint.proofs.RowLemmas.{hears_by, on_err}
use Rattle.sctp_endpoint.proofs.sacks.on_sack.Goals as goal

pub returns-in_default-clause-step : goal.returns-in_default-clause-step
returns-in_default-clause-step c = λ v stands. (SackNotHeard (c.in_default.ensures v stands takes_acknowledgements), stands)

pub returns-then-not-takes_acknowledgements-clause-step : goal.returns-then-not-takes_acknowledgements-clause-step
returns-then-not-takes_acknowledgements-clause-step c = λ v stands. (
  SackNotHeard (hears_by takes_acknowledgements v.phase _ _ false c.takes_acknowledgements.result (c.in-Some.ensures v stands) c.takes_acknowledgements.ensures
      c.if-not-takes_acknowledgements.true),
  stands,
)

pub returns-in-Ok-clause-step : goal.returns-in-Ok-clause-step
returns-in-Ok-clause-step c = λ v stands.
    let phase = c.in-Some.ensures v stands in
    let hears = hears_by takes_acknowledgements v.phase _ _ true c.takes_acknowledgements.result phase c.takes_acknowledgements.ensures c.if-not-takes_acknowledgements.false in (
      sack_heard v (sack_meaning c.args.sack.now),
      SackCounts hears (sym (rw c.in-Ok.is at c.in_ok-hear_sack.ensures.answer v _ _ stands phase)),
      rw c.in-Ok.is at c.in_ok-hear_sack.ensures.step v _ _ stands phase,
    )

pub returns-in-Err-Stale-clause-step : goal.returns-in-Err-Stale-clause-step
returns-in-Err-Stale-clause-step c = λ v stands.
    let phase = c.in-Some.ensures v stands in
    let hears = hears_by takes_acknowledgements v.phase _ _ true c.takes_acknowledgements.result phase c.takes_acknowledgements.ensures c.if-not-takes_acknowledgements.false in (
      v,
      SackStale hears (sym (rw (c.in-Err-Stale.is, c.in-Err-Stale.field-0-is) at c.in_ok-hear_sack.ensures.answer v _ _ stands phase)),
      rw c.in-Err-Stale.is at c.in_ok-hear_sack.ensures.refused v _ _ stands phase,
    )

pub returns-in_ok-abort_with-in-Err-Beyond-clause-step : goal.returns-in_ok-abort_with-in-Err-Beyond-clause-step
returns-in_ok-abort_with-in-Err-Beyond-clause-step c = λ v stands.
    let phase = c.in-Some.ensures v stands in
    let t = tags_meaning c.in-Some.opened.tags in
    let takes = sym c.takes_acknowledgements.ensures ∙ c.if-not-takes_acknowledgements.false in
    let fault = sym (rw (c.in-Err-Beyond.is, c.in-Err-Beyond.field-0-is) at c.in_ok-hear_sack.ensures.answer v _ _ stands phase) in
    let same = rw c.in-Err-Beyond.is at c.in_ok-hear_sack.ensures.refused v _ _ stands phase in
    let made = c.in_ok-abort_with-in-Err-Beyond.ensures.step v same in (
      closed AbortedHere v,
      packet_to v.configuration t.peer (abort_for violation),
      SackWrong t (stage_meaning c.in-Some.opened.stage) phase takes (inl fault),
      made.0,
      c.in_ok-abort_with-in-Err-Beyond.ensures.within v same,
      made.1,
    )

pub returns-in_err-abort_with-in-Err-Beyond-clause-refused : goal.returns-in_err-abort_with-in-Err-Beyond-clause-refused
returns-in_err-abort_with-in-Err-Beyond-clause-refused c = λ v stands.
    let phase = c.in-Some.ensures v stands in
    on_err _ _ (c.in_err-abort_with-in-Err-Beyond.ensures.refused v (rw c.in-Err-Beyond.is at c.in_ok-hear_sack.ensures.refused v _ _ stands phase))

pub returns-in_ok-abort_with-in-Err-BadBlock-clause-step : goal.returns-in_ok-abort_with-in-Err-BadBlock-clause-step
returns-in_ok-abort_with-in-Err-BadBlock-clause-step c = λ v stands.
    let phase = c.in-Some.ensures v stands in
    let t = tags_meaning c.in-Some.opened.tags in
    let takes = sym c.takes_acknowledgements.ensures ∙ c.if-not-takes_acknowledgements.false in
    let fault = sym (rw (c.in-Err-BadBlock.is, c.in-Err-BadBlock.field-0-is) at c.in_ok-hear_sack.ensures.answer v _ _ stands phase) in
    let same = rw c.in-Err-BadBlock.is at c.in_ok-hear_sack.ensures.refused v _ _ stands phase in
    let made = c.in_ok-abort_with-in-Err-BadBlock.ensures.step v same in (
      closed AbortedHere v,
      packet_to v.configuration t.peer (abort_for violation),
      SackWrong t (stage_meaning c.in-Some.opened.stage) phase takes (inr fault),
      made.0,
      c.in_ok-abort_with-in-Err-BadBlock.ensures.within v same,
      made.1,
    )

pub returns-in_err-abort_with-in-Err-BadBlock-clause-refused : goal.returns-in_err-abort_with-in-Err-BadBlock-clause-refused
returns-in_err-abort_with-in-Err-BadBlock-clause-refused c = λ v stands.
    let phase = c.in-Some.ensures v stands in
    on_err _ _ (c.in_err-abort_with-in-Err-BadBlock.ensures.refused v (rw c.in-Err-BadBlock.is at c.in_ok-hear_sack.ensures.refused v _ _ stands phase))

pub returns-in_err-hear_sack-clause-refused : goal.returns-in_err-hear_sack-clause-refused
returns-in_err-hear_sack-clause-refused c = λ v stands. on_err _ _ (c.in_err-hear_sack.ensures.memory v _ _ stands (c.in-Some.ensures v stands))
