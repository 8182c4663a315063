use Rattle.std.proofs.Common.{◌∙◌, ap, sym}
use Rattle.std.proofs.lemmas.Bool.{false≢true}
use Rattle.sctp_model.specs.end.EndView.{Open}
use Rattle.sctp_model.specs.end.Closing.{hears, takes_acknowledgements}
use Rattle.sctp_model.specs.end.Acting.{SackStale, SackCounts, sack_heard}
use Rattle.sctp_wire.specs.ChunkTree.{sack_meaning}
use Rattle.sctp_association.specs.StageMeans.{tags_meaning}
use Rattle.sctp_endpoint.proofs.RowLemmas.{on_err}
use Rattle.sctp_endpoint.proofs.sacks.counts.Goals as goal

pub returns-in-Ok-clause-heard : goal.returns-in-Ok-clause-heard
returns-in-Ok-clause-heard c = λ v stands is.
    let phase = c.in-Some.ensures v stands in
    let stage = c.is_established.ensures c.if-not-is_established.false in
    let heard = ap (hears takes_acknowledgements) (phase ∙ ap (Open (tags_meaning c.in-Some.opened.tags)) stage) in (
      sack_heard v (sack_meaning c.args.sack.now),
      SackCounts heard (sym (rw c.in-Ok.is at c.in_ok-hear_sack.ensures.answer v _ _ stands phase)),
      rw c.in-Ok.is at c.in_ok-hear_sack.ensures.step v _ _ stands phase,
    )

pub returns-in-Err-Stale-clause-heard : goal.returns-in-Err-Stale-clause-heard
returns-in-Err-Stale-clause-heard c = λ v stands is.
    let phase = c.in-Some.ensures v stands in
    let stage = c.is_established.ensures c.if-not-is_established.false in
    let heard = ap (hears takes_acknowledgements) (phase ∙ ap (Open (tags_meaning c.in-Some.opened.tags)) stage) in (
      v,
      SackStale heard (sym (rw (c.in-Err-Stale.is, c.in-Err-Stale.field-0-is) at c.in_ok-hear_sack.ensures.answer v _ _ stands phase)),
      rw c.in-Err-Stale.is at c.in_ok-hear_sack.ensures.refused v _ _ stands phase,
    )

pub returns-in-Err : goal.returns-in-Err
returns-in-Err c = record {
  heard = λ v stands is. absurd (false≢true is);
  left = λ v stands is. rw c.in-Err.is at c.in_ok-hear_sack.ensures.refused v _ _ stands (c.in-Some.ensures v stands);
  refused = λ v stands. tt;
}

pub returns-in_err-hear_sack-clause-refused : goal.returns-in_err-hear_sack-clause-refused
returns-in_err-hear_sack-clause-refused c = λ v stands. on_err _ _ (c.in_err-hear_sack.ensures.memory v _ _ stands (c.in-Some.ensures v stands))
