use Rattle.std.proofs.Common.{◌≡◌, ◌∙◌, ◌<◌, true, length, ap, arith}
use Rattle.std.proofs.lemmas.Grind.{common_steps}
use Rattle.sctp_model.specs.end.EndView.{Open, format_for, format_of}
use Rattle.sctp_model.specs.end.Acting.{same_format}
use Rattle.sctp_association.specs.StageMeans.{tags_meaning}
use Rattle.sctp_endpoint.proofs.RowLemmas.{formats_same}
use Rattle.sctp_endpoint.proofs.pieces.is_expected.Goals as goal

pub returns : goal.returns
returns c = λ v stands is.
    let t = tags_meaning c.in-Some.opened.tags in
    let some : 0 < length c.args.piece.now.bytes.now = grind (arith, common_steps) in
    let same : same_format (format_for c.args.interleaved) (format_of v) ≡ true
    = rw (← c.is_interleaved.ensures v stands) (formats_same c.is_interleaved.result c.args.interleaved (grind (arith, common_steps))) in
    record {
      tags = t;
      phase = c.in-Some.ensures v stands ∙ ap (Open t) (c.is_established.ensures c.if-not-is_established.false);
      some = some;
      same = same;
    }
