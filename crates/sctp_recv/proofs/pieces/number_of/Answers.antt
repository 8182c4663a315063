use Rattle.std.proofs.Common.{sym, ◌∙◌, ap}
use Rattle.sctp_values.specs.Meanings.{kind_meaning}
use Rattle.sctp_recv.specs.Fields.{stream_of}
use Rattle.sctp_recv.specs.ReceiverKept.{near_of}
use Rattle.sctp_recv.specs.Resets.{resets_in}
use Rattle.sctp_recv.proofs.AnswerLemmas.{near_small}
use Rattle.sctp_recv.proofs.NumberLemmas.{read_unreset}
use Rattle.sctp_recv.proofs.pieces.number_of.Goals as goal

pub returns-in-None-clause-number : goal.returns-in-None-clause-number
returns-in-None-clause-number g c =
    let f = g.F.Framing.format in
    let k = kind_meaning c.args.kind in
    let wire = c.args.piece.now.number in
    let near = near_of (stream_of c.args.known.now) k in
    let is = c.number.ensures.number in (
      read_unreset f k c.number.result (resets_in c.args.resets.now) c.args.piece.now.stream wire near (ap resets_in c.in-None.is) is,
      λ n own. near_small f k wire near n (sym is ∙ own),
    )
