use Rattle.std.proofs.Common.{refl}
use Rattle.std.proofs.lemmas.Result.{err_from_is_err_and}
use Rattle.sctp_model.specs.end.Closing.{rested}
use Rattle.sctp_model.specs.end.PeerFaults.{Unnoted}
use Rattle.sctp_endpoint.specs.inner.Acted.{notes_meaning}
use Rattle.sctp_endpoint.proofs.ChunksInTurn.{goes_on}
use Rattle.sctp_endpoint.proofs.noting.act_sack.Goals as goal

pub returns : goal.returns
returns c = λ tag v stands.
    let heard = c.in_ok-counts.ensures.heard v stands c.if-not-branch.false in
    (rested heard.0, c.advance_closing.ensures heard.0 heard.2, goes_on tag v heard.0 (notes_meaning c.args.notes.now) Unnoted _ heard.1)

pub returns-in_err-counts : goal.returns-in_err-counts
returns-in_err-counts c = λ tag v stands.
    let p = err_from_is_err_and c.from_residual.result c.from_residual.ensures.1 in
    rw p.1 (c.in_err-counts.ensures.refused v stands, refl, tt)
