use Rattle.std.proofs.Common.{◌≡◌, ◌∙◌, ap}
use Rattle.sctp_model.specs.wire.Typed.{typed_in}
use Rattle.sctp_print.specs.ChunkLines.{joined, type_word}
use Rattle.sctp_print.specs.Commas.{behind_comma}
use Rattle.sctp_print.proofs.CommaLemmas.{joined_is}
use Rattle.sctp_print.proofs.control.put_error.Goals as goal

pub returns-clause-put : goal.returns-clause-put
returns-clause-put c =
    let same : c.behind_comma.result.now ≡ joined type_word (typed_in c.args.causes.now) =
    c.behind_comma.ensures ∙ (ap behind_comma (c.deref.ensures.value ∙ c.in_ok-kinds.ensures) ∙ joined_is type_word (typed_in c.args.causes.now)) in
    rw (← same) c.put_line.ensures.put
