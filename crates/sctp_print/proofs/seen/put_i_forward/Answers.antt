use Rattle.std.proofs.Common.{◌≡◌, ◌∙◌, ap}
use Rattle.sctp_print.specs.ChunkLines.{joined, kind_skip_word}
use Rattle.sctp_print.specs.Commas.{behind_comma}
use Rattle.sctp_print.proofs.CommaLemmas.{joined_is}
use Rattle.sctp_print.proofs.seen.put_i_forward.Goals as goal

pub returns-clause-put : goal.returns-clause-put
returns-clause-put c =
    let skips = c.args.forward.now.skips.skips in
    let same : c.behind_comma.result.now ≡ joined kind_skip_word skips =
    c.behind_comma.ensures ∙ (ap behind_comma (c.deref.ensures.value ∙ c.in_ok-skips.ensures) ∙ joined_is kind_skip_word skips) in
    rw (← same, ← c.from.ensures) c.put_line.ensures.put
