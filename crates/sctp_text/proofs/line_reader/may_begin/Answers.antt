use Rattle.std.proofs.Common.{◌≡◌, ◌+◌, ◌-◌, ◌≤◌, length, arith}
use Rattle.std.proofs.lemmas.Bool.{leb-true, le-leb}
use Rattle.sctp_text.specs.declared.limits.TheConstants.{LONGEST_TEXT}
use Rattle.sctp_text.specs.TextLines.{first_length}
use Rattle.sctp_text.proofs.SourceLineLemmas.{begins_with_both, has_no_feed, fits_with_both}
use Rattle.sctp_text.proofs.line_reader.may_begin.Goals as goal

pub returns-then-line_length-rest : goal.returns-then-line_length-rest
returns-then-line_length-rest c = (
  λ h. cc,
  λ both. absurd (omega (arith, c.line_length.ensures.exact, has_no_feed c.args.given c.args.line.now c.args.rest.now c.requires.begun both)),
)

pub returns : goal.returns
returns c =
    let line = c.args.line.now in
    let rest = c.args.rest.now in
    let within = c.requires.begun.within in
    let whole : first_length rest ≡ length rest = omega (arith, c.line_length.ensures.exact, c.line_length.ensures.bound) in (
      λ h.
          let room : length line + length rest ≤ LONGEST_TEXT - c.args.given = leb-true _ _ h in
          begins_with_both c.args.given line rest c.requires.begun whole (omega arith) (omega (arith, within, room)),
      λ both. le-leb _ _ (omega (arith, within, fits_with_both c.args.given line rest both)),
    )
