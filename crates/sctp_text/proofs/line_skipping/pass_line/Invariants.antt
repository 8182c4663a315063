use Rattle.std.proofs.Common.{◌≡◌, ℕ, ◌+◌, ◌-◌, ◌*◌, ◌≤◌, List, ◌++◌, length}
use Rattle.sctp_text.specs.declared.limits.TheConstants.{LONGEST_TEXT}
use Rattle.sctp_text.specs.TextLines.{IsOneLine}
use Rattle.sctp_text.proofs.line_skipping.pass_line.Given as goal

-- what was in the block and is read is what went of the line and the block
abbrev pub invariant-skipping : goal.invariant-skipping
invariant-skipping g l = record {
  within : l.given ≤ LONGEST_TEXT;
  bytes : (bytes line : List ℕ) × g.S.Source.Reads l.fn.source bytes l.source × IsOneLine line × (l.fn.block ++ bytes ≡ line ++ l.block)
      × (l.given ≡ l.fn.given + length line);
  failed : g.S.Source.failures l.source ≡ g.S.Source.failures l.fn.source;
}

abbrev pub decreases-skipping : goal.decreases-skipping
decreases-skipping g l = 2 * (LONGEST_TEXT - l.given) + (1 - length l.block)
