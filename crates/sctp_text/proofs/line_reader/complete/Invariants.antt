use Rattle.std.proofs.Common.{◌≡◌, ℕ, ◌+◌, ◌-◌, ◌⊎◌, List, ◌++◌, length}
use Rattle.sctp_text.specs.declared.block.TheConstants.{BLOCK}
use Rattle.sctp_text.specs.TextLines.{MayBegin, IsReadFor}
use Rattle.sctp_text.specs.declared.limits.TheConstants.{LONGEST_LINE}
use Rattle.sctp_text.proofs.line_reader.complete.Given as goal

-- what was held and is read is the line so far and the block; nothing was read, or what was held may begin the line
abbrev pub invariant-reading : goal.invariant-reading
invariant-reading g l = record {
  begun : MayBegin l.given l.line.items;
  bytes : (bytes : List ℕ) × g.S.Source.Reads l.fn.source bytes l.source × IsReadFor l.given (l.fn.line.items ++ l.fn.block) bytes
      × (l.fn.line.items ++ l.fn.block ++ bytes ≡ l.line.items ++ l.block);
  failed : g.S.Source.failures l.source ≡ g.S.Source.failures l.fn.source;
  unread : ((l.source ≡ l.fn.source) × (l.line.items ++ l.block ≡ l.fn.line.items ++ l.fn.block)) ⊎ MayBegin l.given (l.fn.line.items ++ l.fn.block);
}

abbrev pub decreases-reading : goal.decreases-reading
decreases-reading g l = LONGEST_LINE + BLOCK + 1 - (length l.line.items + length l.block)
