use Rattle.std.proofs.Common.{sym}
use Rattle.sctp_text.proofs.SourceLineLemmas.{none_found}
use Rattle.sctp_text.proofs.line_reader.line_length.Goals as goal

pub returns-in-None-clause-exact : goal.returns-in-None-clause-exact
returns-in-None-clause-exact c = none_found c.args.bytes.now (sym c.in-None.ensures)
