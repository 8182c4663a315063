use Rattle.sctp_text.proofs.SkipLemmas.{is_skipped}
use Rattle.sctp_text.proofs.laws.skipped_lines_count.Goals as goal

pub returns : goal.returns
returns c = is_skipped
