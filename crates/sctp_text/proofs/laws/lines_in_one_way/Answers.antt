use Rattle.sctp_text.proofs.LineSplits.{split_in_one_way, is_lines}
use Rattle.sctp_text.proofs.laws.lines_in_one_way.Goals as goal

pub returns : goal.returns
returns c = record { split = split_in_one_way; exist = is_lines }
