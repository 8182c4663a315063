use Rattle.sctp_text.proofs.LineSplits.{too_long-more}
use Rattle.sctp_text.proofs.laws.too_long_for_good.Goals as goal

pub returns : goal.returns
returns c = too_long-more
