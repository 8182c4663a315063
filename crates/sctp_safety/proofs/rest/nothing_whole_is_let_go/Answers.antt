use Rattle.sctp_safety.proofs.receiving.RestLaws.{filter_words}
use Rattle.sctp_safety.proofs.rest.nothing_whole_is_let_go.Goals as goal

pub returns : goal.returns
returns c = filter_words
