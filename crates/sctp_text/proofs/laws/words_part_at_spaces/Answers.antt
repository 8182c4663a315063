use Rattle.sctp_text.proofs.WordLemmas.{its_words}
use Rattle.sctp_text.proofs.laws.words_part_at_spaces.Goals as goal

pub returns : goal.returns
returns c = λ line. its_words line
