use Rattle.sctp_text.proofs.WordValues.{says_one_number, says_one_list}
use Rattle.sctp_text.proofs.laws.words_say_one_value.Goals as goal

pub returns : goal.returns
returns c = record { numbers = says_one_number; bytes = says_one_list }
