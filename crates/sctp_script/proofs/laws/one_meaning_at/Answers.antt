use Rattle.sctp_script.proofs.PlacedLemmas.{says_one_at}
use Rattle.sctp_script.proofs.laws.one_meaning_at.Goals as goal

pub returns : goal.returns
returns c =
    let say = c.words_say_one_value.ensures in
    λ place line. says_one_at (record { numbers = say.numbers; bytes = say.bytes }) place line
