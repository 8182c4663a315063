use Rattle.sctp_script.proofs.EachLineSays.{says_one_thing}
use Rattle.sctp_script.proofs.laws.one_meaning.Goals as goal

pub returns : goal.returns
returns c =
    let say = c.words_say_one_value.ensures in
    λ paired line. says_one_thing (record { numbers = say.numbers; bytes = say.bytes }) paired line
