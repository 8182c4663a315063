use Rattle.std.proofs.Common.{◌≡◌, [], length, refl, ap, arith}
use Rattle.sctp_script.proofs.FieldLemmas.{no_words}
use Rattle.sctp_script.proofs.command_words.read_at.Goals as goal

pub returns : goal.returns
returns c =
    let left : c.next_word.new.self ≡ [] = no_words _ (omega (arith, c.requires, ap length c.next_word.ensures)) in
    ((c.in_ok-moment.moment, tt), (_, _, c.next_word.ensures, c.in_ok-moment.ensures, left), tt, refl)
