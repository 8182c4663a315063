use Rattle.std.proofs.Common.{◌≡◌, [], length, refl, ap, arith}
use Rattle.sctp_end.proofs.CommandLemmas.{no_words}
use Rattle.sctp_end.proofs.call_words.read_reset.Goals as goal

pub returns : goal.returns
returns c =
    let left : c.next_word.new.self ≡ [] = no_words _ (omega (arith, c.requires, ap length c.next_word.ensures)) in
    ((c.in_ok-stream.stream, tt), (_, _, c.next_word.ensures, c.in_ok-stream.ensures, left), refl)
