use Rattle.std.proofs.Common.{◌≡◌, [], length, refl, ap, arith}
use Rattle.sctp_end.proofs.CommandLemmas.{no_words}
use Rattle.sctp_end.proofs.call_words.read_packet.Goals as goal

pub returns-in-Some : goal.returns-in-Some
returns-in-Some c =
    let left : c.next_word.new.self ≡ [] = no_words _ (omega (arith, c.requires, ap length c.next_word.ensures)) in
    ((c.in-Some.bytes, tt), (_, _, c.next_word.ensures, rw c.in-Some.is at c.in_ok-bytes.ensures, left), refl)
