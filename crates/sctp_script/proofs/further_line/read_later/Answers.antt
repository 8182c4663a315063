use Rattle.std.proofs.Common.{◌≡◌, [], length, refl, ap, arith}
use Rattle.sctp_events.specs.Events.{side_meaning}
use Rattle.sctp_script.proofs.FieldLemmas.{no_words}
use Rattle.sctp_script.proofs.further_line.read_later.Goals as goal

pub returns : goal.returns
returns c =
    let left : c.next_word-2.new.self ≡ [] = no_words _ (omega (arith, c.requires, ap length c.next_word.ensures, ap length c.next_word-2.ensures)) in
    ((side_meaning c.in_ok-side.side, (c.in_ok-moment.moment, tt)), (_, _, c.next_word.ensures, c.in_ok-side.ensures, (_, _, c.next_word-2.ensures, c.in_ok-moment.ensures, left)), refl)
