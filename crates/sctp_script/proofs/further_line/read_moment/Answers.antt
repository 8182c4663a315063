use Rattle.std.proofs.Common.{◌≡◌, [], length, refl, ap, arith}
use Rattle.sctp_events.specs.Events.{side_meaning}
use Rattle.sctp_script.proofs.FieldLemmas.{no_words}
use Rattle.sctp_script.proofs.further_line.read_moment.Goals as goal

pub returns : goal.returns
returns c =
    let left : c.next_word.new.self ≡ [] = no_words _ (omega (arith, c.requires, ap length c.next_word.ensures)) in
    ((side_meaning c.in_ok-side.side, tt), (_, _, c.next_word.ensures, c.in_ok-side.ensures, left), refl)
