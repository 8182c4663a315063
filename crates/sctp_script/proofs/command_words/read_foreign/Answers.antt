use Rattle.std.proofs.Common.{◌≡◌, ℕ, List, [], length, ap, arith}
use Rattle.sctp_events.specs.Events.{BringsBytes}
use Rattle.sctp_events.specs.Events.{side_meaning}
use Rattle.sctp_script.specs.Grammar.{Acts}
use Rattle.sctp_script.proofs.FieldLemmas.{no_words}
use Rattle.sctp_script.proofs.command_words.read_foreign.Goals as goal

pub returns-in-Some-2 : goal.returns-in-Some-2
returns-in-Some-2 c =
    let left : c.next_word-2.new.self ≡ [] = no_words _ (omega (arith, c.requires, ap length c.next_word.ensures, ap length c.next_word-2.ensures)) in
    let side = side_meaning c.in-Some.side in (
      (side, (c.in-Some-2.bytes, tt)),
      (_, _, c.next_word.ensures, c.in-Some.ensures, (_, _, c.next_word-2.ensures, rw c.in-Some-2.is at c.in_ok-bytes.ensures, left)),
      tt,
      ap (λ (bytes : List ℕ). Acts (BringsBytes side bytes)) c.into_vec-bytes.ensures,
    )
