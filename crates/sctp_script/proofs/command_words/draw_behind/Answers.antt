use Rattle.std.proofs.Common.{◌≡◌, [], length, ap, arith}
use Rattle.sctp_script.proofs.FieldLemmas.{no_words}
use Rattle.sctp_script.proofs.SpellLemmas.{draw_said}
use Rattle.sctp_script.proofs.command_words.draw_behind.Goals as goal

pub returns : goal.returns
returns c =
    let left : c.next_word-tsn.new.self ≡ [] = no_words _ (omega (arith, c.requires, ap length c.next_word-tag.ensures, ap length c.next_word-tsn.ensures)) in
    draw_said c.read_draw.result _ _ _ _ _ c.next_word-tag.ensures c.next_word-tsn.ensures left c.read_draw.ensures
