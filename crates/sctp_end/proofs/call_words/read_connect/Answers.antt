use Rattle.std.proofs.Common.{◌≡◌, None, [], length, refl, ap, arith}
use Rattle.std.proofs.lemmas.Grind.{common_steps}
use Rattle.sctp_end.proofs.CommandLemmas.{no_words}
use Rattle.sctp_end.proofs.FieldLemmas.{no_draw}
use Rattle.sctp_end.proofs.call_words.read_connect.Goals as goal

pub returns-in_err-draw : goal.returns-in_err-draw
returns-in_err-draw c =
    let none : c.from_residual.result ≡ None = grind (arith, common_steps) in
    rw none (λ call says. no_draw _ _ _ _ _ c.next_word.ensures c.next_word-2.ensures c.in_err-draw.ensures says.0 says.1)

pub returns : goal.returns
returns c =
    let left : c.next_word-2.new.self ≡ [] = no_words _ (omega (arith, c.requires, ap length c.next_word.ensures, ap length c.next_word-2.ensures)) in
    let draw = c.in_ok-draw.ensures in
    ((c.in_ok-draw.draw.tag, (c.in_ok-draw.draw.tsn, tt)), (_, _, c.next_word.ensures, draw.0, (_, _, c.next_word-2.ensures, draw.1, left)), refl)
