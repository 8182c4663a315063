use Rattle.std.proofs.Common.{◌≡◌, [], length, None, ap, arith, rules}
use Rattle.std.proofs.lemmas.Grind.{common_steps}
use Rattle.sctp_values.specs.Meanings.{kind_meaning}
use Rattle.sctp_events.specs.Events.{side_meaning}
use Rattle.sctp_words.specs.Fields.{IsNumber, IsUntil, kind_word}
use Rattle.sctp_script.specs.OutcomeText.{side_word}
use Rattle.sctp_script.specs.Grammar.{Acts}
use Rattle.sctp_script.proofs.FieldLemmas.{no_words}
use Rattle.sctp_script.proofs.SpellLemmas.{sends}
use Rattle.sctp_script.proofs.command_words.read_send.Goals as goal

pub returns-in-Some : goal.returns-in-Some
returns-in-Some c =
    let values = c.in-Some-Some-Some-Some-Some in
    let left : c.next_word-6.new.self ≡ [] = no_words _ (omega (arith, c.requires, ap length c.next_word.ensures, ap length c.next_word-2.ensures, ap length c.next_word-3.ensures, ap length c.next_word-4.ensures, ap length c.next_word-5.ensures, ap length c.next_word-6.ensures)) in
    let side : c.next_word.result.now ≡ side_word (side_meaning values.side) = grind (arith, common_steps) in
    let stream : IsNumber 16 c.next_word-2.result.now values.stream = search rules in
    let kind : c.next_word-3.result.now ≡ kind_word (kind_meaning values.kind) = search rules in
    let payload : IsNumber 32 c.next_word-4.result.now values.payload_id = search rules in
    let until : IsUntil c.next_word-5.result.now values.until = search rules in (
      (side_meaning values.side, (values.stream, (kind_meaning values.kind, (values.payload_id, (values.until, (c.in-Some.bytes, tt)))))),
      (
        _,
        _,
        c.next_word.ensures,
        side,
        (
          _,
          _,
          c.next_word-2.ensures,
          stream,
          (
            _,
            _,
            c.next_word-3.ensures,
            kind,
            (
              _,
              _,
              c.next_word-4.ensures,
              payload,
              (_, _, c.next_word-5.ensures, until, (_, _, c.next_word-6.ensures, rw c.in-Some.is at c.in_ok-bytes.ensures, left)),
            ),
          ),
        ),
      ),
      tt,
      ap Acts (sends _ _ _ _ None _ _ _ _ c.flag.ensures c.into_vec.ensures),
    )
