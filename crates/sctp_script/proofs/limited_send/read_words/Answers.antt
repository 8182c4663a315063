use Rattle.std.proofs.Common.{◌≡◌, ℕ, Option, [], length, Some, ap, arith, rules}
use Rattle.std.proofs.lemmas.Grind.{common_steps}
use Rattle.sctp_values.specs.Meanings.{kind_meaning}
use Rattle.sctp_events.specs.Events.{side_meaning}
use Rattle.sctp_words.specs.Fields.{IsNumber, IsUntilLimit, kind_word}
use Rattle.sctp_script.specs.OutcomeText.{side_word}
use Rattle.sctp_script.proofs.LimitedLemmas.{fifth_says_none}
use Rattle.sctp_script.proofs.FieldLemmas.{no_words}
use Rattle.sctp_script.proofs.SpellLemmas.{sends}
use Rattle.sctp_script.proofs.limited_send.read_words.Goals as goal

pub returns-in_default-limit : goal.returns-in_default-limit
returns-in_default-limit c =
    let none : (until : Option ℕ) (n : ℕ) → IsUntilLimit c.next_word-5.result.now until (Some n) → ⊥ = c.in_default-limit.ensures in
    fifth_says_none _ _ _ _ _ _ _ _ _ _ _ c.next_word.ensures c.next_word-2.ensures c.next_word-3.ensures c.next_word-4.ensures c.next_word-5.ensures none

pub returns-in-Some-2 : goal.returns-in-Some-2
returns-in-Some-2 c =
    let values = c.in-Some-Some-Some-Some in
    let left : c.next_word-6.new.self ≡ [] = no_words _ (omega (arith, c.requires, ap length c.next_word.ensures, ap length c.next_word-2.ensures, ap length c.next_word-3.ensures, ap length c.next_word-4.ensures, ap length c.next_word-5.ensures, ap length c.next_word-6.ensures)) in
    let side : c.next_word.result.now ≡ side_word (side_meaning values.side) = grind (arith, common_steps) in
    let stream : IsNumber 16 c.next_word-2.result.now values.stream = search rules in
    let kind : c.next_word-3.result.now ≡ kind_word (kind_meaning values.kind) = search rules in
    let payload : IsNumber 32 c.next_word-4.result.now values.payload_id = search rules in
    let limit : IsUntilLimit c.next_word-5.result.now c.in-Some.until (Some c.in-Some.max_retransmits) = search rules in (
      (side_meaning values.side, (values.stream, (kind_meaning values.kind, (values.payload_id, ((c.in-Some.until, c.in-Some.max_retransmits), (c.in-Some-2.bytes, tt)))))),
      (
        _,
        _,
        c.next_word.ensures,
        side,
        (
          _,
          _,
          c.next_word-2.ensures,
          stream,
          (
            _,
            _,
            c.next_word-3.ensures,
            kind,
            (
              _,
              _,
              c.next_word-4.ensures,
              payload,
              (_, _, c.next_word-5.ensures, limit, (_, _, c.next_word-6.ensures, rw c.in-Some-2.is at c.in_ok-bytes.ensures, left)),
            ),
          ),
        ),
      ),
      sends _ _ _ _ (Some c.in-Some.max_retransmits) _ _ _ _ c.flag.ensures c.into_vec.ensures,
    )
