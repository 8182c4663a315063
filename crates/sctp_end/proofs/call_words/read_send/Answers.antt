use Rattle.std.proofs.Common.{◌≡◌, [], length, refl, ap, arith, rules}
use Rattle.sctp_values.specs.Meanings.{kind_meaning}
use Rattle.sctp_words.specs.Fields.{IsNumber, IsUntilLimit, kind_word}
use Rattle.sctp_end.proofs.CommandLemmas.{no_words}
use Rattle.sctp_end.proofs.call_words.read_send.Goals as goal

pub returns-in-Some : goal.returns-in-Some
returns-in-Some c =
    let values = c.in-Some-Some-Some-Some in
    let left : c.next_word-5.new.self ≡ [] = no_words _ (omega (arith, c.requires, ap length c.next_word.ensures, ap length c.next_word-2.ensures, ap length c.next_word-3.ensures, ap length c.next_word-4.ensures, ap length c.next_word-5.ensures)) in
    let stream : IsNumber 16 c.next_word.result.now values.stream = search rules in
    let kind : c.next_word-2.result.now ≡ kind_word (kind_meaning values.kind) = search rules in
    let payload : IsNumber 32 c.next_word-3.result.now values.payload_id = search rules in
    let lifetime : IsUntilLimit c.next_word-4.result.now values.lifetime.0 values.lifetime.1 = search rules in (
      (values.stream, (values.kind, (values.payload_id, ((values.lifetime.0, values.lifetime.1), (c.in-Some.bytes, tt))))),
      (
        _,
        _,
        c.next_word.ensures,
        stream,
        (
          _,
          _,
          c.next_word-2.ensures,
          kind,
          (_, _, c.next_word-3.ensures, payload, (_, _, c.next_word-4.ensures, lifetime, (_, _, c.next_word-5.ensures, rw c.in-Some.is at c.in_ok-bytes.ensures, left))),
        ),
      ),
      c.send_call.ensures,
    )
