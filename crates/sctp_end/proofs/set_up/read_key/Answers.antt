use Rattle.std.proofs.Common.{◌≡◌, ◌∙◌, sym, ap}
use Rattle.std.specs.Cmp.Lexicographic.{same_text, other_text}
use Rattle.hex.specs.Hex.{encode_lower}
use Rattle.sctp_end.proofs.KeyLemmas.{key_digits, key_decodes, comes_back}
use Rattle.sctp_end.proofs.set_up.read_key.Goals as goal

pub returns-in_default : goal.returns-in_default
returns-in_default c = λ key k.
    let ok = (key_decodes c.args.word.now key c.decode_to_slice.new.out c.decode_to_slice.result c.decode_to_slice.ensures.value k).0 in
    let is = c.in_default.is in
    absurd (cc)

pub returns-else-eq : goal.returns-else-eq
returns-else-eq c = λ key k.
    let same = (key_decodes c.args.word.now key c.decode_to_slice.new.out c.decode_to_slice.result c.decode_to_slice.ensures.value k).1 in
    let digits : c.encode_to_slice.new.output ≡ encode_lower c.decode_to_slice.new.out = c.in-Ok-encode_to_slice.ensures.written in
    other_text _ _ (sym c.if-eq.false ∙ c.eq.ensures) (c.as_slice.ensures ∙ digits ∙ ap encode_lower same ∙ sym (key_digits _ key k))

pub returns-then-eq : goal.returns-then-eq
returns-then-eq c =
    let digits : c.encode_to_slice.new.output ≡ encode_lower c.decode_to_slice.new.out = c.in-Ok-encode_to_slice.ensures.written in
    let same = same_text _ _ (sym c.if-eq.true ∙ c.eq.ensures) in
    rw c.new.ensures (comes_back c.args.word.now c.decode_to_slice.new.out c.decode_to_slice.result c.decode_to_slice.ensures.value c.in-Ok.is c.decode_to_slice.auto.out (sym same ∙ c.as_slice.ensures ∙ digits))
