-- What the words of a line that is written say.
use Rattle.std.specs.Prelude.{ℕ, List, decimal}
use Rattle.sctp_text.specs.Numerals.{hex_word}
use Rattle.sctp_text.specs.declared.line_out.Word.{Word}
use Rattle.sctp_text.specs.declared.line_out.Word.TheVariants.{Text, Number, Hex}

-- the bytes of a word
abbrev pub text_of : Word → List ℕ
text_of (Text text) = text.now
text_of (Number n) = decimal n
text_of (Hex bytes) = hex_word bytes.now
