-- Line after line a reader gives the lines of what was read.
use Rattle.std.proofs.Common.{◌≡◌, ℕ, ◌+◌, ◌<◌, ◌==◌, if◌then◌else◌, List, [], ◌∷◌, ◌++◌, length, Result, Ok, Err, arith, sym, ap, ◌∙◌, append_assoc, append-nil, length-append}
use Rattle.std.proofs.lemmas.List.{flat_map_more}
use Rattle.std.proofs.lemmas.List.Elements.{All-nil, All-push}
use Rattle.std.proofs.lemmas.Bool.{cond-false, ne_eqb}
use Rattle.std.specs.List.{All}
use Rattle.sctp_text.specs.declared.line_reader.NextLine.{NextLine}
use Rattle.sctp_text.specs.declared.line_reader.NextLine.TheVariants.{Ended, Last, TooLong, End}
use Rattle.sctp_text.specs.declared.line_reader.ReadFault.{ReadFault}
use Rattle.sctp_text.specs.TextLines.{Reading, HasGiven, IsOneLine, ended, joined, lines_of, ended_lines_of}
use Rattle.sctp_text.specs.NextLineAnswer.{LeadsOn}
use Rattle.sctp_text.proofs.LineSplits.{ended_lines_of-joined, lines_of-joined, ended_lines_of-rest, lines_of-rest}

pub joined_push : (lines : List (List ℕ)) (line : List ℕ) → joined (lines ++ line ∷ []) ≡ joined lines ++ ended line
joined_push lines line = sym (flat_map_more ended [] lines line)

-- what is read further stands behind what was given
pub read_behind : (text : List ℕ) (lines : List (List ℕ)) (held bytes behind : List ℕ)
    → text ≡ joined lines ++ held → held ++ bytes ≡ behind → text ++ bytes ≡ joined lines ++ behind
read_behind text lines held bytes behind whole on =
    ap (λ list. list ++ bytes) whole ∙ append_assoc (joined lines) held bytes ∙ ap (λ list. joined lines ++ list) on

-- the lines of lines with their line feeds and one rest
pub all_ended : (text : List ℕ) (lines : List (List ℕ)) (rest : List ℕ) → All IsOneLine lines → IsOneLine rest
    → text ≡ joined lines ++ rest → ended_lines_of text ≡ lines
all_ended text lines rest each one whole =
    ap ended_lines_of whole ∙ ended_lines_of-joined lines rest each
    ∙ ap (λ behind. lines ++ behind) (ended_lines_of-rest rest one) ∙ append-nil lines

pub all_lines : (text : List ℕ) (lines : List (List ℕ)) (rest : List ℕ) → All IsOneLine lines → IsOneLine rest
    → text ≡ joined lines ++ rest → lines_of text ≡ lines ++ (if length rest == 0 then [] else rest ∷ [])
all_lines text lines rest each one whole =
    ap lines_of whole ∙ lines_of-joined lines rest each ∙ ap (λ behind. lines ++ behind) (lines_of-rest rest one)

some_rest : (rest : List ℕ) → 0 < length rest → (if length rest == 0 then [] else rest ∷ []) ≡ rest ∷ []
some_rest rest some = cond-false (length rest == 0) [] (rest ∷ []) (ne_eqb (length rest) 0 (λ none. omega arith))

-- the same state, where nothing is given
pub given_no_more : (text : List ℕ) (lines : List (List ℕ)) (now after : Reading) (bytes : List ℕ) → HasGiven text lines now
    → now.held ++ bytes ≡ after.held → after.given ≡ now.given + 0 → HasGiven (text ++ bytes) lines after
given_no_more text lines now after bytes has on count = record {
  each = has.each;
  whole = read_behind text lines now.held bytes after.held has.whole on;
  count = omega (arith, count, has.count);
}

pub leads_on : (text : List ℕ) (lines : List (List ℕ)) (now : Reading) (bytes : List ℕ) (answer : Result NextLine ReadFault) (after : Reading)
    → LeadsOn text lines now bytes answer after
leads_on text lines now bytes (Ok (Ended line)) after has on count is = record {
  each = All-push IsOneLine lines line.items has.each is.0;
  whole = read_behind text lines now.held bytes (ended line.items ++ after.held) has.whole on
      ∙ sym (append_assoc (joined lines) (ended line.items) after.held)
      ∙ ap (λ list. list ++ after.held) (sym (joined_push lines line.items));
  count = omega (arith, count, has.count, ap length (joined_push lines line.items), length-append (joined lines) (ended line.items));
}
leads_on text lines now bytes (Ok (Last line)) after has on count is =
    let whole : text ++ bytes ≡ joined lines ++ line.items =
    read_behind text lines now.held bytes (line.items ++ after.held) has.whole on
    ∙ ap (λ rest. joined lines ++ (line.items ++ rest)) is.4 ∙ ap (λ list. joined lines ++ list) (append-nil line.items) in (
      all_ended (text ++ bytes) lines line.items has.each is.0 whole,
      all_lines (text ++ bytes) lines line.items has.each is.0 whole ∙ ap (λ behind. lines ++ behind) (some_rest line.items is.1),
    )
leads_on text lines now bytes (Ok TooLong) after has on count is = given_no_more text lines now after bytes has on count
leads_on text lines now bytes (Ok End) after has on count is =
    let whole : text ++ bytes ≡ joined lines ++ [] = read_behind text lines now.held bytes [] has.whole (on ∙ is) in
    (all_ended (text ++ bytes) lines [] has.each (All-nil _) whole, all_lines (text ++ bytes) lines [] has.each (All-nil _) whole ∙ append-nil lines)
leads_on text lines now bytes (Err fault) after has on count is = given_no_more text lines now after bytes has on count
