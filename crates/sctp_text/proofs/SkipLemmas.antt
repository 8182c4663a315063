-- A line that is skipped, block by block; and that it counts among the lines of the text.
use Rattle.std.proofs.Common.{◌≡◌, ℕ, ◌+◌, ◌<◌, ◌≤◌, inl, inr, List, [], ◌∷◌, ◌++◌, length, take, drop, Result, Ok, Err, arith, refl, sym, ap, ◌∙◌, subst, append_assoc, append-nil, length-append, length-take, take_all, take-append-drop}
use Rattle.std.specs.Prelude.{Some}
use Rattle.std.specs.Result.{IsErr}
use Rattle.std.proofs.lemmas.List.Elements.{All-push}
use Rattle.sctp_text.specs.declared.limits.TheConstants.{LINE_FEED, LONGEST_TEXT}
use Rattle.sctp_text.specs.declared.line_reader.SkippedLine.{SkippedLine}
use Rattle.sctp_text.specs.declared.line_reader.SkippedLine.TheVariants.{Ended, Last, TextTooLong}
use Rattle.sctp_text.specs.declared.source_sink.Failed.{Failed}
use Rattle.sctp_text.specs.TextLines.{Reading, HasGiven, IsOneLine, IsTooLong, ended, joined, first_length}
use Rattle.sctp_text.specs.SkippedLines.{skipped_by, Skips, IsLong, CountsOn, IsSkipped}
use Rattle.sctp_text.specs.inner.Gathering.{IsPassed}
use Rattle.sctp_text.proofs.SourceLineLemmas.{first_length-line, first_length-append, first_length-le, one_line-front, one_line-append, from_first_feed}
use Rattle.sctp_text.proofs.LineSplits.{first_length-grows}
use Rattle.sctp_text.proofs.LineRuns.{joined_push, read_behind, all_lines}

-- ---- a block

pub length_ended : (line : List ℕ) → length (ended line) ≡ length line + 1
length_ended line = length-append line (LINE_FEED ∷ [])

-- the line up to the first line feed, and what stands behind that
pub to_first_feed : (text : List ℕ) → first_length text < length text
    → text ≡ ended (take (first_length text) text) ++ drop (first_length text + 1) text
to_first_feed text there =
    let n = first_length text in
    sym (take-append-drop n text)
    ∙ ap (λ behind. take n text ++ behind) (from_first_feed text there)
    ∙ sym (append_assoc (take n text) (LINE_FEED ∷ []) (drop (n + 1) text))

pub ends_there : (text : List ℕ) → first_length text < length text → length (ended (take (first_length text) text)) ≡ first_length text + 1
ends_there text there = omega (arith, length_ended (take (first_length text) text), length-take (first_length text) text)

-- a block without a line feed is one line
pub all_one_line : (text : List ℕ) → length text ≤ first_length text → IsOneLine text
all_one_line text none =
    let whole : first_length text ≡ length text = omega (arith, none, first_length-le text) in
    subst (λ (bytes : List ℕ). IsOneLine bytes) (ap (λ n. take n text) whole ∙ take_all (length text) text (omega arith)) (one_line-front text)

-- ---- block by block

-- one block more, behind one that went whole
pub skip_further : (first bytes line block new : List ℕ) → first ++ bytes ≡ line ++ block → first ++ (bytes ++ new) ≡ (line ++ block) ++ new
skip_further first bytes line block new whole = sym (append_assoc first bytes new) ∙ ap (λ list. list ++ new) whole

-- what goes of a line behind a part of it that went
skipped_behind : (answer : Result SkippedLine Failed) (front line : List ℕ) → skipped_by answer (front ++ line) ≡ front ++ skipped_by answer line
skipped_behind (Ok Ended) front line = append_assoc front line (LINE_FEED ∷ [])
skipped_behind (Ok Last) front line = refl
skipped_behind (Ok TextTooLong) front line = refl
skipped_behind (Err _) front line = refl

-- where a block tells how the line ends
pub ends : (first : List ℕ) (before : ℕ) (bytes line block : List ℕ) (given : ℕ) (skipped : SkippedLine) (now : ℕ) (rest : List ℕ)
    → IsOneLine line → first ++ bytes ≡ line ++ block → given ≡ before + length line → now ≤ LONGEST_TEXT → IsPassed (Some skipped) given block now rest
    → Skips (record { held = first; given = before }) bytes (Ok skipped) (record { held = rest; given = now })
ends first before bytes line block given Ended now rest one whole count within (end, is, there, counts) = record {
  line = line ++ end;
  one_line = one_line-append line end one is;
  whole = whole ∙ ap (λ list. line ++ list) there ∙ sym (append_assoc line (ended end) rest)
      ∙ ap (λ list. list ++ rest) (sym (skipped_behind (Ok Ended) line end));
  count = omega (arith, counts, count, length_ended end, length_ended (line ++ end), length-append line end);
  within = within;
  left = tt;
}
ends first before bytes line block given Last now rest one whole count within passed = absurd passed
ends first before bytes line block given TextTooLong now rest one whole count within (same, stays, long) = record {
  line = line;
  one_line = one;
  whole = whole ∙ ap (λ list. line ++ list) (sym same);
  count = stays ∙ count;
  within = within;
  left = rw (same, stays) long;
}

-- where a call failed, what was read before went
pub fails : (first : List ℕ) (before : ℕ) (bytes line rest : List ℕ) (answer : Result SkippedLine Failed) (now : ℕ) → IsErr answer
    → IsOneLine line → first ++ bytes ≡ line ++ rest → now ≡ before + length line → now ≤ LONGEST_TEXT
    → Skips (record { held = first; given = before }) bytes answer (record { held = rest; given = now })
fails first before bytes line rest (Ok skipped) now failed one whole count within = absurd cc
fails first before bytes line rest (Err why) now failed one whole count within =
    record { line = line; one_line = one; whole = whole; count = count; within = within; left = tt }

-- what was held of the line before the block goes first
pub with_front : (front block : List ℕ) (given before : ℕ) (bytes : List ℕ) (answer : Result SkippedLine Failed) (after : Reading) → IsOneLine front → given ≡ before + length front
    → Skips (record { held = block; given = given }) bytes answer after → Skips (record { held = front ++ block; given = before }) bytes answer after
with_front front block given before bytes answer after one count skips = record {
  line = front ++ skips.line;
  one_line = one_line-append front skips.line one skips.one_line;
  whole = append_assoc front block bytes ∙ ap (λ list. front ++ list) skips.whole
      ∙ sym (append_assoc front (skipped_by answer skips.line) after.held)
      ∙ ap (λ list. list ++ after.held) (sym (skipped_behind answer front skips.line));
  count = omega (arith, skips.count, count, ap length (skipped_behind answer front skips.line), length-append front (skipped_by answer skips.line));
  within = skips.within;
  left = skips.left;
}

-- ---- among the lines of the text

counts_on : (text : List ℕ) (lines : List (List ℕ)) (now : Reading) (bytes : List ℕ) (answer : Result SkippedLine Failed) (after : Reading)
    → (skips : Skips now bytes answer after) → HasGiven text lines now → CountsOn (text ++ bytes) lines answer skips.line after
counts_on text lines now bytes (Ok Ended) after skips has = record {
  each = All-push IsOneLine lines skips.line has.each skips.one_line;
  whole = read_behind text lines now.held bytes (ended skips.line ++ after.held) has.whole skips.whole
      ∙ sym (append_assoc (joined lines) (ended skips.line) after.held)
      ∙ ap (λ list. list ++ after.held) (sym (joined_push lines skips.line));
  count = omega (arith, skips.count, has.count, ap length (joined_push lines skips.line), length-append (joined lines) (ended skips.line));
}
counts_on text lines now bytes (Ok Last) after skips has =
    let whole : text ++ bytes ≡ joined lines ++ skips.line =
    read_behind text lines now.held bytes (skips.line ++ after.held) has.whole skips.whole
    ∙ ap (λ rest. joined lines ++ (skips.line ++ rest)) skips.left ∙ ap (λ list. joined lines ++ list) (append-nil skips.line) in
    all_lines (text ++ bytes) lines skips.line has.each skips.one_line whole
counts_on text lines now bytes (Ok TextTooLong) after skips has = tt
counts_on text lines now bytes (Err _) after skips has = tt

-- a line that stands there with its line feed
whole_length : (line rest : List ℕ) → IsOneLine line → first_length (ended line ++ rest) ≡ length line
whole_length line rest one =
    let none : first_length (LINE_FEED ∷ rest) ≡ 0 = refl in
    ap first_length (append_assoc line (LINE_FEED ∷ []) rest) ∙ omega (arith, first_length-append line (LINE_FEED ∷ rest) one, none)

is_long : (now : Reading) (bytes : List ℕ) (answer : Result SkippedLine Failed) (after : Reading) (skips : Skips now bytes answer after)
    → IsTooLong now.given now.held → IsLong answer skips.line
is_long now bytes (Ok Ended) after skips (inl long) =
    omega (arith, long, first_length-grows now.held bytes, ap first_length skips.whole, whole_length skips.line after.held skips.one_line)
is_long now bytes (Ok Ended) after skips (inr long) =
    absurd (omega (arith, long, first_length-grows now.held bytes, ap first_length skips.whole, whole_length skips.line after.held skips.one_line, skips.count, skips.within, length_ended skips.line))
is_long now bytes (Ok Last) after skips (inl long) =
    let whole : now.held ++ bytes ≡ skips.line = skips.whole ∙ ap (λ rest. skips.line ++ rest) skips.left ∙ append-nil skips.line in
    omega (arith, long, first_length-grows now.held bytes, ap first_length whole, first_length-line skips.line skips.one_line)
is_long now bytes (Ok Last) after skips (inr long) =
    let whole : now.held ++ bytes ≡ skips.line = skips.whole ∙ ap (λ rest. skips.line ++ rest) skips.left ∙ append-nil skips.line in
    absurd (omega (arith, long, ap length whole, length-append now.held bytes, skips.count, skips.within))
is_long now bytes (Ok TextTooLong) after skips long = tt
is_long now bytes (Err _) after skips long = tt

pub is_skipped : (text : List ℕ) (lines : List (List ℕ)) (now : Reading) (bytes : List ℕ) (answer : Result SkippedLine Failed) (after : Reading)
    → IsSkipped text lines now bytes answer after
is_skipped text lines now bytes answer after = record {
  counts = counts_on text lines now bytes answer after;
  long = is_long now bytes answer after;
}
