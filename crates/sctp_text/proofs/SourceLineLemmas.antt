-- A line that is gathered from what was read before and from a block.
use Rattle.std.proofs.Common.{◌≡◌, ℕ, ◌+◌, ◌-◌, ◌<◌, ◌≤◌, inl, inr, List, [], ◌∷◌, ◌++◌, length, take, drop, get_or, slice_range, false, arith, refl, sym, ap, ◌∙◌, subst, append_assoc, append-nil, length-append, length-take, take_all}
use Rattle.std.specs.List.{position}
use Rattle.std.proofs.lemmas.List.{drop-drop, drop-take, drop_more, get_or-take}
use Rattle.std.proofs.lemmas.List.Sums.{position_or_len_is, fails_before_first, passes_at_first, prefix_len-le-length}
use Rattle.std.proofs.lemmas.List.Folds.{prefix_len-append}
use Rattle.std.proofs.lemmas.List.Elements.{All-append}
use Rattle.std.proofs.lemmas.Bool.{eqb-true, eq-eqb, ltb-false}
use Rattle.std.specs.Prelude.{not, Bool, true, cond, Some, None, nat_lt}
use Rattle.sctp_text.specs.declared.limits.TheConstants.{LINE_FEED, LONGEST_LINE, LONGEST_TEXT}
use Rattle.sctp_text.specs.declared.block.TheConstants.{BLOCK}
use Rattle.sctp_text.specs.TextLines.{is_line_feed, IsOneLine, first_length, first_end, IsTooLong, MayBegin, IsReadFor}

-- a range without its first elements
pub range_without_front : (xs : List ℕ) (start end count : ℕ)
    → count ≤ length (slice_range xs start end) → slice_range xs (start + count) end ≡ drop count (slice_range xs start end)
range_without_front xs start end count small =
    let left = end - start - count in
    let fits : count ≤ end - start = omega (arith, length-take (end - start) (drop start xs)) in
    let same : end - (start + count) ≡ left = omega arith in
    let whole : end - start ≡ count + left = omega arith in
    ap (λ n. take n (drop (start + count) xs)) same
    ∙ ap (λ list. take left list) (sym (drop-drop count start xs))
    ∙ sym (drop-take count left (drop start xs))
    ∙ ap (λ n. drop count (take n (drop start xs))) (sym whole)

-- a line's length is where its first line feed would be
pub first_length-line : (line : List ℕ) → IsOneLine line → first_length line ≡ length line
first_length-line line one =
    position_or_len_is is_line_feed line (length line) 0 (omega arith) (λ k below. one k 0 below) (λ past. absurd (omega arith))

pub first_length-append : (line rest : List ℕ) → IsOneLine line → first_length (line ++ rest) ≡ length line + first_length rest
first_length-append line rest one =
    prefix_len-append (λ byte. not (is_line_feed byte)) line rest
    ∙ rw (first_length-line line one, eq-eqb (length line) (length line) refl) refl

pub first_length-le : (text : List ℕ) → first_length text ≤ length text
first_length-le text = prefix_len-le-length (λ byte. not (is_line_feed byte)) text

-- what stands before the first line feed is one line
pub one_line-front : (text : List ℕ) → IsOneLine (take (first_length text) text)
one_line-front text = λ k d below.
    let before : k < first_length text = omega (arith, length-take (first_length text) text) in
    rw (get_or-take (first_length text) text k d before) (fails_before_first is_line_feed text k d before)

pub one_line-append : (a b : List ℕ) → IsOneLine a → IsOneLine b → IsOneLine (a ++ b)
one_line-append a b one two = All-append (λ byte. is_line_feed byte ≡ false) a b one two

-- what stands from the first line feed on begins with it
pub from_first_feed : (text : List ℕ) → first_length text < length text
    → drop (first_length text) text ≡ LINE_FEED ∷ drop (first_length text + 1) text
from_first_feed text there =
    let n = first_length text in
    let is : get_or text n 0 ≡ LINE_FEED = eqb-true (get_or text n 0) LINE_FEED (passes_at_first is_line_feed text 0 there) in
    drop_more text n 0 there ∙ ap (λ byte. byte ∷ drop (n + 1) text) is

-- a line that may begin so may go on with one that has no line feed, as far as there is room
pub begins_with_both : (given : ℕ) (line rest : List ℕ) → MayBegin given line → first_length rest ≡ length rest
    → length line + length rest ≤ LONGEST_LINE → given + (length line + length rest) ≤ LONGEST_TEXT → MayBegin given (line ++ rest)
begins_with_both given line rest begun whole small within = record {
  one_line =
      let same : take (first_length rest) rest ≡ rest = ap (λ n. take n rest) whole ∙ take_all (length rest) rest (omega arith) in
      one_line-append line rest begun.one_line (subst (λ (bytes : List ℕ). IsOneLine bytes) same (one_line-front rest));
  small = omega (arith, length-append line rest, small);
  within = omega (arith, length-append line rest, within);
}

-- and only so
pub has_no_feed : (given : ℕ) (line rest : List ℕ) → MayBegin given line → MayBegin given (line ++ rest) → first_length rest ≡ length rest
has_no_feed given line rest begun both =
    omega (arith, first_length-append line rest begun.one_line, first_length-line (line ++ rest) both.one_line, length-append line rest)

pub fits_with_both : (given : ℕ) (line rest : List ℕ) → MayBegin given (line ++ rest) → given + (length line + length rest) ≤ LONGEST_TEXT
fits_with_both given line rest both = omega (arith, both.within, length-append line rest)

-- more than a line may have, or than the text may
pub too_long_line : (given : ℕ) (line rest : List ℕ) → IsOneLine line
    → LONGEST_LINE < length line + first_length rest → IsTooLong given (line ++ rest)
too_long_line given line rest one long = inl (omega (arith, first_length-append line rest one))

pub first_end-append : (line rest : List ℕ) → IsOneLine line → first_end (line ++ rest) ≡ length line + first_end rest
first_end-append line rest one =
    omega (arith, first_length-append line rest one, length-append line rest)

pub too_long_script : (given : ℕ) (line rest : List ℕ) → IsOneLine line
    → LONGEST_TEXT < given + (length line + first_end rest) → IsTooLong given (line ++ rest)
too_long_script given line rest one long = inr (omega (arith, first_end-append line rest one))

-- the line with what the block holds of it
pub begins_further : (given : ℕ) (line rest : List ℕ) → MayBegin given line
    → length line + first_length rest ≤ LONGEST_LINE → given + (length line + first_length rest) ≤ LONGEST_TEXT
    → MayBegin given (line ++ take (first_length rest) rest)
begins_further given line rest begun small within =
    let count : length (line ++ take (first_length rest) rest) ≡ length line + first_length rest =
    omega (arith, length-append line (take (first_length rest) rest), length-take (first_length rest) rest, first_length-le rest) in
    record {
      one_line = one_line-append line (take (first_length rest) rest) begun.one_line (one_line-front rest);
      small = omega arith;
      within = omega arith;
    }

-- where a line feed follows in the block there is room for it in the script
pub room_for_feed : (given : ℕ) (line rest : List ℕ) → first_length rest < length rest
    → given + (length line + first_end rest) ≤ LONGEST_TEXT → given + length (line ++ take (first_length rest) rest) < LONGEST_TEXT
room_for_feed given line rest there within =
    omega (arith, length-append line (take (first_length rest) rest), length-take (first_length rest) rest)

-- where no place is found the line goes to the end
none_at : (text : List ℕ) (b : Bool) → nat_lt (first_length text) (length text) ≡ b
    → cond b (Some (first_length text)) None ≡ None → length text ≡ first_length text
none_at text true test found = absurd (cc)
none_at text false test found = omega (arith, ltb-false (first_length text) (length text) test, first_length-le text)

pub none_found : (text : List ℕ) → position is_line_feed text ≡ None → length text ≡ first_length text
none_found text found = none_at text (nat_lt (first_length text) (length text)) refl found

-- one block more, once the one before it was used up: what was held, what was read before and this is the line and this
pub read_further : (held read line block gathered new : List ℕ) → held ++ read ≡ line ++ block → gathered ++ [] ≡ line ++ block
    → held ++ (read ++ new) ≡ gathered ++ new
read_further held read line block gathered new before moved =
    sym (append_assoc held read new)
    ∙ ap (λ list. list ++ new) (before ∙ sym moved ∙ append-nil gathered)

-- the line and the block grow until the line is too long
pub gathers_on : (line block gathered new : List ℕ) → gathered ++ [] ≡ line ++ block
    → length gathered ≤ LONGEST_LINE → length new ≤ BLOCK → 0 < length new
    → LONGEST_LINE + BLOCK + 1 - (length gathered + length new) < LONGEST_LINE + BLOCK + 1 - (length line + length block)
gathers_on line block gathered new moved small fits some =
    omega (arith, ap length moved, length-append gathered [], length-append line block)

-- where all that was held went to the line, that is a line's beginning
pub begun_before : (given : ℕ) (held line block gathered : List ℕ) → gathered ++ [] ≡ line ++ block → line ++ block ≡ held
    → MayBegin given gathered → MayBegin given held
begun_before given held line block gathered moved whole begun =
    subst (λ (list : List ℕ). MayBegin given list) (sym (append-nil gathered) ∙ moved ∙ whole) begun

-- and what was read before the new block may begin the line
pub read_on : (given : ℕ) (held read line block gathered new : List ℕ) → held ++ read ≡ line ++ block → gathered ++ [] ≡ line ++ block
    → length new ≤ BLOCK → MayBegin given gathered
    → IsReadFor given held (read ++ new) × (held ++ (read ++ new) ≡ gathered ++ new)
read_on given held read line block gathered new before moved fits begun = (
  inr (read, new, refl, fits, begun_before given (held ++ read) line block gathered moved (sym before) begun),
  read_further held read line block gathered new before moved,
)
