-- A text is split into lines in one way.
use Rattle.std.proofs.Common.{◌≡◌, ℕ, ◌+◌, ◌≤◌, ◌==◌, if◌then◌else◌, Bool, true, false, cond, inl, inr, List, [], ◌∷◌, ◌++◌, length, arith, refl, sym, ap, ◌∙◌, subst, append_assoc, append-nil, length-append}
use Rattle.std.specs.List.{All, slice_split}
use Rattle.std.proofs.lemmas.List.Splits.{slice_split_at, slice_split_none, slice_split-cons_yes, slice_split-cons_no}
use Rattle.std.proofs.lemmas.List.Elements.{All-head, All-tail, All-cons, All-nil}
use Rattle.std.proofs.lemmas.Bool.{eqb-true}
use Rattle.std.specs.Prelude.{not}
use Rattle.sctp_text.specs.declared.limits.TheConstants.{LINE_FEED}
use Rattle.sctp_text.specs.TextLines.{is_line_feed, IsOneLine, ended, joined, lines_of, ended_lines_of, first_length, IsTooLong, SplitInOneWay, IsLines}

-- a first byte makes a part of its own or goes onto the first part, so there is a part at least
some_part_at : (byte : ℕ) (text : List ℕ) (b : Bool) → is_line_feed byte ≡ b
    → (part : List ℕ) × (parts : List (List ℕ)) × (slice_split is_line_feed text ≡ part ∷ parts)
    → (part : List ℕ) × (parts : List (List ℕ)) × (slice_split is_line_feed (byte ∷ text) ≡ part ∷ parts)
some_part_at byte text true is behind = ([], slice_split is_line_feed text, slice_split-cons_yes is_line_feed byte text is)
some_part_at byte text false is behind =
    (byte ∷ behind.0, behind.1, slice_split-cons_no is_line_feed byte text is ∙ rw behind.2 refl)

pub some_part : (text : List ℕ) → (part : List ℕ) × (parts : List (List ℕ)) × (slice_split is_line_feed text ≡ part ∷ parts)
some_part [] = ([], [], refl)
some_part (byte ∷ text) = some_part_at byte text (is_line_feed byte) refl (some_part text)

-- the parts of a line, its line feed and a text
pub split_line : (line text : List ℕ) → IsOneLine line → slice_split is_line_feed (ended line ++ text) ≡ line ∷ slice_split is_line_feed text
split_line line text one =
    ap (λ bytes. slice_split is_line_feed bytes) (append_assoc line (LINE_FEED ∷ []) text)
    ∙ slice_split_at is_line_feed line LINE_FEED text one refl

pub ended_lines_of-line : (line text : List ℕ) → IsOneLine line → ended_lines_of (ended line ++ text) ≡ line ∷ ended_lines_of text
ended_lines_of-line line text one =
    let behind = some_part text in
    rw (split_line line text one, behind.2) refl

pub lines_of-line : (line text : List ℕ) → IsOneLine line → lines_of (ended line ++ text) ≡ line ∷ lines_of text
lines_of-line line text one =
    let behind = some_part text in
    rw (split_line line text one, behind.2) refl

-- the same of many lines
pub ended_lines_of-joined : (lines : List (List ℕ)) (rest : List ℕ) → All IsOneLine lines
    → ended_lines_of (joined lines ++ rest) ≡ lines ++ ended_lines_of rest
ended_lines_of-joined [] rest each = refl
ended_lines_of-joined (line ∷ lines) rest each =
    ap ended_lines_of (append_assoc (ended line) (joined lines) rest)
    ∙ ended_lines_of-line line (joined lines ++ rest) (All-head IsOneLine line lines each)
    ∙ ap (λ behind. line ∷ behind) (ended_lines_of-joined lines rest (All-tail IsOneLine line lines each))

pub lines_of-joined : (lines : List (List ℕ)) (rest : List ℕ) → All IsOneLine lines
    → lines_of (joined lines ++ rest) ≡ lines ++ lines_of rest
lines_of-joined [] rest each = refl
lines_of-joined (line ∷ lines) rest each =
    ap lines_of (append_assoc (ended line) (joined lines) rest)
    ∙ lines_of-line line (joined lines ++ rest) (All-head IsOneLine line lines each)
    ∙ ap (λ behind. line ∷ behind) (lines_of-joined lines rest (All-tail IsOneLine line lines each))

pub ended_lines_of-rest : (rest : List ℕ) → IsOneLine rest → ended_lines_of rest ≡ []
ended_lines_of-rest rest one = rw (slice_split_none is_line_feed rest one) refl

pub lines_of-rest : (rest : List ℕ) → IsOneLine rest → lines_of rest ≡ (if length rest == 0 then [] else rest ∷ [])
lines_of-rest rest one = rw (slice_split_none is_line_feed rest one) refl

pub split_in_one_way : (lines : List (List ℕ)) (rest : List ℕ) → SplitInOneWay lines rest
split_in_one_way lines rest = record {
  ended = ended_lines_of-joined lines rest;
  all = lines_of-joined lines rest;
  none_ended = ended_lines_of-rest rest;
  last = lines_of-rest rest;
}

-- lines and a rest that make a text
pub record Split (text : List ℕ) : Type 0 where
  pub lines : List (List ℕ)
  pub rest : List ℕ
  pub each : All IsOneLine lines
  pub one_line : IsOneLine rest
  pub whole : text ≡ joined lines ++ rest

-- with one byte more in front, which is a line feed or goes onto the first line
split_feed : (byte : ℕ) (text : List ℕ) → is_line_feed byte ≡ true → Split text → Split (byte ∷ text)
split_feed byte text is s =
    let same : byte ≡ LINE_FEED = eqb-true byte LINE_FEED is in
    record {
      lines = [] ∷ s.lines;
      rest = s.rest;
      each = All-cons IsOneLine [] s.lines (All-nil (λ b. is_line_feed b ≡ false)) s.each;
      one_line = s.one_line;
      whole = ap (λ b. b ∷ text) same ∙ ap (λ bytes. LINE_FEED ∷ bytes) s.whole;
    }

onto_split : (byte : ℕ) (text : List ℕ) (lines : List (List ℕ)) (rest : List ℕ) → is_line_feed byte ≡ false
    → All IsOneLine lines → IsOneLine rest → text ≡ joined lines ++ rest → Split (byte ∷ text)
onto_split byte text [] rest apart each one whole = record {
  lines = [];
  rest = byte ∷ rest;
  each = All-nil IsOneLine;
  one_line = All-cons (λ b. is_line_feed b ≡ false) byte rest apart one;
  whole = ap (λ bytes. byte ∷ bytes) whole;
}
onto_split byte text (line ∷ lines) rest apart each one whole = record {
  lines = (byte ∷ line) ∷ lines;
  rest = rest;
  each = All-cons IsOneLine (byte ∷ line) lines
      (All-cons (λ b. is_line_feed b ≡ false) byte line apart (All-head IsOneLine line lines each))
      (All-tail IsOneLine line lines each);
  one_line = one;
  whole = ap (λ bytes. byte ∷ bytes) whole;
}

split_byte : (byte : ℕ) (text : List ℕ) (b : Bool) → is_line_feed byte ≡ b → Split text → Split (byte ∷ text)
split_byte byte text true is s = split_feed byte text is s
split_byte byte text false is s = onto_split byte text s.lines s.rest is s.each s.one_line s.whole

pub split_of : (text : List ℕ) → Split text
split_of [] = record {
  lines = [];
  rest = [];
  each = All-nil IsOneLine;
  one_line = All-nil (λ b. is_line_feed b ≡ false);
  whole = refl;
}
split_of (byte ∷ text) = split_byte byte text (is_line_feed byte) refl (split_of text)

pub is_lines : (text : List ℕ) → IsLines text
is_lines text =
    let s = split_of text in
    let ended_are : ended_lines_of text ≡ s.lines =
    ap ended_lines_of s.whole ∙ ended_lines_of-joined s.lines s.rest s.each
    ∙ ap (λ behind. s.lines ++ behind) (ended_lines_of-rest s.rest s.one_line) ∙ append-nil s.lines in
    let all_are : lines_of text ≡ s.lines ++ (if length s.rest == 0 then [] else s.rest ∷ []) =
    ap lines_of s.whole ∙ lines_of-joined s.lines s.rest s.each
    ∙ ap (λ behind. s.lines ++ behind) (lines_of-rest s.rest s.one_line) in
    record {
      rest = s.rest;
      one_line = s.one_line;
      each = subst (λ (lines : List (List ℕ)). All IsOneLine lines) (sym ended_are) s.each;
      whole = s.whole ∙ ap (λ lines. joined lines ++ s.rest) (sym ended_are);
      lines = all_are ∙ ap (λ lines. lines ++ (if length s.rest == 0 then [] else s.rest ∷ [])) (sym ended_are);
    }

-- a first line grows with its text
grows_at : (m n : ℕ) (b : Bool) → m ≤ n → cond b (1 + m) 0 ≤ cond b (1 + n) 0
grows_at m n true h = omega arith
grows_at m n false h = omega arith

pub first_length-grows : (text more : List ℕ) → first_length text ≤ first_length (text ++ more)
first_length-grows [] more = omega arith
first_length-grows (byte ∷ text) more = grows_at (first_length text) (first_length (text ++ more)) (not (is_line_feed byte)) (first_length-grows text more)

pub too_long-more : (given : ℕ) (text more : List ℕ) → IsTooLong given text → IsTooLong given (text ++ more)
too_long-more given text more (inl long) = inl (omega (arith, first_length-grows text more))
too_long-more given text more (inr long) = inr (omega (arith, first_length-grows text more, length-append text more))
