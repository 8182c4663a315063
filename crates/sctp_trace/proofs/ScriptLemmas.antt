-- What lines, the report and a missing pair leave, over the bytes of a script.
use Rattle.std.proofs.Common.{◌≡◌, ℕ, ◌+◌, ◌<◌, ◌≤◌, ◌⊎◌, inl, inr, List, [], ◌∷◌, ◌++◌, length, Option, Some, None, Result, Ok, Err, refl, sym, ap, ◌∙◌, subst, arith, append_assoc, append-nil, length-append}
use Rattle.std.specs.declared.vec.Vec.{Vec}
use Rattle.std.specs.declared.alloc.Global.{Global}
use Rattle.sctp_words.specs.declared.line_fault.LineFault.{LineFault}
use Rattle.sctp_words.specs.declared.line_fault.LineFault.TheVariants.{TooLong}
use Rattle.sctp_text.specs.declared.line_reader.ReadFault.{ReadFault}
use Rattle.sctp_text.specs.declared.line_reader.ReadFault.TheVariants as read
use Rattle.sctp_script.specs.Grammar.{Fault}
use Rattle.sctp_script.specs.Places.{Plain, SaysAt}
use Rattle.sctp_script.specs.declared.placed.Preamble.{Preamble}
use Rattle.sctp_trace.specs.Stages.{Stage, Unpaired, place_of, world_of}
use Rattle.sctp_text.specs.TextLines.{Reading, HasGiven, IsOneLine, IsTooLong, ended, joined, lines_of, first_length}
use Rattle.sctp_text.specs.NextLineAnswer.{given_by, IsAnswer, GivesOn}
use Rattle.sctp_text.specs.declared.line_reader.NextLine.{NextLine}
use Rattle.sctp_text.specs.declared.line_reader.NextLine.TheVariants as next
use Rattle.sctp_text.specs.declared.line_reader.NextLine.TheVariants.{Ended, Last, End}
use Rattle.sctp_script.specs.ReportText.{report}
use Rattle.sctp_pair.specs.declared.pair.Pair.{Pair}
use Rattle.sctp_trace.specs.declared.script.Running.{Running}
use Rattle.sctp_trace.specs.declared.script.ScriptFault.{ScriptFault}
use Rattle.sctp_trace.specs.declared.script.ScriptFault.TheVariants.{Read, Write, NoMemory, Line}
use Rattle.sctp_trace.specs.Script.{LineActs, Goes, IsOutput, HasNoPair, FaultsFirst}
use Rattle.sctp_trace.specs.inner.ScriptSteps.{StandsAt, Stand, LineLeaves, Closes, IsSoFar, IsOver, fault_of, BeginsFront, EndsAs}
use Rattle.sctp_text.specs.declared.limits.TheConstants.{LINE_FEED, LONGEST_TEXT}
use Rattle.sctp_trace.proofs.ScriptRuns.{first_length-ended, first_length-last, front_of, goes-push, goes_none, no_world_yet, length_read}

-- ---- a line that came

-- it acted
pub line_acted : (s t : Running) (text done : List ℕ) (lines : List (List ℕ)) (state after : Stage) (bytes line here : List ℕ)
    → IsSoFar s text done lines state → HasGiven (text ++ bytes) (lines ++ line ∷ []) t.lines → LineActs state line here after
    → Stand t.pair t.preamble after → t.number ≡ s.number + 1 → IsSoFar t (text ++ bytes) (done ++ here) (lines ++ line ∷ []) after
line_acted s t text done lines state after bytes line here so given acts stands number = record {
  given = given;
  goes = goes-push lines line Unpaired state after done here so.goes acts;
  stands = stands;
  number = omega (arith, number, so.number, length-append lines (line ∷ []));
}

-- what is known of a line that came: `rest` begins with it
pub record HasCome (s : Running) (text done : List ℕ) (lines : List (List ℕ)) (state : Stage) (bytes rest line : List ℕ) : Type 0 where
  pub so : IsSoFar s text done lines state
  pub small : s.lines.given ≤ LONGEST_TEXT
  pub on : s.lines.held ++ bytes ≡ rest
  pub one : IsOneLine line
  pub short : (IsTooLong (length (joined lines)) rest → ⊥)

-- it has a fault
pub line_faulty : (end : Type 0) (s : Running) (text done : List ℕ) (lines : List (List ℕ)) (state : Stage) (bytes rest line here : List ℕ) (n : ℕ) (fault : LineFault)
    → HasCome s text done lines state bytes rest line → ((tail : List ℕ) × (rest ≡ ended line ++ tail)) ⊎ (end × (0 < length line) × (rest ≡ line))
    → n ≡ s.number → here ≡ [] → SaysAt (place_of state) line (Plain (Fault fault)) → FaultsFirst end (text ++ bytes) n fault (done ++ here)
line_faulty end s text done lines state bytes rest line here n fault come begins number none has =
    let same : done ++ here ≡ done = ap (λ (more : List ℕ). done ++ more) none ∙ append-nil done in
    rw same (inl (record {
      front = lines;
      rest = rest;
      stage = state;
      before = front_of s text done lines state bytes rest come.so come.small come.on;
      number = number ∙ come.so.number;
      has = inr (come.short, (line, (come.one, begins), has));
    }))

-- memory was wanting
pub line_unmade : (s : Running) (text done : List ℕ) (lines : List (List ℕ)) (state : Stage) (bytes rest here : List ℕ)
    → IsSoFar s text done lines state → s.lines.given ≤ LONGEST_TEXT → s.lines.held ++ bytes ≡ rest → here ≡ [] → BeginsFront (text ++ bytes) (done ++ here)
line_unmade s text done lines state bytes rest here so small on none =
    let same : done ++ here ≡ done = ap (λ (more : List ℕ). done ++ more) none ∙ append-nil done in
    rw same (lines, rest, done, [], state, front_of s text done lines state bytes rest so small on, sym (append-nil done))

-- a line that a line feed ends stops the script
pub ended_stops : (end : Type 0) (fault : ScriptFault) (s : Running) (now : Reading) (text done : List ℕ) (lines : List (List ℕ)) (state : Stage) (bytes line here : List ℕ) (pair : Option Pair) (preamble : Preamble)
    → HasCome s text done lines state bytes (ended line ++ now.held) line → HasGiven (text ++ bytes) (lines ++ line ∷ []) now → now.given ≤ LONGEST_TEXT
    → LineLeaves (Err fault) s.number state line here pair preamble → EndsAs end (Err fault) (text ++ bytes) (done ++ here)
ended_stops end Read s now text done lines state bytes line here pair preamble come given small leaves = absurd leaves
ended_stops end Write s now text done lines state bytes line here pair preamble come given small leaves = absurd leaves
ended_stops end NoMemory s now text done lines state bytes line here pair preamble come given small leaves =
    inl (line_unmade s text done lines state bytes (ended line ++ now.held) here come.so come.small come.on leaves)
ended_stops end (Line n fault) s now text done lines state bytes line here pair preamble come given small leaves =
    line_faulty end s text done lines state bytes (ended line ++ now.held) line here n fault come (inl (now.held, refl)) leaves.0 leaves.1 leaves.2

-- a last line stops the script
pub last_stops : (end : Type 0) (fault : ScriptFault) (s : Running) (text done : List ℕ) (lines : List (List ℕ)) (state : Stage) (bytes line here : List ℕ) (pair : Option Pair) (preamble : Preamble)
    → end → HasCome s text done lines state bytes line line → 0 < length line → length (text ++ bytes) ≤ LONGEST_TEXT → lines_of (text ++ bytes) ≡ lines ++ line ∷ []
    → LineLeaves (Err fault) s.number state line here pair preamble → EndsAs end (Err fault) (text ++ bytes) (done ++ here)
last_stops end Read s text done lines state bytes line here pair preamble e come some small all leaves = absurd leaves
last_stops end Write s text done lines state bytes line here pair preamble e come some small all leaves = absurd leaves
last_stops end NoMemory s text done lines state bytes line here pair preamble e come some small all leaves =
    inl (line_unmade s text done lines state bytes line here come.so come.small come.on leaves)
last_stops end (Line n fault) s text done lines state bytes line here pair preamble e come some small all leaves =
    line_faulty end s text done lines state bytes line line here n fault come (inr (e, some, refl)) leaves.0 leaves.1 leaves.2

-- What a reader of lines gave in answer, behind what was given before.
pub record Got (s : Running) (text done : List ℕ) (lines : List (List ℕ)) (state : Stage) (bytes : List ℕ) (answer : NextLine) (now : Reading) : Type 0 where
  pub so : IsSoFar s text done lines state
  pub small : s.lines.given ≤ LONGEST_TEXT
  pub on : s.lines.held ++ bytes ≡ given_by (Ok answer) ++ now.held
  pub count : now.given ≡ s.lines.given + length (given_by (Ok answer))
  pub is : IsAnswer (Ok answer) now
  pub gives : GivesOn (text ++ bytes) lines (Ok answer) now

pub ended_come : (s : Running) (text done : List ℕ) (lines : List (List ℕ)) (state : Stage) (bytes : List ℕ) (line : Vec ℕ Global) (now : Reading)
    → Got s text done lines state bytes (Ended line) now → HasCome s text done lines state bytes (ended line.items ++ now.held) line.items
ended_come s text done lines state bytes line now got =
    let first : first_length (ended line.items ++ now.held) ≡ length line.items =
    ap first_length (append_assoc line.items (LINE_FEED ∷ []) now.held) ∙ first_length-ended line.items now.held got.is.0 in
    record {
      so = got.so;
      small = got.small;
      on = got.on;
      one = got.is.0;
      short = λ long. elim long [
        | inl h ↦ omega (arith, h, first, got.is.1)
        | inr h ↦ omega (arith, h, first, got.count, got.so.given.count, got.is.2, length-append line.items (LINE_FEED ∷ []))
      ];
    }

pub last_come : (s : Running) (text done : List ℕ) (lines : List (List ℕ)) (state : Stage) (bytes : List ℕ) (line : Vec ℕ Global) (now : Reading)
    → Got s text done lines state bytes (Last line) now → HasCome s text done lines state bytes line.items line.items
last_come s text done lines state bytes line now got =
    let first = first_length-last line.items got.is.0 in
    record {
      so = got.so;
      small = got.small;
      on = got.on ∙ ap (λ (rest : List ℕ). line.items ++ rest) got.is.4 ∙ append-nil line.items;
      one = got.is.0;
      short = λ long. elim long [
        | inl h ↦ omega (arith, h, first, got.is.2)
        | inr h ↦ omega (arith, h, first, got.count, got.so.given.count, got.is.3)
      ];
    }

pub last_small : (s : Running) (text done : List ℕ) (lines : List (List ℕ)) (state : Stage) (bytes : List ℕ) (line : Vec ℕ Global) (now : Reading)
    → Got s text done lines state bytes (Last line) now → length (text ++ bytes) ≤ LONGEST_TEXT
last_small s text done lines state bytes line now got =
    let come = last_come s text done lines state bytes line now got in
    omega (arith, length_read s text done lines state bytes line.items got.so come.on, got.count, got.is.3)

-- the last line acted
pub last_over : (s t : Running) (text done : List ℕ) (lines : List (List ℕ)) (state after : Stage) (bytes : List ℕ) (line : Vec ℕ Global) (now : Reading) (here : List ℕ)
    → Got s text done lines state bytes (Last line) now → LineActs state line.items here after → Stand t.pair t.preamble after
    → IsOver t (text ++ bytes) (done ++ here) after
last_over s t text done lines state after bytes line now here got acts stands = record {
  small = last_small s text done lines state bytes line now got;
  goes = rw (got.gives.1) (goes-push lines line.items Unpaired state after done here got.so.goes acts);
  stands = stands.0;
}

-- the next line is too long
pub long_stops : (end : Type 0) (s : Running) (text done : List ℕ) (lines : List (List ℕ)) (state : Stage) (bytes : List ℕ) (now : Reading)
    → Got s text done lines state bytes next.TooLong now → FaultsFirst end (text ++ bytes) s.number TooLong (done ++ [])
long_stops end s text done lines state bytes now got =
    let count : now.given ≡ length (joined lines) = omega (arith, got.count, got.so.given.count) in
    rw (append-nil done) (inl (record {
      front = lines;
      rest = now.held;
      stage = state;
      before = front_of s text done lines state bytes now.held got.so got.small got.on;
      number = got.so.number;
      has = inl (refl, subst (λ (n : ℕ). IsTooLong n now.held) count got.is);
    }))

-- the input ended
pub end_over : (s t : Running) (text done : List ℕ) (lines : List (List ℕ)) (state : Stage) (bytes : List ℕ) (now : Reading)
    → Got s text done lines state bytes End now → StandsAt t.pair (world_of state) → IsOver t (text ++ bytes) (done ++ []) state
end_over s t text done lines state bytes now got stands = record {
  small = omega (arith, length_read s text done lines state bytes [] got.so (got.on ∙ got.is), got.small);
  goes = rw (got.gives.1, append-nil done) got.so.goes;
  stands = stands;
}

-- each line has a line feed at least
pub lines_within : (lines : List (List ℕ)) → length lines ≤ length (joined lines)
lines_within [] = omega arith
lines_within (line ∷ lines) =
    omega (arith, lines_within lines, length-append (ended line) (joined lines), length-append line (LINE_FEED ∷ []))

-- no line came
pub unread : (end : Type 0) (fault : ReadFault) (text written : List ℕ) → BeginsFront text written → EndsAs end (Err (fault_of fault)) text written
unread end read.Failed text written begins = begins
unread end read.NoMemory text written begins = inl begins

-- ---- the end

pub closed : (end : Type 0) (result : Result (Unit {0}) ScriptFault) (s : Running) (text done : List ℕ) (state : Stage) (here : List ℕ)
    → end → IsOver s text done state → Closes result (world_of state) here → EndsAs end result text (done ++ here)
closed end (Ok a) s text done state here e over close = (
  e,
  record {
    small = over.small;
    outcomes = done;
    stage = state;
    goes = over.goes;
    world = close.0;
    there = close.1;
    whole = ap (λ (part : List ℕ). done ++ part) close.2;
  },
)
closed end (Err Read) s text done state here e over close = absurd close
closed end (Err Write) s text done state here e over close = absurd close
closed end (Err NoMemory) s text done state here e over close =
    let output : IsOutput text (done ++ report close.0) = record {
      small = over.small;
      outcomes = done;
      stage = state;
      goes = over.goes;
      world = close.0;
      there = close.1;
      whole = refl;
    } in
    let same : done ++ here ≡ done = ap (λ (part : List ℕ). done ++ part) close.2 ∙ append-nil done in
    inr (e, (done ++ report close.0, report close.0, output, ap (λ (part : List ℕ). part ++ report close.0) (sym same)))
closed end (Err (Line n fault)) s text done state here e over close =
    let first : state ≡ Unpaired = no_world_yet state close.0 in
    let goes : Goes Unpaired (lines_of text) done Unpaired = subst (λ (x : Stage). Goes Unpaired (lines_of text) done x) first over.goes in
    let none = goes_none (lines_of text) Unpaired Unpaired done goes refl in
    let silent : HasNoPair text = record { small = over.small; goes = subst (λ (part : List ℕ). Goes Unpaired (lines_of text) part Unpaired) none.1 goes } in
    inr (e, silent, close.1, close.2, ap (λ (part : List ℕ). done ++ part) close.3 ∙ append-nil done ∙ none.1)
