-- Output that is gathered before it is written: what is written stays a beginning of what the lines of a script write.
use Rattle.std.proofs.Common.{◌≡◌, ℕ, ◌+◌, length, ◌++◌, inl, inr, List, [], Bool, ◌≤◌, Result, Ok, Err, refl, sym, ap, ◌∙◌, subst, arith, append_assoc, append-nil}
use Rattle.std.proofs.lemmas.List.Elements.{All-nil}
use Rattle.sctp_text.specs.TextLines.{Reading, IsOneLine}
use Rattle.sctp_text.specs.NextLineAnswer.{given_by, IsAnswer, LeadsOn}
use Rattle.sctp_text.specs.declared.line_reader.NextLine.{NextLine}
use Rattle.sctp_text.specs.declared.line_reader.ReadFault.{ReadFault}
use Rattle.sctp_trace.specs.Stages.{Stage, Unpaired}
use Rattle.sctp_words.specs.declared.line_fault.LineFault.{LineFault}
use Rattle.sctp_trace.specs.declared.script.Running.{Running}
use Rattle.sctp_trace.specs.declared.script.ScriptFault.{ScriptFault}
use Rattle.sctp_trace.specs.declared.script.ScriptFault.TheVariants.{Read, Write, NoMemory, Line}
use Rattle.sctp_trace.specs.Script.{IsFront, BeginsOutput, FaultsFirst}
use Rattle.sctp_trace.specs.inner.ScriptSteps.{IsSoFar, IsWrittenOf, IsPassedOn, IsClosed, BeginsFront, EndsAs, RunsOn}
use Rattle.sctp_trace.proofs.ScriptRuns.{front_of}
use Rattle.sctp_trace.proofs.ScriptLemmas.{Got}
use Rattle.sctp_text.specs.declared.limits.TheConstants.{LONGEST_TEXT}

-- ---- what is written of the bytes that were gathered

pub passed : (result : Result (Unit {0}) ScriptFault) (gathered written rest : List ℕ) → IsWrittenOf result gathered written → rest ≡ []
    → IsPassedOn result gathered written rest
passed (Ok u) gathered written rest is none = sym is ∙ sym (append-nil written) ∙ ap (λ (bytes : List ℕ). written ++ bytes) (sym none)
passed (Err Read) gathered written rest is none = absurd is
passed (Err Write) gathered written rest is none = (is, none)
passed (Err NoMemory) gathered written rest is none = absurd is
passed (Err (Line n fault)) gathered written rest is none = absurd is

pub not_written : (ended result : Result (Unit {0}) ScriptFault) (fault : ScriptFault) (gathered written : List ℕ) → result ≡ Err fault
    → IsWrittenOf (Err fault) gathered written → IsClosed ended result gathered written
not_written ended result Read gathered written same is = absurd is
not_written ended result Write gathered written same is = inr (inl same, is)
not_written ended result NoMemory gathered written same is = absurd is
not_written ended result (Line n fault) gathered written same is = absurd is

-- what is put behind the bytes that are gathered stands behind all
pub behind_gathered : (end : Type 0) (result : Result (Unit {0}) ScriptFault) (text done before here after : List ℕ) → after ≡ before ++ here
    → EndsAs end result text ((done ++ before) ++ here) → EndsAs end result text (done ++ after)
behind_gathered end result text done before here after is ends =
    subst (λ (bytes : List ℕ). EndsAs end result text bytes) (append_assoc done before here ∙ ap (λ (bytes : List ℕ). done ++ bytes) (sym is)) ends

-- ---- a beginning of what was written

front_cut : (text written more : List ℕ) → BeginsFront text (written ++ more) → BeginsFront text written
front_cut text written more (front, rest, outcomes, behind, state, is, begins) =
    (front, rest, outcomes, more ++ behind, state, is, begins ∙ append_assoc written more behind)

output_cut : (text written more : List ℕ) → BeginsOutput text (written ++ more) → BeginsOutput text written
output_cut text written more (output, behind, is, begins) = (output, more ++ behind, is, begins ∙ append_assoc written more behind)

-- what was written before a fault is written for first lines
fault_front : (end : Type 0) (text : List ℕ) (n : ℕ) (fault : LineFault) (written : List ℕ) → FaultsFirst end text n fault written → BeginsFront text written
fault_front end text n fault written (inl faulty) =
    (faulty.front, faulty.rest, written, [], faulty.stage, faulty.before, sym (append-nil written))
fault_front end text n fault written (inr none) =
    let start : IsFront text [] text [] Unpaired = record { each = All-nil IsOneLine; whole = refl; small = omega arith; goes = (refl, refl) } in
    rw (none.4) ([], text, [], [], Unpaired, start, refl)

-- however it ends, where the writer fails a beginning of it was written
write_cut : (end : Type 0) (ended : Result (Unit {0}) ScriptFault) (text written more : List ℕ) → EndsAs end ended text (written ++ more)
    → EndsAs end (Err Write) text written
write_cut end (Ok u) text written more ends = inr (ends.0, (written ++ more, more, ends.1, refl))
write_cut end (Err Read) text written more ends = inl (front_cut text written more ends)
write_cut end (Err Write) text written more (inl front) = inl (front_cut text written more front)
write_cut end (Err Write) text written more (inr output) = inr (output.0, output_cut text written more output.1)
write_cut end (Err NoMemory) text written more (inl front) = inl (front_cut text written more front)
write_cut end (Err NoMemory) text written more (inr output) = inr (output.0, output_cut text written more output.1)
write_cut end (Err (Line n fault)) text written more ends =
    inl (front_cut text written more (fault_front end text n fault (written ++ more) ends))

-- what is written at the end says the same of the script
pub closed_so : (end : Type 0) (ended result : Result (Unit {0}) ScriptFault) (text done gathered written : List ℕ) → EndsAs end ended text (done ++ gathered)
    → IsClosed ended result gathered written → EndsAs end result text (done ++ written)
closed_so end ended result text done gathered written ends (inl all) = rw (all.0, all.1) ends
closed_so end ended result text done gathered written ends (inr (inl is, part)) =
    let parts : done ++ gathered ≡ (done ++ written) ++ part.0 = ap (λ (bytes : List ℕ). done ++ bytes) part.1 ∙ sym (append_assoc done written part.0) in
    let ends : EndsAs end ended text ((done ++ written) ++ part.0) = rw parts at ends in
    rw is (write_cut end ended text (done ++ written) part.0 ends)
closed_so end ended result text done gathered written ends (inr (inr is, part)) =
    let parts : done ++ gathered ≡ (done ++ written) ++ part.0 = ap (λ (bytes : List ℕ). done ++ bytes) part.1 ∙ sym (append_assoc done written part.0) in
    let ends : EndsAs end (Err Read) text ((done ++ written) ++ part.0) = rw (is.1, parts) at ends in
    rw (is.0, is.1) (front_cut text (done ++ written) part.0 ends)

-- what was written of the bytes that were gathered stands behind all that was written before
pub passed_on : (s : Running) (text done before written rest : List ℕ) (lines : List (List ℕ)) (state : Stage) → before ≡ written ++ rest
    → IsSoFar s text (done ++ before) lines state → IsSoFar s text ((done ++ written) ++ rest) lines state
passed_on s text done before written rest lines state is so =
    let parts : done ++ before ≡ (done ++ written) ++ rest = ap (λ (bytes : List ℕ). done ++ bytes) is ∙ sym (append_assoc done written rest) in
    rw parts at so

-- The same, and the reader of lines gave the answer that was met.
pub got_line : ((text : List ℕ) (lines : List (List ℕ)) (now : Reading) (bytes : List ℕ) (answer : Result NextLine ReadFault) (after : Reading) → LeadsOn text lines now bytes answer after)
    → (s : Running) (text done before written rest : List ℕ) (lines : List (List ℕ)) (state : Stage) → before ≡ written ++ rest
    → IsSoFar s text (done ++ before) lines state → s.lines.given ≤ LONGEST_TEXT → (bytes : List ℕ) (told answer : NextLine) (now : Reading) → told ≡ answer
    → s.lines.held ++ bytes ≡ given_by (Ok told) ++ now.held → now.given ≡ s.lines.given + length (given_by (Ok told)) → IsAnswer (Ok told) now
    → Got s text ((done ++ written) ++ rest) lines state bytes answer now
got_line law s text done before written rest lines state parts before_so small bytes told answer now is on count answered =
    let so = passed_on s text done before written rest lines state parts before_so in
    subst (λ (a : NextLine). Got s text ((done ++ written) ++ rest) lines state bytes a now) is
    (record { so = so; small = small; on = on; count = count; is = answered; gives = law text lines s.lines bytes (Ok told) now so.given on count answered })

-- what was written stands behind all that was written before, also behind a line that was read and run
pub runs_behind : (end : Type 0) (result : Result Bool ScriptFault) (s : Running) (text done before here after : List ℕ) → after ≡ before ++ here
    → RunsOn end result s text ((done ++ before) ++ here) → RunsOn end result s text (done ++ after)
runs_behind end result s text done before here after is runs =
    subst (λ (bytes : List ℕ). RunsOn end result s text bytes) (append_assoc done before here ∙ ap (λ (bytes : List ℕ). done ++ bytes) (sym is)) runs

-- the writer failed before the next line was asked for
pub stopped_writing : (end : Type 0) (fault : ScriptFault) (s t : Running) (text done before written rest : List ℕ) (lines : List (List ℕ)) (state : Stage)
    → s.lines.given ≤ LONGEST_TEXT → IsPassedOn (Err fault) before written rest → IsSoFar s text (done ++ before) lines state
    → RunsOn end (Err fault) t (text ++ []) ((done ++ written) ++ rest)
stopped_writing end Read s t text done before written rest lines state small passed so = absurd passed
stopped_writing end Write s t text done before written rest lines state small passed so =
    let more = passed.0.0 in
    let bytes : done ++ before ≡ (done ++ written) ++ more = ap (λ (bytes : List ℕ). done ++ bytes) passed.0.1 ∙ sym (append_assoc done written more) in
    let front = front_of s text (done ++ before) lines state [] (s.lines.held ++ []) so small refl in
    let none : (done ++ written) ++ rest ≡ done ++ written = ap (λ (bytes : List ℕ). (done ++ written) ++ bytes) passed.1 ∙ append-nil (done ++ written) in
    rw none (inl (lines, s.lines.held ++ [], done ++ before, more, state, front, bytes))
stopped_writing end NoMemory s t text done before written rest lines state small passed so = absurd passed
stopped_writing end (Line n fault) s t text done before written rest lines state small passed so = absurd passed
