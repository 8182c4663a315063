-- What first lines of a script write is a beginning of what is written for all its lines.
use Rattle.std.proofs.Common.{ℕ, ◌++◌, ◌⊎◌, inl, inr, List, Result, Ok, Err, ap, ◌∙◌, append_assoc}
use Rattle.sctp_trace.specs.declared.script.ScriptFault.{ScriptFault}
use Rattle.sctp_trace.specs.declared.script.ScriptFault.TheVariants.{Read, Write, NoMemory, Line}
use Rattle.sctp_trace.specs.Script.{BeginsLines, BeginsOutput, IsAnswered}
use Rattle.sctp_trace.specs.ScriptLaws.{LinesAreThere}
use Rattle.sctp_trace.specs.inner.ScriptSteps.{BeginsFront, EndsAs}

front_begins : LinesAreThere → (text written : List ℕ) → BeginsFront text written → BeginsLines text written
front_begins there text written (front, rest, outcomes, more, state, is, begins) =
    let lines = there text front rest outcomes state is in (
      lines.0,
      more ++ lines.1,
      lines.2,
      lines.3 ∙ ap (λ (bytes : List ℕ). bytes ++ lines.1) begins ∙ append_assoc written more lines.1,
    )

either_begins : LinesAreThere → (end : Type 0) (text written : List ℕ) → BeginsFront text written ⊎ (end × BeginsOutput text written)
    → BeginsLines text written ⊎ (end × BeginsOutput text written)
either_begins there end text written (inl front) = inl (front_begins there text written front)
either_begins there end text written (inr output) = inr output

pub answered : LinesAreThere → (end : Type 0) (result : Result (Unit {0}) ScriptFault) (text written : List ℕ) → EndsAs end result text written
    → IsAnswered end result text written
answered there end (Ok u) text written ends = ends
answered there end (Err Read) text written ends = front_begins there text written ends
answered there end (Err Write) text written ends = either_begins there end text written ends
answered there end (Err NoMemory) text written ends = either_begins there end text written ends
answered there end (Err (Line n fault)) text written ends = ends
