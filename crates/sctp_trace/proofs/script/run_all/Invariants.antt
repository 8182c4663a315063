use Rattle.std.proofs.Common.{◌≡◌, ℕ, ◌-◌, ◌≤◌, ◌++◌, List}
use Rattle.sctp_trace.specs.Stages.{Stage}
use Rattle.sctp_trace.specs.inner.ScriptSteps.{IsSoFar}
use Rattle.sctp_trace.proofs.script.run_all.Given as goal
use Rattle.sctp_text.specs.declared.limits.TheConstants.{LONGEST_TEXT}

-- what was read, written and gathered so far, by which lines; no call has failed
abbrev pub invariant-loop : goal.invariant-loop
invariant-loop g l = record {
  so : (text done : List ℕ) × (lines : List (List ℕ)) × (stage : Stage) × g.R.Source.Reads l.fn.input text l.input
      × g.W.Sink.Writes l.fn.output done l.output × IsSoFar l.running text (done ++ l.gathered.items) lines stage;
  small : l.running.lines.given ≤ LONGEST_TEXT;
  reads : g.R.Source.failures l.input ≡ g.R.Source.failures l.fn.input;
  writes : g.W.Sink.failures l.output ≡ g.W.Sink.failures l.fn.output;
}

abbrev pub decreases-loop : goal.decreases-loop
decreases-loop g l = LONGEST_TEXT - l.running.lines.given
