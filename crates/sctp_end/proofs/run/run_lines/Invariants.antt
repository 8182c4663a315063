use Rattle.std.proofs.Common.{◌≡◌, ℕ, ◌-◌, ◌≤◌, List}
use Rattle.sctp_model.specs.end.EndView.{EndView}
use Rattle.sctp_endpoint.specs.EndpointStands.{EndpointStands}
use Rattle.sctp_text.specs.declared.limits.TheConstants.{LONGEST_TEXT}
use Rattle.sctp_end.specs.SessionStands.{standing}
use Rattle.sctp_end.specs.inner.Running.{IsSoFar}
use Rattle.sctp_end.proofs.run.run_lines.Given as goal

-- what was read and written so far, by which lines; no call has failed
abbrev pub invariant-loop-lines : goal.invariant-loop-lines
invariant-loop-lines g l = record {
  so : (v : EndView) → EndpointStands l.fn.session.endpoint v → (read written : List ℕ) × (given : List (List ℕ)) × g.R.Source.Reads l.fn.input read l.input
      × g.W.Sink.Writes l.fn.output written l.output × IsSoFar (standing l.fn.session v) l.session l.lines read written given;
  small : l.lines.given ≤ LONGEST_TEXT;
  reads : g.R.Source.failures l.input ≡ g.R.Source.failures l.fn.input;
  writes : g.W.Sink.failures l.output ≡ g.W.Sink.failures l.fn.output;
}

abbrev pub decreases-loop-lines : goal.decreases-loop-lines
decreases-loop-lines g l = LONGEST_TEXT - l.lines.given
