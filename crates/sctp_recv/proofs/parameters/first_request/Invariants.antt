use Rattle.std.specs.Prelude.{ℕ, length}
use Rattle.sctp_reconfig.specs.Reading.{ListAtMost}
use Rattle.sctp_recv.specs.inner.Requesting.{ActAs}
use Rattle.sctp_recv.proofs.parameters.first_request.Given as goal

-- those before what is left do nothing
abbrev pub invariant-loop-parameter : goal.invariant-loop-parameter
invariant-loop-parameter l = record {
  acts : ActAs l.fn.parameters l.parameters;
  lists : (n : ℕ) → ListAtMost n l.fn.parameters → ListAtMost n l.parameters;
}

abbrev pub decreases-loop-parameter : goal.decreases-loop-parameter
decreases-loop-parameter l = length l.parameters
