use Rattle.std.proofs.Common.{◌≡◌, ◌++◌}
use Rattle.sctp_events.specs.Events.{side_meaning}
use Rattle.sctp_script.specs.ReportText.{streams_lines}
use Rattle.sctp_pair.specs.Sides.{SideView, SideStands}
use Rattle.sctp_pair.proofs.reporting.put_streams.Given as goal

-- the lines of the streams so far
abbrev pub invariant-loop-stream : goal.invariant-loop-stream
invariant-loop-stream l = (v : SideView) → SideStands l.side v → l.out.items ≡ l.fn.out.items ++ streams_lines (side_meaning l.name) v.end.receiver l.stream
