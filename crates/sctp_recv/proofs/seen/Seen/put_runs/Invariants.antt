use Rattle.std.proofs.Common.{◌≡◌, ◌%◌, length, map, take}
use Rattle.sctp_wire.specs.Items.{blocks_in}
use Rattle.sctp_recv.specs.Blocks.{block_of_run}
use Rattle.sctp_recv.proofs.seen.Seen.put_runs.Given as goal

abbrev pub invariant-loop-i : goal.invariant-loop-i
invariant-loop-i l = record {
  told : blocks_in l.list.items ≡ map (block_of_run l.self-inside.cumulative) (take l.i l.self-inside.runs.items);
  fours : length l.list.items % 4 ≡ 0;
}
