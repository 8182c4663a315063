use Rattle.std.specs.Prelude.{◌≡◌, ◌+◌, ◌*◌, ◌≤◌, ◌++◌, length, vec_len, vec_capacity}
use Rattle.std.specs.List.{flat_map, AllByRecursion}
use Rattle.sctp_wire.specs.Skips.{skip_size, skip_bytes, IsSkip}
use Rattle.sctp_wire.proofs.skips.append_skips.Given as goal

-- what is left goes behind what was appended, and there is room for it
abbrev pub invariant-loop-skip : goal.invariant-loop-skip
invariant-loop-skip l = record {
  items : l.out.items ++ flat_map (skip_bytes l.form) l.skip-iterator ≡ l.fn.out.items ++ flat_map (skip_bytes l.form) l.fn.skips.skips;
  in_range : AllByRecursion (IsSkip l.form) l.skip-iterator;
  spare : vec_len l.out + skip_size l.form * length l.skip-iterator ≤ vec_capacity l.out;
  len : vec_len l.out + skip_size l.form * length l.skip-iterator ≡ vec_len l.fn.out + skip_size l.form * length l.fn.skips.skips;
  room : vec_capacity l.fn.out ≤ vec_capacity l.out;
}
