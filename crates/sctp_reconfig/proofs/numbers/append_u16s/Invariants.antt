use Rattle.std.specs.Prelude.{◌≡◌, ◌+◌, ◌*◌, ◌≤◌, ◌++◌, length, drop, map, vec_len, vec_capacity}
use Rattle.sctp_model.specs.numbers.Lists.{joined}
use Rattle.sctp_model.specs.numbers.Numbers.{u16_bytes}
use Rattle.sctp_reconfig.proofs.numbers.append_u16s.Given as goal

-- what is left goes behind what was appended, and there is capacity for it
abbrev pub invariant-loop-number : goal.invariant-loop-number
invariant-loop-number l = record {
  items : l.out.items ++ joined (map u16_bytes (drop l.number-index l.numbers)) ≡ l.fn.out.items ++ joined (map u16_bytes l.fn.numbers);
  same : l.numbers ≡ l.fn.numbers;
  len : vec_len l.out + 2 * length (drop l.number-index l.numbers) ≡ vec_len l.fn.out + 2 * length l.fn.numbers;
  spare : vec_len l.out + 2 * length (drop l.number-index l.numbers) ≤ vec_capacity l.out;
  room : vec_capacity l.fn.out ≤ vec_capacity l.out;
}
