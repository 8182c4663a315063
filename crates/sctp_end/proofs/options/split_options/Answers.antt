use Rattle.std.proofs.Common.{map, string_bytes}
use Rattle.sctp_end.proofs.options.split_options.Goals as goal

pub returns : goal.returns
returns c = record {
  behind_delay = map string_bytes c.split_delay-delay.result.1.now;
  behind_standard = map string_bytes c.split_standard_closing-standard_closing.result.1.now;
  behind_fast = map string_bytes c.split_fast_retransmit-fast_retransmit.result.1.now;
  behind_control = map string_bytes c.split_congestion_control-congestion_control.result.1.now;
  delay = c.split_delay-delay.ensures;
  standard = c.split_standard_closing-standard_closing.ensures;
  fast = c.split_fast_retransmit-fast_retransmit.ensures;
  control = c.split_congestion_control-congestion_control.ensures;
  reset = c.split_reset-reset.ensures;
}
