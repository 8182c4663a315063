-- A configuration whose options of timers, heartbeats, memory and checksums are all at the values of one that asks for none of them.
use Rattle.std.specs.Prelude.{◌≡◌, false, None}
use Rattle.sctp_model.specs.numbers.Limits.{FIRST_WAIT, LONGEST_WAIT, REPEATS, OPENING_REPEATS, LONGEST_MESSAGE}
use Rattle.sctp_model.specs.end.EndView.{Configuration}

-- Each of them has the value of `plain_configuration`.
pub record HasPlainOptions (c : Configuration) : Type 0 where
  pub first_wait : c.first_wait ≡ FIRST_WAIT
  pub longest_wait : c.longest_wait ≡ LONGEST_WAIT
  pub repeats : c.repeats ≡ REPEATS
  pub opening_repeats : c.opening_repeats ≡ OPENING_REPEATS
  pub heartbeat : c.heartbeat ≡ None
  pub progress : c.progress ≡ false
  pub guard : c.guard ≡ false
  pub updates : c.updates ≡ false
  pub reserve : c.reserve ≡ 0
  pub all_blocks : c.all_blocks ≡ false
  pub growth : c.growth ≡ 1
  pub cubic : c.cubic ≡ false
  pub longest_message : c.longest_message ≡ LONGEST_MESSAGE
  pub queue_bytes : c.queue_bytes ≡ None
  pub strict : c.strict ≡ false
  pub zero_checksum : c.zero_checksum ≡ false
