-- The limits as Rust has them are those of the definitions.
use Rattle.std.specs.Prelude.{◌≡◌}
use Rattle.sctp_model.specs.numbers.Limits as limits
use Rattle.sctp_values.specs.declared.limits.TheConstants.{STREAM_LIMIT, LEAST_PACKET, GREATEST_PACKET, LEAST_FRAGMENT, GREATEST_FRAGMENT, FRAGMENT_OVERHEAD, LEAST_BUFFER, GREATEST_BUFFER, LONGEST_MESSAGE, QUEUE_LIMIT, WINDOW, TSN_LIMIT, TICKET_LIMIT, BLOCK_LIMIT, DUPLICATE_LIMIT, RUN_LIMIT, LAST_MOMENT, FIRST_WAIT, LONGEST_WAIT, OPENING_REPEATS, REPEATS, SACK_DELAY, COOKIE_LIFE}

-- Name by name: of a configuration, of sending, of receiving, of time.
pub record AreTheLimits : Type 0 where
  pub streams : STREAM_LIMIT ≡ limits.STREAM_LIMIT
  pub least_packet : LEAST_PACKET ≡ limits.LEAST_PACKET
  pub greatest_packet : GREATEST_PACKET ≡ limits.GREATEST_PACKET
  pub least_fragment : LEAST_FRAGMENT ≡ limits.LEAST_FRAGMENT
  pub greatest_fragment : GREATEST_FRAGMENT ≡ limits.GREATEST_FRAGMENT
  pub overhead : FRAGMENT_OVERHEAD ≡ limits.FRAGMENT_OVERHEAD
  pub least_buffer : LEAST_BUFFER ≡ limits.LEAST_BUFFER
  pub greatest_buffer : GREATEST_BUFFER ≡ limits.GREATEST_BUFFER
  pub message : LONGEST_MESSAGE ≡ limits.LONGEST_MESSAGE
  pub queue : QUEUE_LIMIT ≡ limits.QUEUE_LIMIT
  pub window : WINDOW ≡ limits.WINDOW
  pub tsns : TSN_LIMIT ≡ limits.TSN_LIMIT
  pub tickets : TICKET_LIMIT ≡ limits.TICKET_LIMIT
  pub blocks : BLOCK_LIMIT ≡ limits.BLOCK_LIMIT
  pub duplicates : DUPLICATE_LIMIT ≡ limits.DUPLICATE_LIMIT
  pub runs : RUN_LIMIT ≡ limits.RUN_LIMIT
  pub last_moment : LAST_MOMENT ≡ limits.LAST_MOMENT
  pub first_wait : FIRST_WAIT ≡ limits.FIRST_WAIT
  pub longest_wait : LONGEST_WAIT ≡ limits.LONGEST_WAIT
  pub opening_repeats : OPENING_REPEATS ≡ limits.OPENING_REPEATS
  pub repeats : REPEATS ≡ limits.REPEATS
  pub sack_delay : SACK_DELAY ≡ limits.SACK_DELAY
  pub cookie_life : COOKIE_LIFE ≡ limits.COOKIE_LIFE
