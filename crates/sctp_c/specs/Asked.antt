-- What C passes in, in the words of the definitions.
use Rattle.std.specs.Prelude.{◌≡◌, ℕ, ◌<◌, ◌⊎◌, ◌+◌, ◌==◌, nat_le, bit_and, replicate, not, ◌&&◌, ◌||◌, if◌then◌else◌, Bool, true, false, List, [], ◌∷◌, Option, Some, None}
use Rattle.std.specs.Str.{bytes_eq}
use Rattle.sctp_model.specs.end.EndView.{Configuration, Draw}
use Rattle.sctp_model.specs.end.Configured.{plain_configuration, ConfigurationFault, configuration_fault}
use Rattle.sctp_model.specs.numbers.Limits.{LEAST_WAIT}
use Rattle.sctp_terms.specs.Meanings.{config_code}
use Rattle.sctp_c.specs.declared.codes.TheConstants.{OK, NO_MEMORY, MISUSE, BAD_RESERVED, BAD_CONFIG, ZERO_KEY}
use Rattle.sctp_c.specs.declared.crossing.SctpConfig.{SctpConfig}
use Rattle.sctp_c.specs.declared.crossing.SctpDraw.{SctpDraw}

-- of the flags, 1 is fast retransmission, 2 congestion control, which brings it, and 4 stream reset
abbrev pub has_flag : (flag flags : ℕ) → Bool
has_flag flag flags = not (bit_and flags flag == 0)

-- congestion control is asked for
abbrev pub has_control : ℕ → Bool
has_control flags = has_flag 2 flags

-- fast retransmission is asked for, by its own flag or by congestion control's
abbrev pub has_fast : ℕ → Bool
has_fast flags = has_control flags || has_flag 1 flags

-- stream reset is asked for
abbrev pub has_reset : ℕ → Bool
has_reset flags = has_flag 4 flags

-- no other flag is set
abbrev pub are_flags : ℕ → Bool
are_flags flags = nat_le flags 7

-- RTO.Min in milliseconds
abbrev pub least_of : ℕ → ℕ
least_of n = if n == 0 then LEAST_WAIT else n

-- the configuration of these numbers
abbrev pub asked_by : SctpConfig → Configuration
asked_by c = record (plain_configuration c.own_port c.peer_port c.packet_limit c.fragment c.buffer c.outbound c.inbound) {
  interleave = c.interleave;
  partial = c.partial;
  delay = c.delay;
  standard_closing = c.standard_closing;
  fast_retransmit = has_fast c.flags;
  least_wait = least_of c.rto_min;
  congestion_control = has_control c.flags;
  reset = has_reset c.flags;
}

-- the draw of these numbers: a tag and a first TSN
abbrev pub drawn : SctpDraw → Draw
drawn d = record { tag = d.tag; tsn = d.tsn }

-- every reserved number is 0
abbrev pub is_zeroed : List ℕ → Bool
is_zeroed [] = true
is_zeroed (n ∷ ns) = (n == 0) && is_zeroed ns

-- the bytes of a key are all zeros
abbrev pub is_zero_key : List ℕ → Bool
is_zero_key bytes = bytes_eq bytes (replicate 32 0)

-- each flag of a configuration has a meaning, and its reserved numbers are 0
abbrev pub is_free : SctpConfig → Bool
is_free c = are_flags c.flags && is_zeroed c.reserved

-- These numbers may be used as a draw: the tag isn't 0, the reserved number is.
abbrev pub IsDraw : SctpDraw → Type 0
IsDraw d = (0 < d.tag) × (d.reserved ≡ 0)

-- the result if nothing but the configuration may be wrong, of which this is the first fault
abbrev pub IsMadeUnless : Option ConfigurationFault → ℕ → Type 0
IsMadeUnless (Some fault) n = n ≡ BAD_CONFIG + config_code fault
IsMadeUnless None n = (n ≡ OK) ⊎ (n ≡ NO_MEMORY)

-- the result by whether each flag has a meaning and all reserved numbers are 0
abbrev pub IsMadeZeroed : Bool → SctpConfig → ℕ → Type 0
IsMadeZeroed false c n = n ≡ BAD_RESERVED
IsMadeZeroed true c n = IsMadeUnless (configuration_fault (asked_by c)) n

-- The result of a call that makes an endpoint: the handle isn't empty; a flag has no meaning or a reserved number isn't 0; the first fault of the configuration; made, or
-- memory allocation failed.
abbrev pub IsMade : (full zeroed : Bool) → SctpConfig → ℕ → Type 0
IsMade true zeroed c n = n ≡ MISUSE
IsMade false zeroed c n = IsMadeZeroed zeroed c n

-- the result by whether the bytes of the key are all zeros, if all reserved numbers are 0
abbrev pub IsMadeUnder : (zero : Bool) → SctpConfig → ℕ → Type 0
IsMadeUnder true c n = n ≡ ZERO_KEY
IsMadeUnder false c n = IsMadeUnless (configuration_fault (asked_by c)) n

-- The result of a call that makes a listener: as of any endpoint; a key of zeros is refused before the configuration.
abbrev pub IsListening : (full zeroed zero : Bool) → SctpConfig → ℕ → Type 0
IsListening true zeroed zero c n = n ≡ MISUSE
IsListening false false zero c n = n ≡ BAD_RESERVED
IsListening false true zero c n = IsMadeUnder zero c n
