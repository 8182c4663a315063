-- What C gets of what an endpoint counted.
use Rattle.std.specs.Prelude.{◌≡◌, Option, None, Some, Result}
use Rattle.sctp_model.specs.end.EndView.{EndView}
use Rattle.sctp_send.specs.SenderAnswers.{abandoned_messages}
use Rattle.sctp_values.specs.declared.no_memory.NoMemory.{NoMemory}
use Rattle.sctp_endpoint.specs.Counted.{Counted, counted, none_counted, CountsAfter}
use Rattle.sctp_endpoint.specs.declared.transmit.Sent.{Sent}
use Rattle.sctp_endpoint.specs.declared.endpoint.Endpoint.{Endpoint}
use Rattle.sctp_c.specs.declared.counts.SctpCounts.{SctpCounts}

-- what the endpoint in a handle counted: nothing if there is none
abbrev pub counted_in : Option Endpoint → Counted
counted_in None = none_counted
counted_in (Some e) = counted e

-- it is counted so after its next packet, or without one
abbrev pub CountsIn : EndView → Result (Option Sent) NoMemory → Option Endpoint → (before : Counted) → Type 0
CountsIn v r None before = ⊥
CountsIn v r (Some e) before = CountsAfter v r e before

-- what the struct says that was counted
abbrev pub counts_told : SctpCounts → Counted
counts_told s = record {
  packets_out = s.packets_out;
  bytes_out = s.bytes_out;
  packets_in = s.packets_in;
  bytes_in = s.bytes_in;
  first_sent = s.first_sent;
  timer_retransmitted = s.timer_retransmitted;
  fast_retransmitted = s.fast_retransmitted;
  sacks_out = s.sacks_out;
  sacks_in = s.sacks_in;
  dropped = record { fault = s.dropped_fault; ports = s.dropped_ports; tag = s.dropped_tag; state = s.dropped_state; cookie = s.dropped_cookie };
}

-- it says what was counted, and of this view how many messages were abandoned
pub record IsCounts (s : SctpCounts) (v : EndView) (c : Counted) : Type 0 where
  pub told : counts_told s ≡ c
  pub abandoned : s.abandoned ≡ abandoned_messages v.sender
  pub reserved : s.reserved ≡ 0
