-- The words of what was counted.
use Rattle.std.specs.Prelude.{ℕ, List, [], ◌∷◌, codes, decimal}
use Rattle.sctp_endpoint.specs.declared.counts.Counts.{Counts}

-- PACKETS_OUT BYTES_OUT PACKETS_IN BYTES_IN FIRST TIMER FAST SACKS_OUT SACKS_IN ABANDONED FAULT PORTS TAG STATE COOKIE
abbrev pub counts_words : Counts → List (List ℕ)
counts_words x =
    codes "counts" ∷ decimal x.packets_out ∷ decimal x.bytes_out ∷ decimal x.packets_in ∷ decimal x.bytes_in
    ∷ decimal x.first_sent ∷ decimal x.timer_retransmitted ∷ decimal x.fast_retransmitted ∷ decimal x.sacks_out ∷ decimal x.sacks_in ∷ decimal x.abandoned
    ∷ decimal x.dropped.fault ∷ decimal x.dropped.ports ∷ decimal x.dropped.tag ∷ decimal x.dropped.state ∷ decimal x.dropped.cookie ∷ []
