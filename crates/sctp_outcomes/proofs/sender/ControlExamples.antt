-- Congestion control, computed: windows, losses, bursts, the window in use, whole chunks (RFC 9260, 7.2 and 6.1).
use Rattle.std.proofs.Common.{◌≡◌, ℕ, ◌*◌, true, false, Bool, List, [], ◌∷◌, map, None, refl}
use Rattle.sctp_model.specs.end.Control.{Control, fresh_control, first_window, grown, recovering, control_expired, is_in_use, News, control_heard, is_let_in, whole}

-- ---- windows (7.2)

-- at first, by packets of 576, 1,480 and 1,500 bytes
windows : first_window 564 ∷ first_window 1468 ∷ first_window 1488 ∷ [] ≡ 2256 ∷ 4404 ∷ 4404 ∷ []
windows = refl

abbrev of_window : (cwnd ssthresh acked : ℕ) → Control
of_window cwnd ssthresh acked = record { header = 16; size = 1000; growth = 1; cubic = None; cwnd = cwnd; ssthresh = ssthresh; acked = acked; burst = 9000; rescue = false; sent = true; full = false }

abbrev grows : (cwnd ssthresh acked flight bytes : ℕ) → List ℕ
grows cwnd ssthresh acked flight bytes =
    let w = of_window cwnd ssthresh acked in let k = grown (is_in_use false flight w) bytes 0 0 w in k.cwnd ∷ k.acked ∷ []

-- slow start: by what was acknowledged, by a packet at most, and not if the window wasn't in use; at ssthresh still
slow_start : grows 4000 9000 0 4000 500 ∷ grows 4000 9000 0 5200 2400 ∷ grows 4000 9000 0 3999 2400 ∷ grows 9000 9000 0 9000 1000 ∷ []
    ≡ (4500 ∷ 0 ∷ []) ∷ (5000 ∷ 0 ∷ []) ∷ (4000 ∷ 0 ∷ []) ∷ (10000 ∷ 0 ∷ []) ∷ []
slow_start = refl

-- after it: a packet for each window; if it wasn't in use no more than one window is counted
avoidance : grows 5000 4000 2000 5000 2999 ∷ grows 5000 4000 2000 5000 3001 ∷ grows 5000 4000 2000 4999 2999 ∷ grows 5000 4000 4000 4999 3000 ∷ []
    ≡ (5000 ∷ 4999 ∷ []) ∷ (6000 ∷ 1 ∷ []) ∷ (5000 ∷ 4999 ∷ []) ∷ (5000 ∷ 5000 ∷ []) ∷ []
avoidance = refl

abbrev numbers : Control → List ℕ
numbers k = k.cwnd ∷ k.ssthresh ∷ k.acked ∷ k.burst ∷ []

-- where it ends at first: at the peer's window
at_first : (fresh_control 1 false 16 1468 65536).ssthresh ≡ 65536
at_first = refl

-- Fast Recovery halves, four packets at least; an expiry leaves one packet
losses : numbers (recovering (of_window 10000 9000 77)) ∷ numbers (recovering (of_window 6000 9000 0)) ∷ numbers (control_expired (of_window 10000 9000 77)) ∷ []
    ≡ (5000 ∷ 5000 ∷ 0 ∷ 9000 ∷ []) ∷ (4000 ∷ 4000 ∷ 0 ∷ 9000 ∷ []) ∷ (1000 ∷ 5000 ∷ 0 ∷ 1 ∷ []) ∷ []
losses = refl

-- an acknowledgement that moves CUM: so much was in flight, is, and is acknowledged; in Fast Recovery or not, and something waits or not
abbrev says : (flight left bytes : ℕ) → (recovers waits : Bool) → News
says flight left bytes recovers waits = record { flight = flight; left = left; bytes = bytes; recovers = recovers; lost = false; moved = true; waits = waits; now = 0; trip = 0 }

-- four packets more than are in flight, if something was newly acknowledged; the window is broken once
lets : ((control_heard (says 3500 2500 1000 true false) (of_window 10000 9000 77)).burst ≡ 6500) × ((control_heard (says 1000 0 1000 true false) (of_window 10000 9000 77)).acked ≡ 0)
    × ((control_heard (says 900 900 0 false true) (control_expired (of_window 10000 9000 77))).burst ≡ 1)
    × (map (λ (n : ℕ). is_let_in n (of_window 4000 9000 0)) (0 ∷ 3999 ∷ 4000 ∷ []) ≡ true ∷ true ∷ false ∷ [])
    × (map (λ (n : ℕ). is_let_in n (control_expired (of_window 4000 9000 0))) (0 ∷ 1 ∷ []) ≡ true ∷ false ∷ [])
lets = (refl, refl, refl, refl, refl)

-- four acknowledgements of two packets each arrive together: what they allow adds up to a window while something waits, and doesn't else, nor in Fast Recovery
abbrev in_turn : (recovers waits : Bool) → List ℕ
in_turn recovers waits =
    let a = control_heard (says 20000 18000 2000 recovers waits) (of_window 20000 9000 0) in
    let b = control_heard (says 18000 16000 2000 recovers waits) a in
    let c = control_heard (says 16000 14000 2000 recovers waits) b in
    let d = control_heard (says 14000 12000 2000 recovers waits) c in
    a.burst ∷ b.burst ∷ c.burst ∷ d.burst ∷ []

adds_up : in_turn false true ∷ in_turn false false ∷ in_turn true true ∷ []
    ≡ (24000 ∷ 28000 ∷ 32000 ∷ 32000 ∷ []) ∷ (22000 ∷ 20000 ∷ 18000 ∷ 16000 ∷ []) ∷ (22000 ∷ 20000 ∷ 18000 ∷ 16000 ∷ []) ∷ []
adds_up = refl

-- one packet takes all of it; after an expiry, of whose one packet nothing is left, four may go
taken_up : ((control_heard (says 18000 16000 2000 false true) (record (of_window 20000 9000 0) { burst = 24000 })).burst ≡ 22000)
    × ((control_heard (says 18000 16000 2000 false true) (record (of_window 20000 9000 0) { burst = 24000; sent = false })).burst ≡ 28000)
    × ((control_heard (says 1000 0 1000 false true) (control_expired (of_window 20000 9000 0))).burst ≡ 4000)
taken_up = (refl, refl, refl)

-- the last packet filled the window, and acknowledgements before this one lessened what is in flight: it grows if something waits
still_in_use : map (λ (waits : Bool). (control_heard (says 6000 5000 1000 false waits) (record (of_window 10000 20000 0) { full = true })).cwnd) (true ∷ false ∷ []) ≡ 11000 ∷ 10000 ∷ []
still_in_use = refl

-- what is acknowledged while CUM stays counts too, but not in Fast Recovery
counts : map (λ (recovers : Bool). (control_heard (record (says 4000 3500 500 recovers false) { moved = false }) (of_window 4000 9000 0)).cwnd) (false ∷ true ∷ []) ≡ 4500 ∷ 4000 ∷ []
counts = refl

-- in Fast Recovery a packet of retransmissions may go at once for each further loss, and if CUM moves; outside it not because CUM moves
spares : (control_heard (record (says 4000 3000 1000 true true) { lost = true; moved = false }) (of_window 4000 9000 0)).rescue
    ∷ (control_heard (says 4000 3000 1000 true true) (of_window 4000 9000 0)).rescue
    ∷ (control_heard (record (says 4000 3000 1000 true true) { moved = false }) (of_window 4000 9000 0)).rescue
    ∷ (control_heard (says 4000 3000 1000 false true) (of_window 4000 9000 0)).rescue ∷ [] ≡ true ∷ true ∷ false ∷ false ∷ []
spares = refl

-- a chunk counts whole, padded: one of one byte as one of four
whole_chunks : map (whole 16) (0 ∷ 1 ∷ 4 ∷ 5 ∷ []) ≡ 0 ∷ 20 ∷ 20 ∷ 24 ∷ []
whole_chunks = refl

-- of messages of one byte 73 fill a packet of 1,480, and the first window lets four such packets go
small_chunks : map (λ (n : ℕ). is_let_in (n * (73 * whole 16 1)) (of_window 4404 9000 0)) (0 ∷ 1 ∷ 2 ∷ 3 ∷ 4 ∷ []) ≡ true ∷ true ∷ true ∷ true ∷ false ∷ []
small_chunks = refl

-- of interleaved ones the header is longer
longer_header : map (whole 20) (0 ∷ 1 ∷ 5 ∷ []) ≡ 0 ∷ 24 ∷ 28 ∷ []
longer_header = refl
