-- Congestion control: the congestion window (RFC 9260, 7.2), and the limit of bursts (6.1, rule D). What is in flight and what is
-- acknowledged is counted in whole chunks, with their headers and padding; the peer's window alone counts their data (6.1, rule A).
use Rattle.std.specs.Prelude.{ℕ, ◌+◌, ◌-◌, ◌*◌, ◌/◌, ◌==◌, min, max, nat_lt, nat_le, Bool, true, false, not, ◌&&◌, ◌||◌, if◌then◌else◌, List, [], ◌∷◌, length}
use Rattle.std.specs.Prelude.{Option, None, Some, option_map}
use Rattle.sctp_model.specs.numbers.Limits.{BURST, FIRST_WINDOW, GREATEST_WINDOW}
use Rattle.sctp_model.specs.messages.Plan.{Entry}
use Rattle.sctp_model.specs.messages.Format.{Format}
use Rattle.sctp_model.specs.sender.SenderView.{SenderView}
use Rattle.sctp_model.specs.wire.Chunk.{padded}
use Rattle.sctp_model.specs.sender.Entries.{entry_bytes, is_unsettled, sum_from, flight_of}
use Rattle.sctp_model.specs.sender.Filling.{Wish, room_of, fill}
use Rattle.sctp_model.specs.end.Cubic.{Cubic, no_cubic, lost_window, cubic_lost, acked_cubic, cubic_more}
use Rattle.sctp_model.specs.sender.Words.{when}

-- The state of congestion control.
pub record Control : Type 0 where
  -- the bytes of a chunk before its data
  pub header : ℕ
  -- the space that a packet has for chunks: what its common header leaves (PMDCS)
  pub size : ℕ
  -- the packets by which an acknowledgement opens the window in slow start, at most (L)
  pub growth : ℕ
  -- the congestion window; up to `ssthresh` it grows by slow start, above it by congestion avoidance, for which `acked` counts (partial_bytes_acked);
  -- none of these, nor `burst`, grows past GREATEST_WINDOW
  pub cwnd : ℕ
  pub ssthresh : ℕ
  pub acked : ℕ
  -- the limit of bursts: a packet may be sent while less than this is in flight
  pub burst : ℕ
  -- one packet of retransmissions may be sent whatever the window is (7.2.4, step 3)
  pub rescue : Bool
  -- a packet with fragments was sent since something was newly acknowledged; the last such packet filled the window
  pub sent : Bool
  pub full : Bool
  -- with CUBIC: what it remembers
  pub cubic : Option Cubic

-- the initial window (7.2.1)
abbrev pub first_window : (size : ℕ) → ℕ
first_window size = min (4 * size) (max (2 * size) FIRST_WINDOW)

-- Its initial state, for packets with this space, and a peer that advertised this window, which is the initial ssthresh (7.2.1).
abbrev pub fresh_control : (growth : ℕ) → (by_cubic : Bool) → (header size window : ℕ) → Control
fresh_control growth by_cubic header size window = record {
  header = header;
  size = size;
  growth = growth;
  cwnd = first_window size;
  ssthresh = window;
  acked = 0;
  burst = first_window size;
  rescue = false;
  sent = false;
  full = false;
  cubic = when by_cubic no_cubic;
}

-- ---- whole chunks (7.2, 7.2.1 and 7.2.2)

-- how many bytes a chunk with so much data has, padded; none is without data
abbrev pub whole : (header many : ℕ) → ℕ
whole header many = if many == 0 then 0 else padded (header + many)

-- the chunk at an index, if it is in flight
abbrev pub chunk_flight_of : (header : ℕ) → SenderView → ℕ → Entry → ℕ
chunk_flight_of header v i e = whole header (flight_of v i e)

-- how many bytes of chunks are in flight
abbrev pub chunk_flight : (header : ℕ) → SenderView → ℕ
chunk_flight header v = sum_from (chunk_flight_of header v) 1 v.plan.entries

-- ---- how an acknowledgement opens the window: `v` is the sender before it, `u` the sender after it

-- the chunk at an index that was outstanding, and is acknowledged now
abbrev pub acked_of : (header : ℕ) → (v u : SenderView) → ℕ → Entry → ℕ
acked_of header v u i e = whole header (if is_unsettled v i e && u.covered i then length (entry_bytes v.plan e) else 0)

-- the bytes of chunks that it newly acknowledges
abbrev pub newly_acked : (header : ℕ) → (v u : SenderView) → ℕ
newly_acked header v u = sum_from (acked_of header v u) 1 v.plan.entries

-- a window larger by n bytes
abbrev pub widened : ℕ → Control → Control
widened more k = record k { cwnd = min (k.cwnd + more) GREATEST_WINDOW }

-- The window is in use (7.2.1 and 7.2.2): so much is in flight before an acknowledgement; or the last packet filled it, and more waits, so that only
-- acknowledgements that arrived together with this one have lessened what is.
abbrev pub is_in_use : (waits : Bool) → (flight : ℕ) → Control → Bool
is_in_use waits flight k = nat_le k.cwnd flight || (k.full && waits)

-- Slow start (7.2.1): if the window was in use, it grows by the bytes acknowledged, but by L packets at most.
abbrev pub started_slowly : (in_use : Bool) → (bytes : ℕ) → Control → Control
started_slowly in_use bytes k = if in_use then widened (min bytes (k.growth * k.size)) k else k

-- Congestion avoidance (7.2.2): if the window was in use, it grows by one packet for each window that was acknowledged.
abbrev pub avoided : (in_use : Bool) → (bytes : ℕ) → Control → Control
avoided in_use bytes k =
    if in_use && nat_le k.cwnd (k.acked + bytes) then widened k.size (record k { acked = min (k.acked + bytes - k.cwnd) GREATEST_WINDOW })
    else record k { acked = min (k.acked + bytes) k.cwnd }

-- Congestion avoidance by CUBIC, at this time, with this SRTT: if the window was in use, it opens by what RFC 9438 says.
abbrev pub avoided_cubic : Cubic → (in_use : Bool) → (bytes now trip : ℕ) → Control → Control
avoided_cubic c in_use bytes now trip k =
    let e = acked_cubic now k.size k.cwnd bytes c in
    if in_use then widened (cubic_more k.size k.cwnd bytes e now trip) (record k { cubic = Some (record c { epoch = Some e }) }) else k

-- by CUBIC, or as RFC 9260 says
abbrev pub avoided_by : Option Cubic → (in_use : Bool) → (bytes now trip : ℕ) → Control → Control
avoided_by None in_use bytes now trip k = avoided in_use bytes k
avoided_by (Some c) in_use bytes now trip k = avoided_cubic c in_use bytes now trip k

-- slow start up to ssthresh, congestion avoidance above it
abbrev pub grown : (in_use : Bool) → (bytes now trip : ℕ) → Control → Control
grown in_use bytes now trip k =
    if nat_le k.cwnd k.ssthresh then started_slowly in_use bytes k else avoided_by k.cubic in_use bytes now trip k

-- ---- what is lost

-- half the window, or what CUBIC leaves of it
abbrev pub less_of : Option Cubic → (cwnd : ℕ) → ℕ
less_of None cwnd = cwnd / 2
less_of (Some c) cwnd = lost_window cwnd

-- ssthresh is that, but four packets at least (7.2.3)
abbrev pub lessened : Control → Control
lessened k = record k { ssthresh = max (less_of k.cubic k.cwnd) (4 * k.size); acked = 0; cubic = option_map (cubic_lost k.cwnd) k.cubic }

-- Fast Recovery begins (7.2.4, steps 2 and 3): the window is ssthresh, and a packet of retransmissions may be sent at once.
abbrev pub recovering : Control → Control
recovering k = let x = lessened k in record x { cwnd = x.ssthresh; rescue = true }

-- The data timer expired (7.2.3; 6.3.3, E3): the window is one packet, and only one packet is sent before the next acknowledgement. CUBIC begins with the
-- window that slow start leaves (RFC 9438, 4.8).
abbrev pub control_expired : Control → Control
control_expired k =
    let x = lessened k in
    record x { cwnd = x.size; burst = 1; rescue = false; full = false; cubic = option_map (λ c. no_cubic) k.cubic }

-- ---- an acknowledgement

-- What it says: the bytes of chunks that were in flight before it, that are after it, and that it newly acknowledges; whether Fast Recovery goes on, whether
-- some fragment has its third miss indication, whether it moved CUM; whether something waits to be sent; when it arrived, and SRTT, 0 if there is none.
pub record News : Type 0 where
  pub flight : ℕ
  pub left : ℕ
  pub bytes : ℕ
  pub recovers : Bool
  pub lost : Bool
  pub moved : Bool
  pub waits : Bool
  pub now : ℕ
  pub trip : ℕ

-- The window grows by what is acknowledged outside Fast Recovery, also if CUM stays (7.2.1 and 7.2.2).
abbrev pub window_after : News → Control → Control
window_after n k = if nat_lt 0 n.bytes && not n.recovers then grown (is_in_use n.waits n.flight k) n.bytes n.now n.trip k else k

-- A packet of retransmissions may be sent whatever the window is: at each Fast Retransmit (7.2.4, step 3), and in Fast Recovery also if CUM moves, since then
-- what is first outstanding is lost too (RFC 6582, 3.2, step 3).
abbrev pub is_spared : News → Bool
is_spared n = n.lost || (n.recovers && n.moved)

-- What was lost (7.2.4): Fast Recovery begins, unless it is on.
abbrev pub recovered : News → Control → Control
recovered n k = let x = if n.lost && not n.recovers then recovering k else k in record x { rescue = x.rescue || is_spared n }

-- what earlier acknowledgements allowed, and no packet took
abbrev pub unused_burst : (flight : ℕ) → Control → ℕ
unused_burst flight k = if k.sent then 0 else k.burst - flight

-- How many bytes of chunks may be sent now: Max.Burst packets (6.1, rule D); while something waits, and outside Fast Recovery, also what is acknowledged, and
-- what earlier acknowledgements allowed: a window at most. So acknowledgements that arrive together allow what they would one by one.
abbrev pub allowed : News → (unused : ℕ) → Control → ℕ
allowed n unused k =
    if n.waits && not (n.recovers || n.lost) then min (BURST * k.size + n.bytes + unused) (max k.cwnd (BURST * k.size)) else BURST * k.size

-- The limit of bursts: an acknowledgement of nothing new leaves it as it is, since after an expiry only one packet is in flight until something is
-- acknowledged (7.2.1). partial_bytes_acked is 0 if nothing is in flight (7.2.2).
abbrev pub bursting : News → (unused : ℕ) → Control → Control
bursting n unused k = record k {
  burst = if n.bytes == 0 then k.burst else min (n.left + allowed n unused k) GREATEST_WINDOW;
  sent = k.sent && (n.bytes == 0);
  acked = if n.left == 0 then 0 else k.acked;
}

-- all that an acknowledgement does
abbrev pub control_heard : News → Control → Control
control_heard n k = bursting n (unused_burst n.flight k) (recovered n (window_after n k))

-- ---- a packet

-- A packet with fragments was sent, and so much is in flight after it: no further one is exempt from the window.
abbrev pub with_packet : (flight : ℕ) → List Wish → Control → Control
with_packet flight [] k = k
with_packet flight (w ∷ ws) k = record k { rescue = false; sent = true; full = nat_le k.cwnd flight }

-- ---- the space for fragments

-- less is in flight than the window and the limit of bursts (6.1, rules B and D): then a packet may be filled, so that the window is exceeded by less than
-- one packet
abbrev pub is_let_in : (flight : ℕ) → Control → Bool
is_let_in flight k = nat_lt flight (min k.cwnd k.burst)

-- the space that the retransmissions among these wishes take; they are first
abbrev pub room_of_repeats : Format → List Wish → ℕ
room_of_repeats f [] = 0
room_of_repeats f (w ∷ ws) = if w.view.sent w.index then room_of f w + room_of_repeats f ws else 0

-- Of this space: all, if the window allows; only that of the retransmissions, if a packet of them may be sent whatever the window is (7.2.4, step 3); else
-- none.
abbrev pub room_controlled : Control → Format → (room : ℕ) → SenderView → ℕ
room_controlled k f room v = if is_let_in (chunk_flight k.header v) k then room else if k.rescue then room_of_repeats f (fill f room v).wishes else 0
