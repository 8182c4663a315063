-- The pace of an endpoint: round trips, Fast Retransmit and congestion control (RFC 9260, 6.3.1 and 7.2).
-- All of it only chooses which fragments are marked for retransmission, how long the data timer waits, and how much space a packet has for fragments.
use Rattle.std.specs.Prelude.{ℕ, suc, nat_lt, nat_le, Bool, not, ◌&&◌, ◌||◌, ◌==◌, if◌then◌else◌, List, [], ◌∷◌, Option, None, Some, is_some, unwrap_or, ◌/◌}
use Rattle.std.specs.Prelude.{option_map}
use Rattle.sctp_model.specs.messages.Format.{Format}
use Rattle.sctp_model.specs.sender.SenderView.{SenderView}
use Rattle.sctp_model.specs.sender.Words.{when, some_passes}
use Rattle.sctp_model.specs.sender.Entries.{in_flight}
use Rattle.sctp_model.specs.sender.Readers.{has_more}
use Rattle.sctp_model.specs.sender.Filling.{Wish}
use Rattle.sctp_model.specs.sender.Abandoning.{marking}
use Rattle.sctp_model.specs.end.Trips.{Smoothed, Trips, fresh_trips, wait_of, timed_from, still_timed, trip_told, with_trip, RtoBounds}
use Rattle.sctp_model.specs.end.Misses.{Misses, fresh_misses, expired_misses, misses_sent, moves, newest, noticed, taken_back, is_missed, first_missed}
use Rattle.sctp_model.specs.end.Misses.{last_sent, recovery_at, recovery_begun}
use Rattle.sctp_model.specs.end.Control.{Control, News, fresh_control, newly_acked, control_heard, control_expired, with_packet, room_controlled, chunk_flight}

-- What an endpoint remembers for it.
pub record Pace : Type 0 where
  pub trips : Trips
  pub misses : Misses
  -- if it is set up for congestion control
  pub control : Option Control

-- the pace of a new association, with or without congestion control, for packets with this space, and a peer that advertised this window
abbrev pub fresh_pace : (controls : Bool) → (growth : ℕ) → (by_cubic : Bool) → (header size window : ℕ) → Pace
fresh_pace controls growth by_cubic header size window =
    record { trips = fresh_trips; misses = fresh_misses; control = when controls (fresh_control growth by_cubic header size window) }

-- ---- an acknowledgement: `v` is the sender before it, `u` the sender after it

-- What it leaves: the sender, in which what has its third miss indication is marked for retransmission; the pace; the round trip that it measured; whether
-- it moved CUM; whether the data timer is restarted.
pub record Heard : Type 0 where
  pub sender : SenderView
  pub pace : Pace
  pub trip : Option ℕ
  pub moved : Bool
  pub anew : Bool

-- the misses after it: Fast Recovery may be over by it, and it may take something back
abbrev pub misses_heard : (v u : SenderView) → Misses → Misses
misses_heard v u m =
    let x = taken_back v u (record m { exit = recovery_at u.cum m.exit }) in
    noticed (newest (is_some x.exit) v u) x

-- what it says to congestion control: `w` is the sender after it with what is marked
abbrev pub news : (header now : ℕ) → Option Smoothed → (recovers lost : Bool) → (v u w : SenderView) → News
news header now s recovers lost v u w = record {
  flight = chunk_flight header v;
  left = chunk_flight header w;
  bytes = newly_acked header v u;
  recovers = recovers;
  lost = lost;
  moved = moves v u;
  waits = has_more v;
  now = now;
  trip = unwrap_or (option_map (λ x. x.eight / 8) s) 0;
}

-- It arrives at this time. The timer is restarted if CUM moved (RFC 9260, 6.3.2, rule R3), or if the first outstanding fragment has its third miss
-- indication: it is retransmitted (7.2.4, step 4) or, if it may not be again, a FORWARD is sent in its place.
abbrev pub heard : (now : ℕ) → (v u : SenderView) → Pace → Heard
heard now v u p =
    let m = misses_heard v u p.misses in
    let lost = first_missed m u in
    let w = marking u (is_missed m) in
    let trip = trip_told now v u p.trips.timed in
    record {
      sender = w;
      pace = record {
        trips = record { timed = still_timed w p.trips.timed; smoothed = with_trip trip p.trips.smoothed };
        misses = recovery_begun u (is_some lost) m;
        control = option_map (λ k. control_heard (news k.header now (with_trip trip p.trips.smoothed) (is_some m.exit) (is_some lost) v u w) k) p.control;
      };
      trip = trip;
      moved = moves v u;
      anew = moves v u || some_passes (λ i. i == suc u.cum) lost;
    }

-- the RTO by the round trips; RTO.Initial if none was measured (6.3.1, C1 to C3)
abbrev pub wait_measured : RtoBounds → Option Smoothed → ℕ
wait_measured w s = unwrap_or (option_map (wait_of w) s) w.first

-- The RTO after it: the one computed, if it measured a round trip, or moved CUM, so that the peer can be reached: a doubled RTO is reset then, not by a
-- measurement alone (6.3.3, after E3); else it stays.
abbrev pub wait_heard : RtoBounds → (wait : ℕ) → Heard → ℕ
wait_heard least wait h = if is_some h.trip || h.moved then wait_measured least h.pace.trips.smoothed else wait

-- ---- the handshake

-- the pace of a new association, with the round trip that its handshake measured, if any
abbrev pub pace_begun : (trip : Option ℕ) → Pace → Pace
pace_begun trip p = record p { trips = record p.trips { smoothed = with_trip trip p.trips.smoothed } }

-- the data timer's first RTO: by that round trip; else `wait`, the RTO of the handshake, which each expiry doubled (6.3.1, C1 and C2; 6.3.3, E2)
abbrev pub wait_begun : RtoBounds → (wait : ℕ) → Pace → ℕ
wait_begun least wait p = unwrap_or (option_map (wait_of least) p.trips.smoothed) wait

-- ---- the data timer expires

-- What is in flight probes a window without space (6.1, rule A): it is more than the peer has space for, and no more than a fragment has. That the peer drops
-- it is no sign of congestion.
abbrev pub is_probe : SenderView → Bool
is_probe v = nat_lt v.rwnd (in_flight v) && nat_le (in_flight v) v.fragment

-- the pace after an expiry, at a sender as it is before it (6.3.3, 7.2.3): nothing is timed, and the window is one packet, unless that was such a probe
abbrev pub expired_pace : SenderView → Pace → Pace
expired_pace v p = record {
  trips = record p.trips { timed = None };
  misses = expired_misses p.misses;
  control = option_map (λ k. if is_probe v then k else control_expired k) p.control;
}

-- ---- a packet

-- the space for fragments, by congestion control
abbrev pub room_paced : Option Control → Format → (room : ℕ) → SenderView → ℕ
room_paced None f room v = room
room_paced (Some k) f room v = room_controlled k f room v

-- the space for fragments, of that which a packet has left
abbrev pub room_by : Option Pace → Format → (room : ℕ) → SenderView → ℕ
room_by None f room v = room
room_by (Some p) f room v = room_paced p.control f room v

-- The pace after a packet with these fragments was sent at this time: `v` is the sender before it, `u` the sender after it.
abbrev pub sent_pace : (now : ℕ) → (v u : SenderView) → List Wish → Pace → Pace
sent_pace now v u ws p = record p {
  trips = record p.trips { timed = timed_from p.trips.timed now (last_sent v) (last_sent u) };
  misses = misses_sent (last_sent v) ws p.misses;
  control = option_map (λ k. with_packet (chunk_flight k.header u) ws k) p.control;
}
