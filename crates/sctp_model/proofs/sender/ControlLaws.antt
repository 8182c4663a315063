-- The numbers of congestion control are never 0, whatever is heard: so an endpoint with nothing in flight may send.
use Rattle.std.proofs.Common.{◌≡◌, ℕ, ◌+◌, ◌-◌, ◌*◌, ◌<◌, Bool, true, false, nat_lt, nat_le, min, max, List, [], ◌∷◌, Option, None, Some, refl, sym, subst, arith, if◌then◌else◌}
use Rattle.std.proofs.Common.{ap}
use Rattle.std.specs.Prelude.{◌||◌, ◌==◌, option_map, ◌&&◌, not, is_some}
use Rattle.std.proofs.lemmas.Bool.Decides.{nat_tests}
use Rattle.sctp_model.specs.numbers.Limits.{BURST, FIRST_WINDOW, GREATEST_WINDOW}
use Rattle.sctp_model.specs.messages.Format.{Format}
use Rattle.sctp_model.specs.sender.SenderView.{SenderView}
use Rattle.sctp_model.specs.sender.Words.{when}
use Rattle.sctp_model.specs.sender.Entries.{in_flight, flight_of}
use Rattle.sctp_model.specs.sender.Filling.{Wish, fill}
use Rattle.sctp_model.specs.sender.Abandoning.{marking}
use Rattle.sctp_model.specs.end.Misses.{is_missed, first_missed}
use Rattle.sctp_model.specs.end.Control.{Control, fresh_control, widened, started_slowly, avoided, grown, recovering, control_expired, bursting, control_heard, room_of_repeats, room_controlled, News, allowed, unused_burst, recovered, window_after, is_in_use, is_spared, with_packet, avoided_by}
use Rattle.sctp_model.specs.end.Control.{whole, chunk_flight_of, chunk_flight, newly_acked}
use Rattle.sctp_model.proofs.sender.LandLaws.{lands_as}
use Rattle.sctp_model.specs.end.Pacing.{Pace, pace_begun, fresh_pace, heard, expired_pace, sent_pace, room_paced, room_by, misses_heard, news, is_probe}
use Rattle.sctp_model.specs.end.Cubic.{Cubic}
use Rattle.sctp_model.specs.end.Trips.{trip_told, with_trip}

-- none of them is 0
pub record IsControl (k : Control) : Type 0 where
  pub size : 0 < k.size
  pub cwnd : 0 < k.cwnd
  pub burst : 0 < k.burst

-- if there is a control
abbrev pub IsControlled : Option Control → Type 0
IsControlled None = Unit {0}
IsControlled (Some k) = IsControl k

-- if there is a pace
abbrev pub IsPaced : Option Pace → Type 0
IsPaced None = Unit {0}
IsPaced (Some p) = IsControlled p.control

-- ---- at first

fresh_is : (growth : ℕ) (by_cubic : Bool) (header size window : ℕ) → 0 < size → IsControl (fresh_control growth by_cubic header size window)
fresh_is growth by_cubic header size window some = record { size = some; cwnd = first; burst = first }
  where
    first : 0 < min (4 * size) (max (2 * size) FIRST_WINDOW)
    first = omega (arith, some)

pub fresh_paced : (asked controls : Bool) (growth : ℕ) (by_cubic : Bool) (header size window : ℕ) → 0 < size → IsPaced (when asked (fresh_pace controls growth by_cubic header size window))
fresh_paced false controls growth by_cubic header size window some = tt
fresh_paced true false growth by_cubic header size window some = tt
fresh_paced true true growth by_cubic header size window some = fresh_is growth by_cubic header size window some

-- the round trip of the handshake doesn't matter
pub begun_paced : (trip : Option ℕ) (o : Option Pace) → IsPaced o → IsPaced (option_map (pace_begun trip) o)
begun_paced trip None h = tt
begun_paced trip (Some p) h = h

-- ---- what is heard

widened_is : (more : ℕ) (k : Control) → IsControl k → IsControl (widened more k)
widened_is more k h = record { size = h.size; cwnd = let some = h.cwnd in omega (arith, some); burst = h.burst }

grown_is : (in_use : Bool) (bytes now trip : ℕ) (k : Control) → IsControl k → IsControl (grown in_use bytes now trip k)
grown_is in_use bytes now trip k h = go (nat_le k.cwnd k.ssthresh)
  where
    slowly : (b : Bool) → IsControl (if b then widened (min bytes (k.growth * k.size)) k else k)
    slowly true = widened_is (min bytes (k.growth * k.size)) k h
    slowly false = h

    later : (b : Bool) → IsControl (if b then widened k.size (record k { acked = min (k.acked + bytes - k.cwnd) GREATEST_WINDOW }) else record k { acked = min (k.acked + bytes) k.cwnd })
    later true = widened_is k.size (record k { acked = min (k.acked + bytes - k.cwnd) GREATEST_WINDOW }) (record { size = h.size; cwnd = h.cwnd; burst = h.burst })
    later false = record { size = h.size; cwnd = h.cwnd; burst = h.burst }

    cubically : (c : Cubic) (more : ℕ) (b : Bool) → IsControl (if b then widened more (record k { cubic = Some c }) else k)
    cubically c more true = widened_is more (record k { cubic = Some c }) (record { size = h.size; cwnd = h.cwnd; burst = h.burst })
    cubically c more false = h

    avoids : (o : Option Cubic) → IsControl (avoided_by o in_use bytes now trip k)
    avoids None = later (in_use && nat_le k.cwnd (k.acked + bytes))
    avoids (Some c) = cubically _ _ in_use

    go : (b : Bool) → IsControl (if b then started_slowly in_use bytes k else avoided_by k.cubic in_use bytes now trip k)
    go true = slowly in_use
    go false = avoids k.cubic

recovering_is : (k : Control) → IsControl k → IsControl (recovering k)
recovering_is k h = record { size = h.size; cwnd = let some = h.size in omega (arith, some); burst = h.burst }

bursting_is : (n : News) (unused : ℕ) (k : Control) → IsControl k → IsControl (bursting n unused k)
bursting_is n unused k h = record { size = h.size; cwnd = h.cwnd; burst = go (n.bytes == 0) }
  where
    some_allowed : (b : Bool) → 0 < (if b then min (BURST * k.size + n.bytes + unused) (max k.cwnd (BURST * k.size)) else BURST * k.size)
    some_allowed true = let some = h.size in omega (arith, some)
    some_allowed false = let some = h.size in omega (arith, some)

    go : (b : Bool) → 0 < (if b then k.burst else min (n.left + allowed n unused k) GREATEST_WINDOW)
    go true = h.burst
    go false = let some = some_allowed (n.waits && not (n.recovers || n.lost)) in omega (arith, some)

heard_is : (n : News) (k : Control) → IsControl k → IsControl (control_heard n k)
heard_is n k h = bursting_is n (unused_burst n.flight k) (recovered n (window_after n k)) (by_loss (n.lost && not n.recovers) (window_after n k) (by_growth (nat_lt 0 n.bytes && not n.recovers)))
  where
    by_growth : (b : Bool) → IsControl (if b then grown (is_in_use n.waits n.flight k) n.bytes n.now n.trip k else k)
    by_growth true = grown_is (is_in_use n.waits n.flight k) n.bytes n.now n.trip k h
    by_growth false = h

    by_loss : (b : Bool) (x : Control) → IsControl x → IsControl (let y = if b then recovering x else x in record y { rescue = y.rescue || is_spared n })
    by_loss true x is = let r = recovering_is x is in record { size = r.size; cwnd = r.cwnd; burst = r.burst }
    by_loss false x is = record { size = is.size; cwnd = is.cwnd; burst = is.burst }

mapped : (f : Control → Control) (o : Option Control) → ((k : Control) → IsControl k → IsControl (f k)) → IsControlled o → IsControlled (option_map f o)
mapped f None keeps h = tt
mapped f (Some k) keeps h = keeps k h

pub heard_paced : (now : ℕ) (v u : SenderView) (o : Option Pace) → IsPaced o → IsPaced (option_map (λ p. (heard now v u p).pace) o)
heard_paced now v u None h = tt
heard_paced now v u (Some p) h =
    let m = misses_heard v u p.misses in
    mapped _ p.control (λ k is. heard_is (news k.header now (with_trip (trip_told now v u p.trips.timed) p.trips.smoothed) (is_some m.exit) (is_some (first_missed m u)) v u (marking u (is_missed m))) k is) h

-- ---- an expiry, and a packet

expired_is : (k : Control) → IsControl k → IsControl (control_expired k)
expired_is k h = record { size = h.size; cwnd = h.size; burst = omega arith }

pub expired_paced : (v : SenderView) (o : Option Pace) → IsPaced o → IsPaced (option_map (expired_pace v) o)
expired_paced v None h = tt
expired_paced v (Some p) h = mapped (λ k. if is_probe v then k else control_expired k) p.control (λ k is. go k is (is_probe v)) h
  where
    go : (k : Control) → IsControl k → (b : Bool) → IsControl (if b then k else control_expired k)
    go k is true = is
    go k is false = expired_is k is

packet_is : (flight : ℕ) (ws : List Wish) (k : Control) → IsControl k → IsControl (with_packet flight ws k)
packet_is flight [] k h = h
packet_is flight (w ∷ ws) k h = record { size = h.size; cwnd = h.cwnd; burst = h.burst }

pub sent_paced : (now : ℕ) (v u : SenderView) (ws : List Wish) (o : Option Pace) → IsPaced o → IsPaced (option_map (sent_pace now v u ws) o)
sent_paced now v u ws None h = tt
sent_paced now v u ws (Some p) h = mapped (λ k. with_packet (chunk_flight k.header u) ws k) p.control (λ k is. packet_is (chunk_flight k.header u) ws k is) h

-- ---- if nothing is in flight

-- then no chunk is
no_chunk : (header : ℕ) (v : SenderView) → in_flight v ≡ 0 → chunk_flight header v ≡ 0
no_chunk header v none = lands_as (flight_of v) (chunk_flight_of header v) 1 v.plan.entries (λ k e is nought. ap (whole header) nought) none

controlled_free : (k : Control) (f : Format) (room : ℕ) (v : SenderView) → IsControl k → in_flight v ≡ 0 → room_controlled k f room v ≡ room
controlled_free k f room v h none = subst (λ (n : ℕ). (if nat_lt n (min k.cwnd k.burst) then room else if k.rescue then room_of_repeats f (fill f room v).wishes else 0) ≡ room) (sym (no_chunk k.header v none))
    (let on : nat_lt 0 (min k.cwnd k.burst) ≡ true = let a = h.cwnd in let b = h.burst in grind (arith, nat_tests) in rw on refl)

pub free_room : (o : Option Pace) (f : Format) (room : ℕ) (v : SenderView) → IsPaced o → in_flight v ≡ 0 → room_by o f room v ≡ room
free_room None f room v h none = refl
free_room (Some p) f room v h none = by p.control h
  where
    by : (o : Option Control) → IsControlled o → room_paced o f room v ≡ room
    by None is = refl
    by (Some k) is = controlled_free k f room v is none
