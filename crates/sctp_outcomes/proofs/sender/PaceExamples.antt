-- The pace of an endpoint, computed: round trips, misses, Fast Recovery, the packet that goes at once.
use Rattle.std.proofs.Common.{◌≡◌, ℕ, true, false, Bool, List, [], ◌∷◌, map, length, Option, Some, None, refl, ◌==◌, if◌then◌else◌}
use Rattle.sctp_model.specs.numbers.Limits.{FIRST_WAIT, LONGEST_WAIT}
use Rattle.sctp_model.specs.messages.Format.{Plain, ordered_lane}
use Rattle.sctp_model.specs.wire.Chunk.{BlockMeaning}
use Rattle.sctp_model.specs.sender.SenderView.{SenderView, fresh_sender}
use Rattle.sctp_model.specs.sender.Entries.{in_flight}
use Rattle.sctp_model.specs.sender.Filling.{Fill, fill}
use Rattle.sctp_model.specs.sender.SackTaken.{sack_after}
use Rattle.sctp_model.specs.sender.Abandoning.{abandon_after, timed_out}
use Rattle.sctp_model.specs.end.Trips.{Smoothed, smoothed_by, wait_of, RtoBounds}
use Rattle.sctp_model.specs.end.Misses.{fresh_misses, noticed, is_missed, first_missed}
use Rattle.sctp_model.specs.end.Control.{Control, newly_acked, room_controlled, chunk_flight}
use Rattle.sctp_model.specs.end.Pacing.{Pace, fresh_pace, Heard, heard, wait_heard, sent_pace}
use Rattle.sctp_outcomes.proofs.sender.Makers.{asks, indexes, sack, block, plain_limits}
use Rattle.sctp_model.specs.end.Moments.{given_up as gives_up}
use Rattle.sctp_model.specs.sender.Queueing.{queued}
use Rattle.std.specs.Prelude.{option_map}

-- ---- round trips (6.3.1)

abbrev after_one : Smoothed
after_one = smoothed_by None 100

-- the bounds of an RTO with this minimum
abbrev pub at_least : ℕ → RtoBounds
at_least n = record { first = FIRST_WAIT; least = n; longest = LONGEST_WAIT }

-- R is 100: SRTT 100, RTTVAR 50; the wait 300, and 1,000 by RTO.Min
first_trip : (after_one ≡ record { eight = 800; four = 200 }) × (wait_of (at_least 0) after_one ≡ 300) × (wait_of (at_least 1000) after_one ≡ 1000)
first_trip = (refl, refl, refl)

-- the same again: RTTVAR 37.5, the wait 250; then 200: SRTT 112.5, RTTVAR by the SRTT before it
later_trips : (smoothed_by (Some after_one) 100 ≡ record { eight = 800; four = 150 }) × (smoothed_by (Some (smoothed_by (Some after_one) 100)) 200 ≡ record { eight = 900; four = 213 })
later_trips = (refl, refl)

-- no variance counts as a tick; none waits longer than the longest wait
bounds : (wait_of (at_least 0) (record { eight = 80; four = 0 }) ≡ 14) × (wait_of (at_least 0) (smoothed_by None 60000) ≡ 60000)
bounds = (refl, refl)

-- ---- misses (7.2.4)

-- the three largest, in whatever order they come; what lies below the third of them has its third miss, and at two nothing has
thirds : (map (is_missed (noticed 4 (noticed 3 (noticed 2 fresh_misses)))) (1 ∷ 2 ∷ []) ≡ true ∷ false ∷ [])
    × (is_missed (noticed 3 (noticed 2 fresh_misses)) 1 ≡ false)
    × ((noticed 6 (noticed 9 (noticed 5 (noticed 7 fresh_misses)))).third ≡ 6)
thirds = (refl, refl, refl)

-- five fragments of 4 bytes, with the TSNs 1 to 5; packets take one chunk, of 20 bytes, so that the window is 80
abbrev pub asked : SenderView
asked = asks (fresh_sender 1 1 4 100 true plain_limits) 0 0 (1 ∷ 2 ∷ 3 ∷ 4 ∷ 5 ∷ 6 ∷ 7 ∷ 8 ∷ 9 ∷ 10 ∷ 11 ∷ 12 ∷ 13 ∷ 14 ∷ 15 ∷ 16 ∷ 17 ∷ 18 ∷ 19 ∷ 20 ∷ [])

-- the first went out at time 0, in a packet of its own, the others at 1
abbrev pub first : Fill
first = fill Plain 20 asked

abbrev pub filled : Fill
filled = fill Plain 200 first.view

abbrev pub paced : Pace
paced = sent_pace 1 first.view filled.view filled.wishes (sent_pace 0 asked first.view first.wishes (fresh_pace true 1 false 16 20 500))

-- of a packet of five the last is timed
whole_packet : (sent_pace 0 asked (fill Plain 200 asked).view (fill Plain 200 asked).wishes (fresh_pace true 1 false 16 20 500)).trips.timed ≡ Some (record { index = 5; moment = 0 })
whole_packet = refl

abbrev pub takes : (now : ℕ) → SenderView → Pace → (blocks : List BlockMeaning) → Heard
takes now v p blocks = heard now v (sack_after v (sack 0 100 blocks)) p

-- the first is lost: three acknowledgements in turn
abbrev pub one : Heard
one = takes 50 filled.view paced (block 2 2 ∷ [])

abbrev pub two : Heard
two = takes 51 one.sender one.pace (block 2 3 ∷ [])

abbrev pub three : Heard
three = takes 52 two.sender two.pace (block 2 4 ∷ [])

-- the first is timed: one at a time
timed : (paced.trips.timed ≡ Some (record { index = 1; moment = 0 })) × (two.pace.trips.timed ≡ Some (record { index = 1; moment = 0 })) × (two.trip ≡ None)
timed = (refl, refl, refl)

-- the highest that acknowledgements newly acknowledged
abbrev pub highest : Pace → List ℕ
highest p = p.misses.first ∷ p.misses.second ∷ p.misses.third ∷ []

-- nothing is marked at two misses; at three the first goes again, is timed no more, and the timer begins anew
goes_again : (map two.sender.marked (1 ∷ 5 ∷ []) ≡ false ∷ false ∷ []) × (two.anew ≡ false)
    × (map three.sender.marked (1 ∷ 2 ∷ 3 ∷ 4 ∷ 5 ∷ []) ≡ true ∷ false ∷ false ∷ false ∷ false ∷ []) × (three.anew ≡ true) × (three.pace.trips.timed ≡ None)
    × (highest three.pace ≡ 4 ∷ 3 ∷ 2 ∷ []) × (three.pace.misses.exit ≡ Some 5)
    × (three.pace.control ≡ Some (record { header = 16; size = 20; growth = 1; cubic = None; cwnd = 80; ssthresh = 80; acked = 0; burst = 100; rescue = true; sent = false; full = true }))
goes_again = (refl, refl, refl, refl, refl, refl, refl, refl)

-- the packet in which the first goes again
abbrev again : Fill
again = fill Plain 200 three.sender

abbrev pub resent : SenderView
resent = again.view

abbrev resent_pace : Pace
resent_pace = sent_pace 60 three.sender again.view again.wishes three.pace

-- what is acknowledged grows the window; a packet that went takes the rescue, and one without fragments changes nothing
grows_by_one : (one.pace.control ≡ Some (record { header = 16; size = 20; growth = 1; cubic = None; cwnd = 100; ssthresh = 500; acked = 0; burst = 160; rescue = false; sent = false; full = true }))
    × (resent_pace.control ≡ Some (record { header = 16; size = 20; growth = 1; cubic = None; cwnd = 80; ssthresh = 80; acked = 0; burst = 100; rescue = false; sent = true; full = false }))
    × ((sent_pace 60 filled.view filled.view [] (fresh_pace true 1 false 16 20 500)).trips.timed ≡ None)
grows_by_one = (refl, refl, refl)

-- once it went out again, what was sent before it doesn't miss it
abbrev four : Heard
four = takes 53 resent resent_pace (block 2 5 ∷ [])

missed_once : (map resent_pace.misses.went (1 ∷ 2 ∷ []) ≡ 5 ∷ 2 ∷ []) × (resent.marked 1 ≡ false) × (four.sender.marked 1 ≡ false) × (four.anew ≡ false) × (four.pace.misses.exit ≡ Some 5)
missed_once = (refl, refl, refl, refl, refl)

-- three of what is sent after it do: it goes again, and the window is cut no further
abbrev more_asked : SenderView
more_asked = asks resent 0 0 (21 ∷ 22 ∷ 23 ∷ 24 ∷ 25 ∷ 26 ∷ 27 ∷ 28 ∷ 29 ∷ 30 ∷ 31 ∷ 32 ∷ [])

abbrev more_sent : Fill
more_sent = fill Plain 200 more_asked

abbrev six : Heard
six = takes 70 more_sent.view (sent_pace 61 more_asked more_sent.view more_sent.wishes resent_pace) (block 2 6 ∷ [])

abbrev seven : Heard
seven = takes 71 six.sender six.pace (block 2 7 ∷ [])

abbrev eight : Heard
eight = takes 72 seven.sender seven.pace (block 2 8 ∷ [])

missed_again : (highest eight.pace ≡ 8 ∷ 7 ∷ 6 ∷ []) × (seven.sender.marked 1 ≡ false) × (eight.sender.marked 1 ≡ true) × (option_map (λ (k : Control). k.ssthresh) eight.pace.control ≡ Some 80)
    × (option_map (λ (k : Control). k.rescue) seven.pace.control ≡ Some false) × (option_map (λ (k : Control). k.rescue) eight.pace.control ≡ Some true)
missed_again = (refl, refl, refl, refl, refl, refl)

-- all is acknowledged: Fast Recovery is over; what went out twice measures nothing, and the wait goes back to the first one
abbrev done : Heard
done = heard 90 resent (sack_after resent (sack 5 100 [])) four.pace

over : (done.pace.misses.exit ≡ None) × (done.trip ≡ None) × (wait_heard (at_least 0) 2000 done ≡ 1000)
over = (refl, refl, refl)

-- what neither moves CUM nor measures a trip leaves it as it is, a doubled one too
stays_doubled : (one.moved ≡ false) × (one.trip ≡ None) × (wait_heard (at_least 0) 2000 one ≡ 2000) × (wait_heard (at_least 0) 2000 four ≡ 2000)
stays_doubled = (refl, refl, refl, refl)

-- one that acknowledges a part leaves Fast Recovery on, and the window as it is, and a packet of retransmissions may go at once
abbrev part : Heard
part = heard 60 resent (sack_after resent (sack 4 100 [])) resent_pace

stays_on : (part.pace.misses.exit ≡ Some 5) × (part.anew ≡ true) × (part.pace.control ≡ Some (record { header = 16; size = 20; growth = 1; cubic = None; cwnd = 80; ssthresh = 80; acked = 0; burst = 100; rescue = true; sent = false; full = false }))
stays_on = (refl, refl, refl)

-- in Fast Recovery the highest that is covered counts, and not just anew; of what was outstanding one fragment is acknowledged
highest_counts : (part.pace.misses.second ≡ 4) × (part.pace.misses.third ≡ 3) × (newly_acked 16 resent (sack_after resent (sack 4 100 [])) ≡ 20)
    × (newly_acked 16 filled.view (sack_after filled.view (sack 2 100 [])) ≡ 40)
    × (newly_acked 16 (abandon_after filled.view 1) (sack_after (abandon_after filled.view 1) (sack 2 100 [])) ≡ 0)
highest_counts = (refl, refl, refl, refl, refl)

-- a window of one packet
abbrev full : Bool → Control
full rescue = record { header = 16; size = 20; growth = 1; cubic = None; cwnd = 20; ssthresh = 80; acked = 0; burst = 500; rescue = rescue; sent = true; full = false }

-- with a window in use it grows outside Fast Recovery alone
abbrev in_use : (exit : Option ℕ) → Option Control
in_use exit = (heard 60 resent (sack_after resent (sack 4 100 [])) (record three.pace { misses = record three.pace.misses { exit = exit }; control = Some (full false) })).pace.control

recovery_holds : (in_use (Some 5) ≡ Some (record { header = 16; size = 20; growth = 1; cubic = None; cwnd = 20; ssthresh = 80; acked = 0; burst = 100; rescue = true; sent = false; full = false }))
    × (in_use None ≡ Some (record { header = 16; size = 20; growth = 1; cubic = None; cwnd = 40; ssthresh = 80; acked = 0; burst = 100; rescue = false; sent = false; full = false }))
recovery_holds = (refl, refl)

-- one loss more in Fast Recovery: marked, and a packet of it may go at once, but nothing is cut, its end stays, and the timer goes on, as what is first
-- outstanding went again already, and isn't missed
abbrev more_lost : Heard
more_lost = takes 53 filled.view (record paced { misses = record { first = 5; second = 5; third = 4; went = λ i. if i == 1 then 5 else i; exit = Some 9 } }) (block 5 5 ∷ [])

cut_once : (map more_lost.sender.marked (1 ∷ 2 ∷ 3 ∷ 4 ∷ 5 ∷ []) ≡ false ∷ true ∷ true ∷ true ∷ false ∷ []) × (more_lost.anew ≡ false) × (more_lost.pace.misses.exit ≡ Some 9)
    × (more_lost.pace.control ≡ Some (record { header = 16; size = 20; growth = 1; cubic = None; cwnd = 80; ssthresh = 500; acked = 0; burst = 100; rescue = true; sent = false; full = true }))
cut_once = (refl, refl, refl, refl)

-- Fast Recovery lasts until what went out is acknowledged, and not what has an index alone
abbrev four_out : SenderView
four_out = (fill Plain 80 asked).view

abbrev lost_of_four : Heard
lost_of_four =
    let a = takes 50 four_out (fresh_pace true 1 false 16 20 500) (block 2 2 ∷ []) in
    let b = takes 51 a.sender a.pace (block 2 3 ∷ []) in
    takes 52 b.sender b.pace (block 2 4 ∷ [])

ends_at : (length four_out.plan.entries ≡ 5) × (lost_of_four.pace.misses.exit ≡ Some 4)
ends_at = (refl, refl)

-- what is marked already is no new loss
no_new_loss : (first_missed (record { first = 5; second = 4; third = 3; went = λ i. i; exit = None }) filled.view ≡ Some 1)
    × (first_missed (record { first = 5; second = 4; third = 3; went = λ i. i; exit = None }) (timed_out filled.view) ≡ None)
no_new_loss = (refl, refl)

-- the same blocks three times: just the first time they cover something anew, and miss the first
abbrev seen_once : Heard
seen_once = takes 50 filled.view paced (block 2 4 ∷ [])

abbrev seen_twice : Heard
seen_twice = takes 51 seen_once.sender seen_once.pace (block 2 4 ∷ [])

abbrev seen_thrice : Heard
seen_thrice = takes 52 seen_twice.sender seen_twice.pace (block 2 4 ∷ [])

no_news : (seen_thrice.sender.marked 1 ≡ false) × (highest seen_thrice.pace ≡ 4 ∷ 0 ∷ 0 ∷ [])
no_news = (refl, refl)

-- a message that was given up: its fragments are covered by a FORWARD, and measure nothing
given_up : ((heard 40 (abandon_after filled.view 1) (sack_after (abandon_after filled.view 1) (sack 5 100 [])) paced).trip ≡ None)
    × ((heard 40 filled.view (sack_after filled.view (sack 5 100 [])) paced).trip ≡ Some 40)
given_up = (refl, refl)

-- without a loss the first measures 40
abbrev clean : Heard
clean = heard 40 filled.view (sack_after filled.view (sack 2 100 [])) paced

-- the one after it measures no trip, but moves CUM: a doubled wait goes back to the one measured
abbrev later : Heard
later = heard 45 clean.sender (sack_after clean.sender (sack 3 100 [])) clean.pace

no_trip : (later.trip ≡ None) × (wait_heard (at_least 0) 2000 later ≡ 120) × (wait_heard (at_least 1000) 2000 later ≡ 1000) × ((heard 100000 filled.view (sack_after filled.view (sack 2 100 [])) paced).trip ≡ Some 60000)
    × (clean.pace.control ≡ Some (record { header = 16; size = 20; growth = 1; cubic = None; cwnd = 100; ssthresh = 500; acked = 0; burst = 140; rescue = false; sent = false; full = true }))
no_trip = (refl, refl, refl, refl, refl)

measures : (clean.trip ≡ Some 40) × (clean.pace.trips.smoothed ≡ Some (record { eight = 320; four = 80 })) × (wait_heard (at_least 0) 2000 clean ≡ 120) × (clean.anew ≡ true)
measures = (refl, refl, refl, refl)

-- five fragments of 4 bytes are five chunks of 20, of which the window counts all, and the peer's 20 bytes
counted : (in_flight filled.view ≡ 20) × (chunk_flight 16 filled.view ≡ 100) × (chunk_flight 20 filled.view ≡ 120) × (chunk_flight 16 (timed_out filled.view) ≡ 0)
counted = (refl, refl, refl, refl)

-- ---- the packet that goes at once (7.2.4, step 3)

-- a message more waits, and the window is full: the one marked goes, and no other
abbrev waiting : SenderView
waiting = asks three.sender 0 0 (21 ∷ 22 ∷ [])

at_once : (in_flight waiting ≡ 4) × (indexes (fill Plain 200 waiting).wishes ≡ 1 ∷ 6 ∷ [])
    × (indexes (fill Plain (room_controlled (full true) Plain 200 waiting) waiting).wishes ≡ 1 ∷ [])
    × (indexes (fill Plain (room_controlled (full false) Plain 200 waiting) waiting).wishes ≡ [])
at_once = (refl, refl, refl, refl)

-- ---- fragments that may not be retransmitted again (RFC 7496, 3.1)

-- the five of a message with limit 0
abbrev pub once_only : Fill
once_only = fill Plain 200 (queued (fresh_sender 1 1 4 100 true plain_limits) (ordered_lane 0) 0 (1 ∷ 2 ∷ 3 ∷ 4 ∷ 5 ∷ 6 ∷ 7 ∷ 8 ∷ 9 ∷ 10 ∷ 11 ∷ 12 ∷ 13 ∷ 14 ∷ 15 ∷ 16 ∷ 17 ∷ 18 ∷ 19 ∷ 20 ∷ []) None (Some 0))

abbrev pub worn_one : Heard
worn_one = takes 50 once_only.view (fresh_pace true 1 false 16 20 500) (block 2 2 ∷ [])

abbrev pub worn_two : Heard
worn_two = takes 51 worn_one.sender worn_one.pace (block 2 3 ∷ [])

abbrev pub worn_three : Heard
worn_three = takes 52 worn_two.sender worn_two.pace (block 2 4 ∷ [])

-- three misses report a loss, and mark nothing: the timer begins anew, as a FORWARD goes out in place of the first once its message is abandoned
marks_none : (map worn_three.sender.marked (1 ∷ 2 ∷ 3 ∷ 4 ∷ 5 ∷ []) ≡ false ∷ false ∷ false ∷ false ∷ false ∷ []) × (worn_three.pace.misses.exit ≡ Some 5) × (worn_three.anew ≡ true)
    × (in_flight worn_three.sender ≡ 8)
marks_none = (refl, refl, refl, refl)

-- the data timer would abandon it too, before it marks: so nothing is in flight, nor to be retransmitted
given_up_there : ((gives_up true worn_three.sender 1000).abandoned (ordered_lane 0) 0 ≡ true) × (in_flight (timed_out (gives_up true worn_three.sender 1000)) ≡ 0)
    × (map (timed_out (gives_up true worn_three.sender 1000)).marked (1 ∷ 5 ∷ []) ≡ false ∷ false ∷ []) × (in_flight (timed_out worn_three.sender) ≡ 8)
given_up_there = (refl, refl, refl, refl)
