-- What goes out again, computed: fragments that a SACK takes back, an expiry of the data timer, a probe of a window without space.
use Rattle.std.proofs.Common.{◌≡◌, ℕ, true, false, Bool, List, [], ◌∷◌, map, Option, Some, None, refl}
use Rattle.std.specs.Prelude.{option_map}
use Rattle.sctp_model.specs.messages.Format.{Plain}
use Rattle.sctp_model.specs.sender.SenderView.{SenderView}
use Rattle.sctp_model.specs.sender.Filling.{fill}
use Rattle.sctp_model.specs.sender.SackTaken.{sack_after}
use Rattle.sctp_model.specs.sender.Abandoning.{timed_out}
use Rattle.sctp_model.specs.end.Misses.{noticed, is_missed, taken_back}
use Rattle.sctp_model.specs.end.Control.{Control}
use Rattle.sctp_model.specs.end.Pacing.{Pace, Heard, expired_pace, sent_pace}
use Rattle.sctp_model.specs.end.EndView.{Timer}
use Rattle.sctp_model.specs.end.Clock.{timer_heard}
use Rattle.sctp_outcomes.proofs.sender.Makers.{sack, block}
use Rattle.sctp_outcomes.proofs.sender.PaceExamples.{at_least, filled, takes, one, two, three, highest}

-- ---- taken back (RFC 9260, 6.2.1 and 6.3.2)

-- the third takes back what the second acknowledged: that isn't missed by it, nor by what arrived before; the first is, a third time
abbrev back : Heard
back = takes 52 two.sender two.pace (block 2 2 ∷ block 4 4 ∷ [])

goes_back : (highest two.pace ≡ 3 ∷ 2 ∷ 0 ∷ []) × (highest back.pace ≡ 4 ∷ 3 ∷ 2 ∷ []) × (map back.sender.marked (1 ∷ 3 ∷ []) ≡ true ∷ false ∷ [])
    × (map (is_missed (taken_back two.sender (sack_after two.sender (sack 0 100 (block 2 2 ∷ []))) (record { first = 5; second = 5; third = 5; went = λ i. i; exit = None }))) (1 ∷ 3 ∷ []) ≡ true ∷ false ∷ [])
goes_back = (refl, refl, refl, refl)

-- without a pace too a timer that rests starts, if what is acknowledged is less than before, and no other
abbrev rests : Timer
rests = record { wait = 1000; repeats = 0; expiry = None }

starts : ((timer_heard None 50 (at_least 1000) 1000 two.sender back.sender rests).expiry ≡ Some 1050) × ((timer_heard None 50 (at_least 1000) 1000 two.sender (sack_after two.sender (sack 5 100 [])) rests).expiry ≡ None)
    × ((timer_heard None 50 (at_least 1000) 1000 two.sender back.sender (record rests { expiry = Some 7 })).expiry ≡ Some 7)
starts = (refl, refl, refl)

-- ---- the data timer expires (6.3.3 and 7.2.3)

-- after an expiry Fast Recovery is over, nothing is timed, and the window is one packet
expires : ((expired_pace filled.view three.pace).misses.exit ≡ None) × (highest (expired_pace filled.view three.pace) ≡ 4 ∷ 3 ∷ 2 ∷ []) × ((expired_pace filled.view one.pace).trips.timed ≡ None)
    × (option_map (λ (k : Control). k.cwnd) (expired_pace filled.view three.pace).control ≡ Some 20)
expires = (refl, refl, refl, refl)

-- what probes a window without space isn't lost: one fragment in flight, of which the peer's window holds nothing, or all
probes : ((expired_pace (sack_after filled.view (sack 4 0 [])) three.pace).control ≡ three.pace.control)
    × (option_map (λ (k : Control). k.cwnd) (expired_pace (sack_after filled.view (sack 4 4 [])) three.pace).control ≡ Some 20)
probes = (refl, refl)

-- all five go again: acknowledgements of them miss none of them, and three of what is sent after them do
abbrev late : SenderView
late = timed_out filled.view

abbrev all_again : Pace
all_again = sent_pace 70 late (fill Plain 200 late).view (fill Plain 200 late).wishes (expired_pace filled.view three.pace)

after_expiry : (map all_again.misses.went (1 ∷ 5 ∷ 6 ∷ []) ≡ 5 ∷ 5 ∷ 6 ∷ []) × (map (is_missed (noticed 5 (noticed 5 (noticed 5 all_again.misses)))) (1 ∷ 2 ∷ 5 ∷ []) ≡ false ∷ false ∷ false ∷ [])
    × (map (is_missed (noticed 8 (noticed 7 (noticed 6 all_again.misses)))) (1 ∷ 5 ∷ 6 ∷ []) ≡ true ∷ true ∷ false ∷ [])
after_expiry = (refl, refl, refl)
