-- Small senders, computed: numbers over the wrap, turns, marks, covers and uncovers, end marks, refusals.
use Rattle.std.proofs.Common.{◌≡◌, ℕ, true, false, List, [], ◌∷◌, Some, None, map, refl}
use Rattle.sctp_model.specs.messages.Format.{Plain, Interleaved, ordered_lane}
use Rattle.sctp_model.specs.wire.Chunk.{BlockMeaning, SackMeaning}
use Rattle.sctp_model.specs.numbers.Serial.{tsn}
use Rattle.sctp_model.specs.messages.Plan.{Part, End}
use Rattle.sctp_model.specs.sender.SenderView.{SenderView, fresh_sender}
use Rattle.sctp_model.specs.sender.Entries.{in_flight, in_part}
use Rattle.sctp_model.specs.sender.Queueing.{refusal, queued, promised, NoSuchStream, Empty}
use Rattle.sctp_model.specs.sender.Filling.{Wish, fill, begun_tickets}
use Rattle.sctp_model.specs.sender.SackTaken.{sack_fault, sack_after, Stale, Beyond, BadBlock}
use Rattle.sctp_model.specs.sender.Abandoning.{abandon_answer, abandon_after, expired, timed_out, Withdrawn, Abandoned, Unknown}
use Rattle.sctp_model.specs.sender.Readers.{point, unsettled, drained, outstanding, acknowledged, abandoned}
use Rattle.sctp_model.specs.sender.Forwarding.{forward_to}

-- two streams, fragments of 4 bytes, first TSN 4294967295, a window of 100 bytes
abbrev fresh : SenderView
fresh = fresh_sender 4294967295 2 4 100 true (record { message = 65536; queue = None })

-- three fragments on stream 0, then two on stream 1, worthless from time 500
abbrev two : SenderView
two = queued (queued fresh (ordered_lane 0) 7 (1 ∷ 2 ∷ 3 ∷ 4 ∷ 5 ∷ 6 ∷ 7 ∷ 8 ∷ 9 ∷ []) None None) (ordered_lane 1) 8 (1 ∷ 2 ∷ 3 ∷ 4 ∷ 5 ∷ []) (Some 500) None

abbrev indexes : List Wish → List ℕ
indexes ws = map (λ w. w.index) ws

tsns_wrap : tsn 4294967295 0 ∷ tsn 4294967295 1 ∷ tsn 4294967295 2 ∷ [] ≡ 4294967294 ∷ 4294967295 ∷ 0 ∷ []
tsns_wrap = refl

owed : promised two ≡ 7
owed = refl

refusals : refusal two 2 [] ∷ refusal two 1 [] ∷ refusal two 1 (1 ∷ []) ∷ [] ≡ Some NoSuchStream ∷ Some Empty ∷ None ∷ []
refusals = refl

-- ---- filling

whole_messages : (fill Plain 200 two).view.plan.entries
    ≡ Part (ordered_lane 0) 0 0 ∷ Part (ordered_lane 0) 0 1 ∷ Part (ordered_lane 0) 0 2 ∷ Part (ordered_lane 1) 0 0 ∷ Part (ordered_lane 1) 0 1 ∷ []
whole_messages = refl

turns : (fill Interleaved 200 two).view.plan.entries
    ≡ Part (ordered_lane 0) 0 0 ∷ Part (ordered_lane 1) 0 0 ∷ Part (ordered_lane 0) 0 1 ∷ Part (ordered_lane 1) 0 1 ∷ Part (ordered_lane 0) 0 2 ∷ []
turns = refl

-- under I-DATA two chunks of 24 bytes fit into 50
abbrev begun : SenderView
begun = (fill Interleaved 50 two).view

begun_parts : begun.plan.entries ≡ Part (ordered_lane 0) 0 0 ∷ Part (ordered_lane 1) 0 0 ∷ []
begun_parts = refl

begun_counts : in_part begun ∷ in_flight begun ∷ outstanding begun ∷ promised begun ∷ begun.turn ∷ [] ≡ 2 ∷ 8 ∷ 4 ∷ 7 ∷ 0 ∷ []
begun_counts = refl

begun_tell : begun_tickets begun.plan begun.plan.entries ≡ 1 ∷ 2 ∷ []
begun_tell = refl

-- ---- SACKs

abbrev sack : ℕ → List BlockMeaning → SackMeaning
sack c blocks = record { cumulative = c; rwnd = 100; blocks = blocks; duplicates = [] }

-- all five went out under DATA, and then the timer expired; the first two come in, over the wrap
abbrev out : SenderView
out = timed_out (fill Plain 200 two).view

abbrev sacked : SenderView
sacked = sack_after out (sack 4294967295 (record { start = 1; end = 1 } ∷ []))

covers_and_marks : map sacked.covered (1 ∷ 2 ∷ 3 ∷ []) ≡ true ∷ true ∷ false ∷ []
covers_and_marks = refl

marks_left : map sacked.marked (1 ∷ 2 ∷ 3 ∷ 4 ∷ 5 ∷ []) ≡ false ∷ false ∷ true ∷ true ∷ true ∷ []
marks_left = refl

-- a later SACK uncovers index 2: it is in flight again, not marked
abbrev uncovered : SenderView
uncovered = sack_after sacked (sack 4294967295 [])

uncovers : map uncovered.covered (1 ∷ 2 ∷ []) ≡ true ∷ false ∷ []
uncovers = refl

uncovered_flies : in_flight uncovered ≡ 4
uncovered_flies = refl

marks_go_first : indexes (fill Plain 50 uncovered).wishes ≡ 3 ∷ 4 ∷ []
marks_go_first = refl

faults : sack_fault sacked (sack 4294967294 []) ∷ sack_fault sacked (sack 4 []) ∷ sack_fault sacked (sack 4294967295 (record { start = 2; end = 1 } ∷ [])) ∷ []
    ≡ Some Stale ∷ Some Beyond ∷ Some BadBlock ∷ []
faults = refl

-- ---- abandoning

abbrev given : SenderView
given = abandon_after begun 1

end_mark_stands : given.plan.entries ≡ Part (ordered_lane 0) 0 0 ∷ Part (ordered_lane 1) 0 0 ∷ End (ordered_lane 0) 0 ∷ []
end_mark_stands = refl

answers : map (abandon_answer given) (0 ∷ 1 ∷ 2 ∷ 3 ∷ []) ≡ Unknown ∷ Abandoned ∷ Abandoned ∷ Unknown ∷ []
answers = refl

withdrawn : map (abandon_answer (abandon_after two 1)) (1 ∷ 2 ∷ []) ≡ Withdrawn ∷ Withdrawn ∷ []
withdrawn = refl

given_readers : map (abandoned given) (1 ∷ 2 ∷ []) ≡ true ∷ false ∷ []
given_readers = refl

point_moves : point given ∷ point (abandon_after given 2) ∷ [] ≡ 1 ∷ 4 ∷ []
point_moves = refl

-- both in part, both abandoned: four indexes, and the two numbers
forward_of_both : (forward_to Interleaved (abandon_after given 2) 4).skips ≡ record { lane = ordered_lane 0; number = 0 } ∷ record { lane = ordered_lane 1; number = 0 } ∷ []
forward_of_both = refl

expires : map (abandoned (expired begun 500)) (1 ∷ 2 ∷ []) ≡ false ∷ true ∷ []
expires = refl

-- the number of an abandoned message is not used again
next_number : (fill Interleaved 50 (queued (abandon_after given 2) (ordered_lane 0) 1 (9 ∷ []) None None)).view.plan.entries
    ≡ Part (ordered_lane 0) 0 0 ∷ Part (ordered_lane 1) 0 0 ∷ End (ordered_lane 0) 0 ∷ End (ordered_lane 1) 0 ∷ Part (ordered_lane 0) 1 0 ∷ []
next_number = refl

-- three messages of one index each, all abandoned before a SACK arrived: one FORWARD to 3, naming 2
abbrev three : SenderView
three = (fill Plain 200 (queued (queued (queued fresh (ordered_lane 0) 0 (1 ∷ []) None None) (ordered_lane 0) 0 (2 ∷ []) None None) (ordered_lane 0) 0 (3 ∷ []) None None)).view

abbrev none_left : SenderView
none_left = abandon_after (abandon_after (abandon_after three 1) 2) 3

forward_of_three : forward_to Plain none_left 3 ≡ record { point = 3; skips = record { lane = ordered_lane 0; number = 2 } ∷ [] }
forward_of_three = refl

-- the second was covered by a block, the others abandoned: the point stays before it until CUM passes it
abbrev two_given : SenderView
two_given = abandon_after (abandon_after (sack_after three (sack 4294967294 (record { start = 2; end = 2 } ∷ []))) 1) 3

point_waits : point two_given ∷ point (sack_after two_given (sack 0 [])) ∷ [] ≡ 1 ∷ 3 ∷ []
point_waits = refl

acknowledged_alone : map (acknowledged (sack_after two_given (sack 1 []))) (1 ∷ 2 ∷ 3 ∷ []) ≡ false ∷ true ∷ false ∷ []
acknowledged_alone = refl

ends_drained : drained two_given ∷ drained (sack_after two_given (sack 1 [])) ∷ unsettled two_given ∷ unsettled (sack_after two_given (sack 1 [])) ∷ []
    ≡ false ∷ true ∷ true ∷ false ∷ []
ends_drained = refl
