-- Abandoning, computed: end marks, answers, what expires, and what FORWARDs name and do at the peer.
use Rattle.std.proofs.Common.{◌≡◌, ℕ, true, false, List, [], ◌∷◌, map, Some, refl, None}
use Rattle.sctp_model.specs.messages.Format.{Format, Plain, Interleaved, ordered_lane}
use Rattle.sctp_model.specs.wire.Chunk.{PieceMeaning, ForwardMeaning, IData, ForwardTsn, IForwardTsn}
use Rattle.sctp_model.specs.messages.Plan.{Part, End}
use Rattle.sctp_model.specs.sender.SenderView.{SenderView, fresh_sender}
use Rattle.sctp_model.specs.receiver.ReceiverView.{Handed, ReceiverView, fresh_receiver}
use Rattle.sctp_model.specs.receiver.ForwardTaken.{OutOfDate, forward_answer}
use Rattle.sctp_model.specs.sender.Queueing.{queued}
use Rattle.sctp_model.specs.sender.Filling.{fill}
use Rattle.sctp_model.specs.sender.SackTaken.{sack_after}
use Rattle.sctp_model.specs.sender.Abandoning.{abandon_answer, abandon_after, expired, worn, timed_out, Withdrawn, Abandoned, Acknowledged, Unknown, Reliable}
use Rattle.sctp_model.specs.sender.Readers.{point, drained, unsettled, acknowledged, abandoned}
use Rattle.sctp_model.specs.sender.SentChunks.{forward_said, forward_chunk_of}
use Rattle.sctp_outcomes.specs.receiver.Steps.{cumulative, piece_step, forward_step}
use Rattle.sctp_outcomes.proofs.sender.Makers.{asks, piece, chunks, indexes, sack, block, names_one, plain_limits}

-- ---- the peer: no index above 9 is recorded here

abbrev takes : Format → ReceiverView → PieceMeaning → ReceiverView
takes f r p = piece_step f r (cumulative r 9) p

abbrev forwards : Format → ReceiverView → ForwardMeaning → ReceiverView
forwards f r x = forward_step f r (cumulative r 9) x

abbrev texts : List Handed → List (List ℕ)
texts hs = map (λ h. h.bytes) hs

-- ---- three messages of one TSN each, of which the second alone arrives

-- all three went out, with the TSNs 1, 2 and 3
abbrev three : SenderView
three = (fill Plain 200 (asks (asks (asks (fresh_sender 1 1 4 100 true plain_limits) 0 0 (10 ∷ [])) 0 0 (20 ∷ [])) 0 0 (30 ∷ []))).view

abbrev second_came : ReceiverView
second_came = takes Plain (fresh_receiver 1 1 100 0) (piece false true true 2 0 1 0 (20 ∷ []))

-- no SACK was returned, and all three are abandoned: one FORWARD to 3 names SSN 2
abbrev all_three : SenderView
all_three = abandon_after (abandon_after (abandon_after three 1) 2) 3

one_forward : forward_chunk_of Plain 1500 all_three ≡ ForwardTsn (names_one 3 0 2)
one_forward = refl

-- the second message is delivered all the same, and number 3 is next
one_arrives : (texts ((forwards Plain second_came (forward_said Plain all_three (point all_three))).waiting 0) ≡ (20 ∷ []) ∷ []) × ((forwards Plain second_came (forward_said Plain all_three (point all_three))).next 0 ≡ 3)
one_arrives = (refl, refl)

-- the SACK was returned, and the first and the third are abandoned: the first FORWARD goes to 1 and names SSN 0
abbrev two_of_three : SenderView
two_of_three = abandon_after (abandon_after (sack_after three (sack 0 100 (block 2 2 ∷ []))) 1) 3

first_forward : forward_chunk_of Plain 1500 two_of_three ≡ ForwardTsn (names_one 1 0 0)
first_forward = refl

-- the peer hands the second over, and its SACK says 2
abbrev first_arrives : ReceiverView
first_arrives = forwards Plain second_came (forward_said Plain two_of_three (point two_of_three))

second_is_due : (texts (first_arrives.waiting 0) ≡ (20 ∷ []) ∷ []) × (first_arrives.next 0 ≡ 2) × (cumulative first_arrives 9 ≡ 2)
second_is_due = (refl, refl, refl)

-- so the second FORWARD goes to 3 and names SSN 2, to the same end
abbrev answered : SenderView
answered = sack_after two_of_three (sack 2 100 [])

second_forward : forward_chunk_of Plain 1500 answered ≡ ForwardTsn (names_one 3 0 2)
second_forward = refl

same_end : (texts ((forwards Plain first_arrives (forward_said Plain answered (point answered))).waiting 0) ≡ (20 ∷ []) ∷ []) × ((forwards Plain first_arrives (forward_said Plain answered (point answered))).next 0 ≡ 3)
same_end = (refl, refl)

-- the second message counts as acknowledged, the others as abandoned, also once CUM has passed them
abbrev closed : SenderView
closed = sack_after answered (sack 3 100 [])

told_apart : (map (acknowledged closed) (1 ∷ 2 ∷ 3 ∷ []) ≡ false ∷ true ∷ false ∷ []) × (map (abandoned closed) (1 ∷ 2 ∷ 3 ∷ []) ≡ true ∷ false ∷ true ∷ [])
    × (drained answered ∷ unsettled answered ∷ [] ≡ false ∷ true ∷ []) × (drained closed ∷ unsettled closed ∷ [] ≡ true ∷ false ∷ [])
told_apart = (refl, refl, refl, refl)

-- ---- one message that arrives late, when it was abandoned and before its FORWARD

abbrev late : SenderView
late = abandon_after (fill Plain 200 (asks (fresh_sender 1 1 4 100 true plain_limits) 0 0 (10 ∷ []))).view 1

-- it is delivered, and the FORWARD that names it is out of date
abbrev late_came : ReceiverView
late_came = takes Plain (fresh_receiver 1 1 100 0) (piece false true true 1 0 0 0 (10 ∷ []))

late_arrives : (forward_chunk_of Plain 1500 late ≡ ForwardTsn (names_one 1 0 0)) × (texts (late_came.waiting 0) ≡ (10 ∷ []) ∷ []) × (forward_answer late_came (cumulative late_came 9) (forward_said Plain late (point late)) ≡ OutOfDate)
    × (forwards Plain late_came (forward_said Plain late (point late)) ≡ late_came)
late_arrives = (refl, refl, refl, refl)

-- ---- an end mark, under I-DATA

-- two of three fragments went out and were acknowledged
abbrev two_went : SenderView
two_went = sack_after (fill Interleaved 48 (asks (fresh_sender 1 1 4 100 true plain_limits) 0 7 (1 ∷ 2 ∷ 3 ∷ 4 ∷ 5 ∷ 6 ∷ 7 ∷ 8 ∷ 9 ∷ 10 ∷ 11 ∷ 12 ∷ []))).view (sack 2 100 [])

-- the message is abandoned: its end mark takes TSN 3
abbrev ended : SenderView
ended = abandon_after two_went 1

end_takes_three : ended.plan.entries ≡ Part (ordered_lane 0) 0 0 ∷ Part (ordered_lane 0) 0 1 ∷ End (ordered_lane 0) 0 ∷ []
end_takes_three = refl

-- it is never sent, and the FORWARD goes past it
end_is_passed : (indexes (fill Interleaved 200 (timed_out ended)).wishes ≡ []) × (point ended ≡ 3) × (forward_chunk_of Interleaved 1500 ended ≡ IForwardTsn (names_one 3 0 0))
end_is_passed = (refl, refl, refl)

-- the peer lets both fragments go and waits for number 1
abbrev two_came : ReceiverView
two_came = takes Interleaved (takes Interleaved (fresh_receiver 1 1 100 0) (piece false true false 1 0 0 7 (1 ∷ 2 ∷ 3 ∷ 4 ∷ []))) (piece false false false 2 0 0 1 (5 ∷ 6 ∷ 7 ∷ 8 ∷ []))

end_arrives : ((forwards Interleaved two_came (forward_said Interleaved ended (point ended))).kept ≡ []) × ((forwards Interleaved two_came (forward_said Interleaved ended (point ended))).next 0 ≡ 1)
end_arrives = (refl, refl)

-- which the next message has, after the end mark
next_has_one : chunks Interleaved (fill Interleaved 200 (asks ended 0 7 (13 ∷ []))).wishes ≡ IData (piece false true true 4 0 1 7 (13 ∷ [])) ∷ []
next_has_one = refl

-- ---- under DATA a message has all its indexes at once, and takes none more

-- one of three fragments fits; abandoned, the others don't go out
abbrev one_went : SenderView
one_went = abandon_after (fill Plain 20 (asks (fresh_sender 1 1 4 100 true plain_limits) 0 7 (1 ∷ 2 ∷ 3 ∷ 4 ∷ 5 ∷ 6 ∷ 7 ∷ 8 ∷ 9 ∷ 10 ∷ []))).view 1

no_end : (one_went.plan.entries ≡ Part (ordered_lane 0) 0 0 ∷ Part (ordered_lane 0) 0 1 ∷ Part (ordered_lane 0) 0 2 ∷ []) × (indexes (fill Plain 200 (timed_out one_went)).wishes ≡ [])
    × (forward_chunk_of Plain 1500 one_went ≡ ForwardTsn (names_one 3 0 0))
no_end = (refl, refl, refl)

-- ---- answers

-- the first was acknowledged, the second went out, the third waits; there is no fourth, and no ticket 0
abbrev some : SenderView
some = asks (sack_after (fill Plain 40 (asks (asks (fresh_sender 1 1 4 100 true plain_limits) 0 0 (1 ∷ [])) 0 0 (2 ∷ []))).view (sack 1 100 [])) 0 0 (3 ∷ [])

answers : map (abandon_answer some) (0 ∷ 1 ∷ 2 ∷ 3 ∷ 4 ∷ []) ≡ Unknown ∷ Acknowledged ∷ Abandoned ∷ Withdrawn ∷ Unknown ∷ []
answers = refl

-- an acknowledged message, and a ticket that wasn't given, leave all as it was; one that waits leaves the queue, and is withdrawn again
leaves : (abandon_after some 1 ≡ some) × (abandon_after some 4 ≡ some) × ((abandon_after some 3).queue ≡ []) × (abandon_answer (abandon_after some 3) 3 ≡ Withdrawn)
leaves = (refl, refl, refl, refl)

-- abandoned before, a message stays so, though it is covered later
stays_abandoned : abandon_answer (sack_after (abandon_after some 2) (sack 2 100 [])) 2 ≡ Abandoned
stays_abandoned = refl

-- without partial reliability a message with a number isn't abandoned
abbrev reliable : SenderView
reliable = record some { partial = false }

reliable_answers : (map (abandon_answer reliable) (1 ∷ 2 ∷ 3 ∷ []) ≡ Acknowledged ∷ Reliable ∷ Withdrawn ∷ []) × (abandon_after reliable 2 ≡ reliable)
reliable_answers = (refl, refl)

-- ---- what is past its time: at its time, and not before

abbrev timed : SenderView
timed = queued (fill Plain 200 (queued (fresh_sender 1 1 4 100 true plain_limits) (ordered_lane 0) 0 (1 ∷ []) (Some 500) None)).view (ordered_lane 0) 0 (2 ∷ []) (Some 400) None

at_its_moment : (map (abandoned (expired timed 499)) (1 ∷ 2 ∷ []) ≡ false ∷ false ∷ []) × ((expired timed 399) ≡ timed) × ((expired timed 400).queue ≡ []) × (map (abandoned (expired timed 500)) (1 ∷ 2 ∷ []) ≡ true ∷ false ∷ [])
at_its_moment = (refl, refl, refl, refl)

-- ---- what may go again once

-- a message of two fragments with a limit of one repeat, and one without after it; all went out
abbrev once : SenderView
once = (fill Plain 200 (asks (queued (fresh_sender 1 1 4 100 true plain_limits) (ordered_lane 0) 0 (1 ∷ 2 ∷ 3 ∷ 4 ∷ 5 ∷ []) None (Some 1)) 0 0 (6 ∷ []))).view

-- the data timer expires: nothing is worn yet, and all three are marked; of a packet with space for two fragments' chunks two go again
abbrev twice : SenderView
twice = (fill Plain 40 (timed_out (worn (λ i. true) once))).view

twice_is : ((worn (λ i. true) once) ≡ once) × (map (λ i. twice.repeats i) (1 ∷ 2 ∷ 3 ∷ []) ≡ 1 ∷ 1 ∷ 0 ∷ []) × (map (λ i. twice.marked i) (1 ∷ 2 ∷ 3 ∷ []) ≡ false ∷ false ∷ true ∷ [])
twice_is = (refl, refl, refl)

-- it expires again: the first message is abandoned, the other stays marked; if nothing may be abandoned, all are repeated
worn_is : (map (abandoned (worn (λ i. true) twice)) (1 ∷ 2 ∷ []) ≡ true ∷ false ∷ []) × (indexes (fill Plain 200 (timed_out (worn (λ i. true) twice))).wishes ≡ 3 ∷ [])
    × (indexes (fill Plain 200 (timed_out (worn (λ i. true) (record twice { partial = false })))).wishes ≡ 1 ∷ 2 ∷ 3 ∷ []) × (point (worn (λ i. true) twice) ≡ 2)
worn_is = (refl, refl, refl, refl)
