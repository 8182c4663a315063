-- Streams that are reset, computed: when it is asked for, what is said, what is answered, and from where numbers are counted after it.
use Rattle.std.proofs.Common.{◌≡◌, ℕ, true, false, List, [], ◌∷◌, Some, None, refl}
use Rattle.sctp_model.specs.messages.Format.{Plain, ordered_lane}
use Rattle.sctp_model.specs.wire.Typed.{written_typed}
use Rattle.sctp_model.specs.wire.Reconfig.{ResetMeaning, Performed, WrongStream, BadNumber, InProgress, reset_item, reset_read, response_item}
use Rattle.sctp_model.specs.sender.SenderView.{SenderView, fresh_sender}
use Rattle.sctp_model.specs.sender.Outgoing.{Sends, Resets, Refuses, FirstNumber}
use Rattle.sctp_model.specs.sender.Queueing.{Resetting, queued, refusal}
use Rattle.sctp_model.specs.sender.Filling.{fill}
use Rattle.sctp_model.specs.sender.SackTaken.{sack_after}
use Rattle.sctp_model.specs.sender.PieceSaid.{number_said}
use Rattle.sctp_model.specs.sender.Resetting.{resetting, may_ask, asked, named_next, retried, request_said, response_taken}
use Rattle.sctp_model.specs.receiver.ReceiverView.{Handed, ReceiverView, fresh_receiver}
use Rattle.sctp_model.specs.receiver.ResetTaken.{reset_answer, answer_in_turn, reset_taken, old_waiting, told_of}
use Rattle.sctp_model.specs.end.EndView.{EndView, ResetAlarm, unused_timer, BeatAlarm, GuardAlarm}
use Rattle.sctp_model.specs.end.Clock.{with_timer}
use Rattle.sctp_model.specs.end.Reconfiguring.{response_heard}
use Rattle.sctp_outcomes.proofs.sender.Makers.{sack, plain_limits}
use Rattle.sctp_model.specs.numbers.Numbers.{u16_bytes, u32_bytes, u16_at, u32_at}

-- ---- a request

-- one byte went out on stream 0, index 1 of initial TSN 1; then it is acknowledged
abbrev sent : SenderView
sent = (fill Plain 100 (queued (fresh_sender 1 2 1400 65536 false plain_limits) (ordered_lane 0) 0 (97 ∷ []) None None)).view

abbrev acknowledged : SenderView
acknowledged = sack_after sent (sack 1 65536 [])

-- nothing is asked for by itself, nor before the stream is still
waits : may_ask acknowledged ∷ may_ask (resetting sent 0) ∷ may_ask (resetting acknowledged 0) ∷ [] ≡ false ∷ false ∷ true ∷ []
waits = refl

-- from the call on the stream takes nothing, and the other one does
shut : (refusal (resetting sent 0) 0 (98 ∷ []) ≡ Some Resetting) × (refusal (resetting sent 0) 1 (98 ∷ []) ≡ None)
shut = (refl, refl)

abbrev asks : SenderView
asks = asked (resetting acknowledged 0)

-- number 1, the last TSN assigned is 1, stream 0
request : asks.resets.pending ≡ Some (record { first = 1; last = 1; streams = 0 ∷ []; numbering = FirstNumber })
request = refl

said : request_said asks (record { first = 1; last = 1; streams = 0 ∷ []; numbering = FirstNumber }) ≡ record { number = 1; last = 1; streams = 0 ∷ [] }
said = refl

-- in bytes, if the peer's initial TSN is 1 and it has asked for nothing
bytes : written_typed (reset_item 0 (request_said asks (record { first = 1; last = 1; streams = 0 ∷ []; numbering = FirstNumber })) ∷ []) ≡ 0 ∷ 13 ∷ 0 ∷ 18 ∷ 0 ∷ 0 ∷ 0 ∷ 1 ∷ 0 ∷ 0 ∷ 0 ∷ 0 ∷ 0 ∷ 0 ∷ 0 ∷ 1 ∷ 0 ∷ 0 ∷ []
unfolding u16_bytes u32_bytes u16_at u32_at
bytes = refl

-- with nothing ever sent the last TSN is the one before the first
empty : request_said (asked (resetting (fresh_sender 1 1 1400 65536 false plain_limits) 0)) (record { first = 1; last = 0; streams = 0 ∷ []; numbering = FirstNumber }) ≡ record { number = 1; last = 0; streams = 0 ∷ [] }
empty = refl

-- ---- its answer

-- done: the stream is open again, and number 1 is said as 0
done : ((response_taken asks 1 1).resets.pending ≡ None) × ((response_taken asks 1 1).resets.sending 0 ≡ Sends) × (number_said Plain (response_taken asks 1 1).resets.base (ordered_lane 0) 1 ≡ 0) × (number_said Plain (response_taken asks 1 1).resets.base (ordered_lane 1) 1 ≡ 1)
done = (refl, refl, refl, refl)

-- there was nothing to do: the same; refused: it stays shut; of another request: nothing
others : ((response_taken asks 1 0).resets.sending 0 ≡ Sends) × ((response_taken asks 1 2).resets.sending 0 ≡ Refuses) × ((response_taken asks 7 1).resets.made ≡ 1) × ((response_taken asks 7 1).resets.sending 0 ≡ Resets)
others = (refl, refl, refl, refl)

-- in progress, or another one is: it keeps its number, until its timer retransmits it under the next one; one that isn't in progress keeps it then, too
abbrev kept : SenderView
kept = response_taken asks 1 6

in_progress : (kept.resets.made ≡ 1) × (kept.resets.sending 0 ≡ Resets) × (response_taken asks 1 4 ≡ kept) × ((retried kept).resets.made ≡ 2) × (retried asks ≡ asks)
in_progress = (refl, refl, refl, refl, refl)

-- success under its number counts before that, and not after it
in_time : ((response_taken kept 1 1).resets.sending 0 ≡ Sends) × (response_taken (retried kept) 1 1 ≡ retried kept) × ((response_taken (retried kept) 2 1).resets.sending 0 ≡ Sends)
in_time = (refl, refl, refl)

-- a peer that doesn't count what is in progress refuses the next number: the one before is tried again, and kept until it is in progress again; refused again, or
-- refused at once, it is over
abbrev back : SenderView
back = response_taken (retried kept) 2 5

uncounted : (back.resets.made ≡ 1) × (back.resets.sending 0 ≡ Resets) × ((retried back).resets.made ≡ 1) × ((retried (response_taken back 1 6)).resets.made ≡ 2) × ((response_taken back 1 1).resets.sending 0 ≡ Sends)
    × ((response_taken back 1 5).resets.sending 0 ≡ Refuses) × ((response_taken asks 1 5).resets.sending 0 ≡ Refuses)
uncounted = (refl, refl, refl, refl, refl, refl, refl)

-- in progress under two numbers at a peer that counts neither: it goes back to the first one by one, and there the peer performs it
abbrev two_back : SenderView
two_back = response_taken (retried (response_taken (retried kept) 2 6)) 3 5

uncounted_twice : (two_back.resets.made ≡ 2) × ((response_taken two_back 2 5).resets.made ≡ 1) × ((response_taken (response_taken two_back 2 5) 1 1).resets.sending 0 ≡ Sends)
    × ((response_taken (response_taken two_back 2 5) 1 5).resets.sending 0 ≡ Refuses)
uncounted_twice = (refl, refl, refl, refl)

-- two copies of it arrive there: in progress under the later number, and then refused: it goes back, too
abbrev copies : SenderView
copies = response_taken (response_taken (retried kept) 2 6) 2 5

uncounted_copy : (copies.resets.made ≡ 1) × (copies.resets.sending 0 ≡ Resets) × ((response_taken copies 1 1).resets.sending 0 ≡ Sends)
uncounted_copy = (refl, refl, refl)

-- the next request for the same stream, with nothing sent between, names it twice; the one after that once
abbrev once_more : SenderView → SenderView
once_more v = asked (resetting (response_taken v v.resets.made 1) 0)

named : named_next (resetting (response_taken asks 1 1) 0) ∷ named_next (resetting (response_taken (once_more asks) 2 1) 0) ∷ [] ≡ (0 ∷ 0 ∷ []) ∷ (0 ∷ []) ∷ []
named = refl

-- answered, its timer is as if it had never run: its expiries don't count for the next request
calm : (e : EndView) → (response_heard (record e { sender = asks }) 1 1).timers ResetAlarm ≡ unused_timer e.configuration.first_wait
calm e = refl

-- in progress: the timer starts anew, as if it had never expired
patient : (e : EndView) → (response_heard (with_timer ResetAlarm (record { wait = 60000; repeats = 9; expiry = Some 90000 }) (record e { sender = asks; moment = 7; pace = None; configuration = record e.configuration { first_wait = 1000 } })) 1 6).timers ResetAlarm
    ≡ record { wait = 1000; repeats = 0; expiry = Some 1007 }
patient e = refl

-- ---- at the receiver

abbrev fresh : ReceiverView
fresh = fresh_receiver 1 2 65536 0

abbrev of : (number last : ℕ) → List ℕ → ResetMeaning
of number last streams = record { number = number; last = last; streams = streams }

-- done if all up to its last TSN arrived; in progress before; a stream that isn't there
answers : reset_answer fresh 1 (of 1 1 (0 ∷ [])) ∷ reset_answer fresh 0 (of 1 1 (0 ∷ [])) ∷ reset_answer fresh 1 (of 1 1 (9 ∷ [])) ∷ [] ≡ Performed ∷ InProgress ∷ WrongStream ∷ []
answers = refl

-- a number that isn't the next one
in_turn : answer_in_turn fresh 1 Performed ∷ answer_in_turn fresh 7 Performed ∷ [] ≡ Performed ∷ BadNumber ∷ []
in_turn = refl

-- performed: the number is taken, it is to be reported to the user, and the same one again gets the same answer; in progress: the same one is looked at
-- afresh
taken : ((reset_taken fresh 1 (of 1 1 (0 ∷ []))).resets.taken ≡ 1) × ((reset_taken fresh 1 (of 1 1 (0 ∷ []))).resets.told 0 ≡ Some 0) × ((reset_taken fresh 1 (of 1 1 (0 ∷ []))).resets.told 1 ≡ None) × (answer_in_turn (reset_taken fresh 1 (of 1 1 (0 ∷ []))) 1 InProgress ≡ Performed) × (answer_in_turn (reset_taken fresh 0 (of 1 1 (0 ∷ []))) 1 Performed ≡ Performed)
taken = (refl, refl, refl, refl, refl)

-- in progress, performed under the same number, and retried with the next one before its sender knew: it is to be reported once
abbrev delayed : ReceiverView
delayed = reset_taken (reset_taken fresh 0 (of 1 1 (0 ∷ []))) 1 (of 1 1 (0 ∷ []))

abbrev retaken : ReceiverView
retaken = reset_taken (told_of delayed 0) 1 (of 2 1 (0 ∷ []))

once : (delayed.resets.told 0 ≡ Some 0) × (retaken.resets.taken ≡ 2) × (retaken.resets.result ≡ Performed) × (retaken.resets.told 0 ≡ None)
once = (refl, refl, refl, refl)

-- a reset of its own, which names the stream twice, or is up to another TSN, is reported
other_ones : ((reset_taken (told_of delayed 0) 1 (of 2 1 (0 ∷ 0 ∷ []))).resets.told 0 ≡ Some 0) × ((reset_taken (told_of delayed 0) 1 (of 2 0 (0 ∷ []))).resets.told 0 ≡ Some 0)
    × ((reset_taken retaken 1 (of 3 1 (0 ∷ []))).resets.told 0 ≡ Some 0)
other_ones = (refl, refl, refl)

-- three were delivered before it, of which the user took one: two are reported to it; once it took another, and one more arrived, one; of those that arrive
-- after it none counts; the next request counts them all
abbrev message : Handed
message = record { first = 1; lane = ordered_lane 0; number = Some 0; payload = 0; bytes = [] }

abbrev with_messages : ReceiverView → (taken waiting : List Handed) → ReceiverView
with_messages r taken waiting = record r { taken = λ s. taken; waiting = λ s. waiting }

abbrev behind : ReceiverView
behind = reset_taken (with_messages fresh (message ∷ []) (message ∷ message ∷ [])) 1 (of 1 1 (0 ∷ []))

abbrev later : ReceiverView
later = with_messages behind (message ∷ message ∷ []) (message ∷ message ∷ [])

abbrev last : ReceiverView
last = with_messages behind (message ∷ message ∷ message ∷ message ∷ []) (message ∷ [])

old : (behind.resets.told 0 ≡ Some 3) × (behind.resets.told 1 ≡ None) × (old_waiting behind 0 ∷ old_waiting later 0 ∷ old_waiting last 0 ∷ [] ≡ 2 ∷ 1 ∷ 0 ∷ [])
    × (old_waiting (reset_taken last 1 (of 2 1 (0 ∷ []))) 0 ≡ 1) × ((told_of behind 0).resets.told 0 ≡ None)
old = (refl, refl, refl, refl, refl)

answer_bytes : written_typed (response_item 1 Performed ∷ []) ≡ 0 ∷ 16 ∷ 0 ∷ 12 ∷ 0 ∷ 0 ∷ 0 ∷ 1 ∷ 0 ∷ 0 ∷ 0 ∷ 1 ∷ []
unfolding u16_bytes u32_bytes u16_at u32_at
answer_bytes = refl

-- what is read is what was said
reads : reset_read (reset_item 0 (of 1 4294967295 (0 ∷ 258 ∷ []))) ≡ of 1 4294967295 (0 ∷ 258 ∷ [])
unfolding u16_bytes u32_bytes u16_at u32_at
reads = refl
