-- The line of each outcome. The endpoint and the stream in it are those of the event that it answers.
use Rattle.std.specs.Prelude.{ℕ, List, [], ◌∷◌, codes, decimal}
use Rattle.sctp_model.specs.sender.Queueing as message
use Rattle.sctp_model.specs.sender.Abandoning as fate
use Rattle.sctp_model.specs.sender.Abandoning.{AbandonAnswer}
use Rattle.sctp_model.specs.end.UserCalls.{SendAnswer, Ticket, Refused, NotOpen}
use Rattle.sctp_model.specs.world.World.{Side, A, B, other}
use Rattle.sctp_model.specs.world.Events.{Later, Moment, Build, Deliver, Send, Abandon, Take, Reset, WasReset, Shutdown, Abort, Outcome, Done, RefusedState, Sent, Quiet, Acted, Absent, Answered, NotActed, Told, Fate, Message, NoMessage, NoSuchReset, ResetThere, NoReset, AbortTooLong}
use Rattle.sctp_events.specs.Events.{Wanted, Happens, BringsBytes}
use Rattle.sctp_words.specs.Fields.{kind_word}
use Rattle.sctp_words.specs.Names.{number_word}
use Rattle.sctp_text.specs.Numerals.{hex_word}
use Rattle.sctp_text.specs.SpacedWords.{line_of}

-- ---- what is named

-- the name of an endpoint
abbrev pub side_word : Side → List ℕ
side_word A = codes "A"
side_word B = codes "B"

-- the endpoint that answers: for a packet that is delivered, the one at which it arrives; A for an event of neither, whose line names none
abbrev pub end_named : Wanted → Side
end_named (Happens (Later x m)) = x
end_named (Happens (Moment x)) = x
end_named (Happens (Build x)) = x
end_named (Happens (Deliver x n)) = other x
end_named (Happens (Send x c)) = x
end_named (Happens (Abandon x k)) = x
end_named (Happens (Take x s)) = x
end_named (Happens (Reset x s)) = x
end_named (Happens (WasReset x)) = x
end_named (Happens (Shutdown x)) = x
end_named (Happens (Abort x r)) = x
end_named (Happens e) = A
end_named (BringsBytes x bytes) = x

-- the stream of `take`; 0 for another event, whose line names none
abbrev pub stream_named : Wanted → ℕ
stream_named (Happens (Take x s)) = s
stream_named w = 0

-- ---- the words of outcomes

-- the codes of a refused message; 6 would be a failed allocation, which is no outcome
abbrev pub refusal_code : message.Refusal → ℕ
refusal_code message.NoSuchStream = 1
refusal_code message.Empty = 2
refusal_code message.TooLong = 3
refusal_code message.QueueFull = 4
refusal_code message.Spent = 5
refusal_code message.Resetting = 8

-- the codes of what became of a message to be abandoned
abbrev pub fate_code : AbandonAnswer → ℕ
fate_code fate.Withdrawn = 1
fate_code fate.Abandoned = 2
fate_code fate.Acknowledged = 3
fate_code fate.Unknown = 4
fate_code fate.Reliable = 5

-- what this endpoint answers to a message to be sent; 7 if it isn't established
abbrev pub told_words : Side → SendAnswer → List (List ℕ)
told_words x (Ticket k) = codes "ticket" ∷ side_word x ∷ decimal k ∷ []
told_words x (Refused r) = codes "refused" ∷ decimal (refusal_code r) ∷ []
told_words x NotOpen = codes "refused" ∷ decimal 7 ∷ []

-- the words of an outcome at this endpoint and on this stream
abbrev pub outcome_words : Side → ℕ → Outcome → List (List ℕ)
outcome_words x s Done = codes "ok" ∷ []
outcome_words x s RefusedState = codes "refused" ∷ decimal 1 ∷ []
outcome_words x s AbortTooLong = codes "refused" ∷ decimal 2 ∷ []
outcome_words x s NoSuchReset = codes "refused" ∷ decimal 2 ∷ []
outcome_words x s (Sent number length) = codes "sent" ∷ side_word x ∷ decimal number ∷ decimal length ∷ []
outcome_words x s Quiet = codes "quiet" ∷ side_word x ∷ []
outcome_words x s Acted = codes "taken" ∷ side_word x ∷ []
outcome_words x s (NotActed reason) = codes "dropped" ∷ side_word x ∷ decimal reason ∷ []
outcome_words x s (Answered number length) = codes "answer" ∷ side_word x ∷ decimal number ∷ decimal length ∷ []
outcome_words x s Absent = codes "absent" ∷ []
outcome_words x s (Told answer) = told_words x answer
outcome_words x s (Fate answer) = codes "fate" ∷ side_word x ∷ decimal (fate_code answer) ∷ []
outcome_words x s (Message h) =
    codes "message" ∷ side_word x ∷ decimal s ∷ kind_word h.lane.kind ∷ number_word h.number ∷ decimal h.payload ∷ hex_word h.bytes ∷ []
outcome_words x s NoMessage = codes "empty" ∷ side_word x ∷ decimal s ∷ []
outcome_words x s (ResetThere stream before) = codes "reset" ∷ side_word x ∷ decimal stream ∷ decimal before ∷ []
outcome_words x s NoReset = codes "no-reset" ∷ side_word x ∷ []

-- the line of what was answered to what was wanted
abbrev pub outcome_line : Wanted → Outcome → List ℕ
outcome_line w o = line_of (outcome_words (end_named w) (stream_named w) o)
