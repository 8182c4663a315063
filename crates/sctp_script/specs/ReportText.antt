-- The report of a world: of A, then of B, its state and how it ended, the tickets of the messages that have numbers, those that were abandoned,
-- and what was handed over.
use Rattle.std.specs.Prelude.{ℕ, zero, suc, if◌then◌else◌, List, [], ◌∷◌, ◌++◌, length, map, filter, filter_map, Option, None, codes, decimal}
use Rattle.sctp_model.specs.messages.Format.{Ordered, Unordered, same_kind}
use Rattle.sctp_model.specs.receiver.ReceiverView.{Handed, ReceiverView, handed}
use Rattle.sctp_model.specs.sender.Filling.{begun_tickets}
use Rattle.sctp_model.specs.end.EndView.{State, Ended, state_of, ended_of, EndView}
use Rattle.sctp_model.specs.world.World.{Side, A, B, Log, World}
use Rattle.sctp_values.specs.declared.ticket.Ticket.{Ticket}
use Rattle.sctp_script.specs.OutcomeText.{side_word}
use Rattle.sctp_words.specs.Names.{state_word, end_word}
use Rattle.sctp_text.specs.SpacedWords.{line_of}

-- ---- lines

-- the number that a ticket is
abbrev pub ticket_number : Ticket → ℕ
ticket_number k = k.0

-- a line of words and numbers, left out if there is no number
abbrev pub numbers_line : List (List ℕ) → List ℕ → List ℕ
numbers_line words [] = []
numbers_line words (n ∷ ns) = line_of (words ++ map decimal (n ∷ ns))

-- an endpoint's state, and how its association ended
abbrev pub end_line : Side → State → Option Ended → List ℕ
end_line x state ended = line_of (codes "end" ∷ side_word x ∷ state_word state ∷ end_word ended ∷ [])

-- the tickets of the messages that have numbers
abbrev pub numbered_line : Side → List ℕ → List ℕ
numbered_line x tickets = numbers_line (codes "numbered" ∷ side_word x ∷ []) tickets

-- the tickets of those that were abandoned
abbrev pub abandoned_line : Side → List ℕ → List ℕ
abandoned_line x tickets = numbers_line (codes "abandoned" ∷ side_word x ∷ []) tickets

-- the numbers of the ordered messages delivered on a stream
abbrev pub handed_line : Side → (stream : ℕ) → List ℕ → List ℕ
handed_line x stream numbers = numbers_line (codes "handed" ∷ side_word x ∷ decimal stream ∷ codes "o" ∷ []) numbers

-- how many unordered ones were; no line for none
abbrev pub count_line : Side → (stream count : ℕ) → List ℕ
count_line x stream zero = []
count_line x stream (suc n) = line_of (codes "handed" ∷ side_word x ∷ decimal stream ∷ codes "u" ∷ decimal (suc n) ∷ [])

-- ---- what was delivered

-- the number of an ordered message, which has one
abbrev pub ordered_number : Handed → Option ℕ
ordered_number h = if same_kind h.lane.kind Ordered then h.number else None

-- those of the ordered ones among these, in their order
abbrev pub ordered_numbers : List Handed → List ℕ
ordered_numbers hs = filter_map ordered_number hs

-- how many of these are unordered
abbrev pub count_unordered : List Handed → ℕ
count_unordered hs = length (filter (λ h. same_kind h.lane.kind Unordered) hs)

-- a stream's two lines, of what the user took and what waits
abbrev pub stream_lines : Side → (stream : ℕ) → List Handed → List ℕ
stream_lines x stream hs = handed_line x stream (ordered_numbers hs) ++ count_line x stream (count_unordered hs)

-- those of streams 0 to n - 1
abbrev pub streams_lines : Side → ReceiverView → (n : ℕ) → List ℕ
streams_lines x r zero = []
streams_lines x r (suc n) = streams_lines x r n ++ stream_lines x n (handed r n)

-- ---- the report

-- the lines of an endpoint
abbrev pub end_report : Side → EndView → Log → List ℕ
end_report x e l =
    end_line x (state_of e.phase) (ended_of e.phase)
    ++ (numbered_line x (begun_tickets e.sender.plan e.sender.plan.entries) ++ (abandoned_line x l.order ++ streams_lines x e.receiver e.receiver.streams))

-- the lines of A, and then of B
abbrev pub report : World → List ℕ
report w = end_report A w.a w.log_a ++ end_report B w.b w.log_b
