-- The line of each answer.
use Rattle.std.specs.Prelude.{ℕ, Bool, if◌then◌else◌, List, [], ◌∷◌, option_map, codes, decimal}
use Rattle.sctp_send.specs.SenderAnswers.{answer_code}
use Rattle.sctp_terms.specs.Meanings.{reason_code, state_meaning, end_meaning}
use Rattle.sctp_values.specs.Meanings.{kind_meaning}
use Rattle.sctp_end.specs.declared.reply.Refusal.{Refusal}
use Rattle.sctp_end.specs.declared.reply.Refusal.TheVariants.{NotIdle, NoSuchStream, Empty, TooLong, QueueFull, Spent, Resetting, NotEstablished, NotAgreed, NoSuchReset, NotOpen, NoPeer, ReasonTooLong}
use Rattle.sctp_end.specs.CountsText.{counts_words}
use Rattle.sctp_end.specs.PathText.{path_words}
use Rattle.sctp_end.specs.StatusText.{status_words}
use Rattle.sctp_end.specs.declared.reply.Reply.{Reply}
use Rattle.sctp_end.specs.declared.reply.Reply.TheVariants as reply
use Rattle.sctp_text.specs.Numerals.{hex_word}
use Rattle.sctp_text.specs.SpacedWords.{line_of}
use Rattle.sctp_words.specs.Fields.{kind_word}
use Rattle.sctp_words.specs.Lines.{kind_of}
use Rattle.sctp_words.specs.Names.{state_word, end_word, number_word}

-- the code that is printed for a refusal: 6 of a message, and 3 of an abort, would be a failed allocation
abbrev pub refusal_code : Refusal → ℕ
refusal_code NotIdle = 1
refusal_code NoSuchStream = 1
refusal_code Empty = 2
refusal_code TooLong = 3
refusal_code QueueFull = 4
refusal_code Spent = 5
refusal_code Resetting = 8
refusal_code NotEstablished = 7
refusal_code NotAgreed = 1
refusal_code NoSuchReset = 2
refusal_code NotOpen = 1
refusal_code NoPeer = 1
refusal_code ReasonTooLong = 2

-- yes or no
abbrev pub truth_word : Bool → List ℕ
truth_word b = if b then codes "yes" else codes "no"

-- the words of an answer
abbrev pub reply_words : Reply → List (List ℕ)
reply_words reply.Done = codes "ok" ∷ []
reply_words (reply.Refused r) = codes "refused" ∷ decimal (refusal_code r) ∷ []
reply_words reply.Taken = codes "taken" ∷ []
reply_words (reply.Dropped reason) = codes "dropped" ∷ decimal (reason_code reason) ∷ []
reply_words (reply.Answer bytes) = codes "answer" ∷ hex_word bytes ∷ []
reply_words (reply.Sent bytes) = codes "sent" ∷ hex_word bytes ∷ []
reply_words reply.Quiet = codes "quiet" ∷ []
reply_words (reply.Ticket k) = codes "ticket" ∷ decimal k ∷ []
reply_words (reply.Fate fate) = codes "fate" ∷ decimal (answer_code fate) ∷ []
reply_words (reply.Holds b) = truth_word b ∷ []
reply_words (reply.Message stream kind number payload bytes) =
    codes "message" ∷ decimal stream ∷ kind_word (kind_meaning kind) ∷ number_word number ∷ decimal payload ∷ hex_word bytes ∷ []
reply_words (reply.Empty stream) = codes "empty" ∷ decimal stream ∷ []
reply_words (reply.ResetThere stream count) = codes "reset" ∷ decimal stream ∷ decimal count ∷ []
reply_words reply.NoReset = codes "no-reset" ∷ []
reply_words (reply.Next moment) = codes "next" ∷ number_word moment ∷ []
reply_words (reply.Stands state ended) = codes "state" ∷ state_word (state_meaning state) ∷ end_word (option_map end_meaning ended) ∷ []
reply_words (reply.Held n) = codes "held" ∷ decimal n ∷ []
reply_words (reply.Reassembly n) = codes "reassembly" ∷ decimal n ∷ []
reply_words (reply.Status x) = status_words x
reply_words (reply.Path flight x) = path_words flight x
reply_words (reply.Counts x) = counts_words x
reply_words (reply.Fault fault) = codes "fault" ∷ decimal (kind_of fault) ∷ []
reply_words reply.NoMemory = codes "memory" ∷ []

-- the line of an answer
abbrev pub reply_line : Reply → List ℕ
reply_line r = line_of (reply_words r)
