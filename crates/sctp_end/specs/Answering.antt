-- The answers to the lines of a text, one after another: each line is answered in the state that the ones before it left.
use Rattle.std.specs.Prelude.{◌≡◌, ℕ, List, [], ◌∷◌, ◌++◌, Some, None}
use Rattle.sctp_end.specs.declared.call.Call.{Call}
use Rattle.sctp_end.specs.declared.reply.Reply.{Reply}
use Rattle.sctp_end.specs.declared.reply.Reply.TheVariants as reply
use Rattle.sctp_end.specs.Grammar.{Finds, Refuses}
use Rattle.sctp_end.specs.Performing.{Standing, Performs}
use Rattle.sctp_end.specs.ReplyText.{reply_line}
use Rattle.sctp_text.specs.TextLines.{lines_of}
use Rattle.sctp_words.specs.declared.line_fault.LineError.TheVariants as error
use Rattle.sctp_words.specs.declared.line_fault.LineFault.{LineFault}

-- What is written for a line, and what it leaves: nothing if it does nothing; a call is made and answered; and a fault, or a failed allocation of a word's
-- bytes, is reported and changes nothing.
pub data AnswersLine (s : Standing) (line : List ℕ) : List ℕ → Standing → Type 0 where
  Silent : Finds line None → AnswersLine s line [] s
  Called : (c : Call) (r : Reply) (after : Standing) → Finds line (Some c) → Performs s c r after → AnswersLine s line (reply_line r) after
  Faulty : (fault : LineFault) → Refuses line (error.Fault fault) → AnswersLine s line (reply_line (reply.Fault fault)) s
  Unread : Refuses line error.NoMemory → AnswersLine s line (reply_line reply.NoMemory) s

-- what is written for lines, one after another, and what the last one leaves
abbrev pub Answers : Standing → List (List ℕ) → List ℕ → Standing → Type 0
Answers s [] written after = (written ≡ []) × (after ≡ s)
Answers s (line ∷ lines) written after =
    (here behind : List ℕ) × (mid : Standing) × AnswersLine s line here mid × Answers mid lines behind after × (written ≡ here ++ behind)

-- what is written is the answers to all lines of a text
abbrev pub IsAnswered : Standing → (text : List ℕ) → (written : List ℕ) → Type 0
IsAnswered s text written = (after : Standing) × Answers s (lines_of text) written after

-- some bytes are a beginning of others
abbrev pub Begins : List ℕ → List ℕ → Type 0
Begins written whole = (more : List ℕ) × (whole ≡ written ++ more)

-- What is written is a beginning of the answers to first lines of a text.
pub record IsBegun (s : Standing) (text written : List ℕ) : Type 0 where
  pub front : List (List ℕ)
  pub behind : List (List ℕ)
  pub whole : List ℕ
  pub after : Standing
  pub lines : lines_of text ≡ front ++ behind
  pub answers : Answers s front whole after
  pub begins : Begins written whole
