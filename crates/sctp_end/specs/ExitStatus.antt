-- How the program ends by its words: the exit status, and what was read, written and reported.
use Rattle.std.specs.Prelude.{◌≡◌, ℕ, ◌⊎◌, List, []}
use Rattle.sctp_model.specs.end.EndView.{EndView}
use Rattle.sctp_end.specs.declared.command_line.TheConstants.{DONE, WRONG_WORDS, FAILED, USAGE}
use Rattle.sctp_end.specs.Answering.{Begins, IsAnswered, IsBegun}
use Rattle.sctp_end.specs.Performing.{Standing}
use Rattle.sctp_end.specs.SetUpWords.{SetsUp, first_standing}

-- The lines of the input were answered: all of them, or reading, writing or an allocation failed and a prefix is written. `end` says that all input was
-- read.
abbrev pub Runs : Type 0 → Standing → ℕ → (read written : List ℕ) → Type 0
Runs end s status read written =
    ((status ≡ DONE) × end × IsAnswered s read written) ⊎ ((status ≡ FAILED) × IsBegun s read written)

-- the usage text was written, or a prefix of it if that failed
abbrev pub TellsForms : ℕ → (said : List ℕ) → Type 0
TellsForms status said = ((status ≡ WRONG_WORDS) × (said ≡ USAGE.now)) ⊎ ((status ≡ FAILED) × Begins said USAGE.now)

-- Words that set up an endpoint: it answered the lines of the input. Wrong words: nothing was read or written to the output, and the usage text was
-- written to standard error.
abbrev pub Ends : Type 0 → List (List ℕ) → ℕ → (read written said : List ℕ) → Type 0
Ends end words status read written said =
    ((v : EndView) × SetsUp words v × (said ≡ []) × Runs end (first_standing v) status read written)
    ⊎ (((v : EndView) → SetsUp words v → ⊥) × (read ≡ []) × (written ≡ []) × TellsForms status said)
