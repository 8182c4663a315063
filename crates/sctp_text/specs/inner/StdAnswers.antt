-- What an answer of a reader or a writer of std is here.
use Rattle.std.specs.Prelude.{ℕ, ◌==◌, ◌&&◌, not, if◌then◌else◌, Result, Ok, Err}
use Rattle.sctp_text.specs.declared.source_sink.Failed.{Failed}

-- any failure of a reader is one
abbrev pub answer_of_read : {E : Type 0} → Result ℕ E → Result ℕ Failed
answer_of_read (Ok count) = Ok count
answer_of_read (Err _) = Err (record {})

-- so is any failure of a writer, and that it takes nothing of some bytes
abbrev pub answer_of_write : {E : Type 0} → ℕ → Result ℕ E → Result ℕ Failed
answer_of_write length (Ok count) = if count == 0 && not (length == 0) then Err (record {}) else Ok count
answer_of_write length (Err _) = Err (record {})
