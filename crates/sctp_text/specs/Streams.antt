-- What one call of a reader or a writer moved, and how failed calls are counted.
use Rattle.std.specs.Prelude.{ℕ, List, [], take, Result, Ok, Err}
use Rattle.sctp_text.specs.declared.source_sink.FromRead.{FromRead}
use Rattle.sctp_text.specs.declared.source_sink.ToWrite.{ToWrite}

-- the bytes that a call moved: as many of the slice's first ones as it returns, none if it failed
abbrev pub moved : {E : Type 0} → Result ℕ E → List ℕ → List ℕ
moved (Ok count) bytes = take count bytes
moved (Err _) bytes = []

-- how many failures a call adds to their count
abbrev pub failed_calls : {X E : Type 0} → Result X E → ℕ
failed_calls (Ok _) = 0
failed_calls (Err _) = 1

-- the reader of std below
abbrev pub reader_below : {R : Type 0} → FromRead R → R
reader_below source = source.reader

-- the writer of std below
abbrev pub writer_below : {W : Type 0} → ToWrite W → W
writer_below sink = sink.writer
