-- The gap blocks of runs (RFC 9260, 3.3.4).
use Rattle.std.specs.Prelude.{ℕ, ◌-◌}
use Rattle.sctp_model.specs.wire.Chunk.{BlockMeaning}
use Rattle.sctp_recv.specs.declared.runs.SeenRun.{SeenRun}

-- a run, as offsets from the cumulative index
abbrev pub block_of_run : ℕ → SeenRun → BlockMeaning
block_of_run c r = record { start = r.first - c; end = r.last - c }
