-- Faults: what is wrong, and where.
use Rattle.std.specs.Prelude.{ℕ, ◌+◌}
use Rattle.sctp_wire.specs.declared.fault.Reason.{Reason}
use Rattle.sctp_wire.specs.declared.fault.Reason.TheVariants.{IsCut, HasShortLength, LacksPadding, HasOtherBody, HasNoList}
use Rattle.sctp_wire.specs.declared.fault.WireFault.{WireFault}
use Rattle.sctp_wire.specs.declared.fault.WireFault.TheVariants.{Cut, LengthTooSmall, PaddingMissing, ChunkBody, ParameterLength, NotAlone}

-- the fault of a chunk that begins at the offset
abbrev pub fault_at : Reason → ℕ → WireFault
fault_at IsCut offset = Cut offset
fault_at HasShortLength offset = LengthTooSmall offset
fault_at LacksPadding offset = PaddingMissing offset
fault_at HasOtherBody offset = ChunkBody offset
fault_at HasNoList offset = ParameterLength offset

-- the same fault, where this many bytes stand before
abbrev pub moved : ℕ → WireFault → WireFault
moved distance (Cut offset) = Cut (offset + distance)
moved distance (LengthTooSmall offset) = LengthTooSmall (offset + distance)
moved distance (PaddingMissing offset) = PaddingMissing (offset + distance)
moved distance (ChunkBody offset) = ChunkBody (offset + distance)
moved distance (ParameterLength offset) = ParameterLength (offset + distance)
moved distance (NotAlone offset) = NotAlone (offset + distance)

-- where a fault is
abbrev pub offset_of : WireFault → ℕ
offset_of (Cut offset) = offset
offset_of (LengthTooSmall offset) = offset
offset_of (PaddingMissing offset) = offset
offset_of (ChunkBody offset) = offset
offset_of (ParameterLength offset) = offset
offset_of (NotAlone offset) = offset
