-- What is printed for bytes, and for text that says them: the lines of a packet or of chunks, or the line of what is wrong.
use Rattle.std.specs.Prelude.{◌≡◌, ℕ, ◌⊎◌, Bool, true, false, List, [], ◌∷◌, ◌++◌, Result, Ok, Err, codes, decimal}
use Rattle.std.specs.List.{flat_map}
use Rattle.hex.specs.Hex.{decode_of}
use Rattle.hex.specs.declared.error.FromHexError.{FromHexError}
use Rattle.sctp_model.specs.wire.Chunk.{ChunkMeaning}
use Rattle.sctp_model.specs.wire.Packet.{Packet}
use Rattle.sctp_text.specs.SpacedWords.{line_of}
use Rattle.sctp_wire.specs.declared.fault.WireFault.{WireFault}
use Rattle.sctp_wire.specs.declared.fault.WireFault.TheVariants.{Cut, LengthTooSmall, PaddingMissing, ChunkBody, ParameterLength, NotAlone}
use Rattle.sctp_wire.specs.FirstFault.{Faults}
use Rattle.sctp_wire.specs.FaultTree.{offset_of}
use Rattle.sctp_wire.specs.Reads.{Reads}
use Rattle.sctp_packet.specs.PacketBytes.{ReadsPacket, FaultsPacket}
use Rattle.sctp_packet.specs.declared.fault.PacketFault.{PacketFault}
use Rattle.sctp_packet.specs.declared.fault.PacketFault.TheVariants.{Short, Checksum, NoChunk, Wire}
use Rattle.sctp_print.specs.ChunkLines.{tag_word, chunk_line}

-- ---- lines of faults

-- the number of a fault of chunks
abbrev pub fault_number : WireFault → ℕ
fault_number (Cut offset) = 1
fault_number (LengthTooSmall offset) = 2
fault_number (PaddingMissing offset) = 3
fault_number (ChunkBody offset) = 4
fault_number (ParameterLength offset) = 5
fault_number (NotAlone offset) = 6

-- chunks that can't be read: the fault's number, and the offset of its chunk
abbrev pub wire_fault_line : WireFault → List ℕ
wire_fault_line f = line_of (codes "fault" ∷ codes "3" ∷ decimal (fault_number f) ∷ codes "at" ∷ decimal (offset_of f) ∷ [])

-- a packet that can't be read
abbrev pub packet_fault_line : PacketFault → List ℕ
packet_fault_line Short = line_of (codes "fault" ∷ codes "1" ∷ [])
packet_fault_line Checksum = line_of (codes "fault" ∷ codes "2" ∷ [])
packet_fault_line NoChunk = line_of (codes "fault" ∷ codes "4" ∷ [])
packet_fault_line (Wire f) = wire_fault_line f

-- text that says no bytes
abbrev pub hex_fault_line : List ℕ
hex_fault_line = line_of (codes "fault" ∷ codes "hex" ∷ [])

-- ---- what is printed, and whether it was read

-- the lines of chunks
abbrev pub chunk_lines : List ChunkMeaning → List ℕ
chunk_lines ms = flat_map chunk_line ms

-- the line of a packet's header
abbrev pub header_line : Packet → List ℕ
header_line p = line_of (codes "packet" ∷ decimal p.source ∷ decimal p.destination ∷ codes "tag" ∷ tag_word p.tag ∷ [])

-- of bytes that are chunks their lines, of others the line of their fault
abbrev pub IsChunksText : List ℕ → List ℕ → Bool → Type 0
IsChunksText bytes text was_read =
    ((was_read ≡ true) × ((ms : List ChunkMeaning) × Reads bytes ms × (text ≡ chunk_lines ms)))
    ⊎ ((was_read ≡ false) × ((f : WireFault) × Faults bytes f × (text ≡ wire_fault_line f)))

-- of bytes that are a packet the lines of its header and its chunks, of others the line of their fault
abbrev pub IsPacketText : List ℕ → List ℕ → Bool → Type 0
IsPacketText bytes text was_read =
    ((was_read ≡ true) × ((p : Packet) × ReadsPacket bytes p × (text ≡ header_line p ++ chunk_lines p.chunks)))
    ⊎ ((was_read ≡ false) × ((f : PacketFault) × FaultsPacket bytes f × (text ≡ packet_fault_line f)))

-- of text that says bytes in hexadecimal, of either case, what is printed for them; of other text the line of that
abbrev pub IsTextOf : (List ℕ → List ℕ → Bool → Type 0) → Result (List ℕ) FromHexError → List ℕ → Bool → Type 0
IsTextOf IsText (Ok bytes) text was_read = IsText bytes text was_read
IsTextOf IsText (Err e) text was_read = (was_read ≡ false) × (text ≡ hex_fault_line)

-- what is printed for the word after `packet`
abbrev pub IsPacketTextOf : List ℕ → List ℕ → Bool → Type 0
IsPacketTextOf word text was_read = IsTextOf IsPacketText (decode_of word) text was_read

-- what is printed for the word after `chunks`
abbrev pub IsChunksTextOf : List ℕ → List ℕ → Bool → Type 0
IsChunksTextOf word text was_read = IsTextOf IsChunksText (decode_of word) text was_read

-- what was appended to other text
abbrev pub Adds : (List ℕ → Bool → Type 0) → List ℕ → List ℕ → Bool → Type 0
Adds IsText old new was_read = (text : List ℕ) × (new ≡ old ++ text) × IsText text was_read
