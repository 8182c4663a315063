-- The line of a chunk: its name and its fields, as words.
use Rattle.std.specs.Prelude.{ℕ, Bool, List, [], ◌∷◌, ◌++◌, length, codes, decimal, if◌then◌else◌}
use Rattle.byteorder.specs.Endian.{big_bytes}
use Rattle.hex.specs.Hex.{encode_lower}
use Rattle.sctp_model.specs.wire.Chunk.{PieceMeaning, BlockMeaning, SackMeaning, InitMeaning, SkipMeaning, ForwardMeaning, ChunkMeaning, Data, IData, Init, InitAck, Sack, Heartbeat, HeartbeatAck, Abort, Shutdown, ShutdownAck, Error, CookieEcho, CookieAck, ShutdownComplete, ForwardTsn, IForwardTsn, Unknown}
use Rattle.sctp_model.specs.wire.Typed.{Typed, typed_in}
use Rattle.sctp_text.specs.Numerals.{hex_word}
use Rattle.sctp_text.specs.SpacedWords.{line_of}
use Rattle.sctp_print.specs.declared.words.TheConstants.{COMMA, DASH, COLON}

-- ---- words

-- a letter if a flag is set
abbrev pub letter : ℕ → Bool → List ℕ
letter c set = if set then c ∷ [] else []

-- `-` for nothing
abbrev pub or_dash : List ℕ → List ℕ
or_dash [] = DASH ∷ []
or_dash (c ∷ cs) = c ∷ cs

-- the flags that are set, of I, U, B and E in this order (ASCII 73, 85, 66, 69)
abbrev pub flags_word : PieceMeaning → List ℕ
flags_word p = or_dash (letter 73 p.immediate ++ (letter 85 p.unordered ++ (letter 66 p.begin ++ letter 69 p.end)))

-- a tag, eight digits
abbrev pub tag_word : ℕ → List ℕ
tag_word tag = encode_lower (big_bytes 4 tag)

-- a flag of a chunk, 1 or 0
abbrev pub flag_word : Bool → List ℕ
flag_word set = if set then codes "1" else codes "0"

-- each item after a comma
abbrev pub each_behind_comma : {X : Type 0} → (X → List ℕ) → List X → List ℕ
each_behind_comma word [] = []
each_behind_comma word (x ∷ xs) = COMMA ∷ (word x ++ each_behind_comma word xs)

-- items with commas between them
abbrev pub joined : {X : Type 0} → (X → List ℕ) → List X → List ℕ
joined word [] = DASH ∷ []
joined word (x ∷ xs) = word x ++ each_behind_comma word xs

-- a gap block: start and end
abbrev pub block_word : BlockMeaning → List ℕ
block_word b = decimal b.start ++ (DASH ∷ decimal b.end)

-- an entry of a FORWARD-TSN: stream and number
abbrev pub skip_word : SkipMeaning → List ℕ
skip_word s = decimal s.stream ++ (COLON ∷ decimal s.number)

-- an entry of an I-FORWARD-TSN: stream, `u` for unordered or `o`, number
abbrev pub kind_skip_word : SkipMeaning → List ℕ
kind_skip_word s = decimal s.stream ++ (COLON ∷ ((if s.unordered then codes "u" else codes "o") ++ (COLON ∷ decimal s.number)))

-- the type of a parameter or a cause
abbrev pub type_word : Typed → List ℕ
type_word x = decimal x.kind

-- ---- lines

-- what the word of an I-DATA is: the payload protocol identifier of a first fragment, else the FSN
abbrev pub word_name : Bool → List ℕ
word_name begin = if begin then codes "id" else codes "fsn"

-- DATA or I-DATA: the chunk's name, its flags, and its fields after their names, two of which are given
abbrev pub piece_words : (name number word : List ℕ) → PieceMeaning → List (List ℕ)
piece_words name number word p =
    name ∷ flags_word p ∷ codes "tsn" ∷ decimal p.tsn ∷ codes "stream" ∷ decimal p.stream ∷ number ∷ decimal p.number
    ∷ word ∷ decimal p.word ∷ codes "data" ∷ hex_word p.bytes ∷ []

-- DATA (RFC 9260, 3.3.1)
abbrev pub data_words : PieceMeaning → List (List ℕ)
data_words p = piece_words (codes "DATA") (codes "ssn") (codes "id") p

-- I-DATA (RFC 8260, 2.1)
abbrev pub i_data_words : PieceMeaning → List (List ℕ)
i_data_words p = piece_words (codes "I-DATA") (codes "mid") (word_name p.begin) p

-- INIT and INIT ACK (RFC 9260, 3.3.2 and 3.3.3): of the parameters the number
abbrev pub init_words : List ℕ → InitMeaning → List (List ℕ)
init_words name i =
    name ∷ codes "tag" ∷ tag_word i.tag ∷ codes "rwnd" ∷ decimal i.rwnd ∷ codes "out" ∷ decimal i.outbound ∷ codes "in" ∷ decimal i.inbound
    ∷ codes "tsn" ∷ decimal i.tsn ∷ codes "params" ∷ decimal (length (typed_in i.parameters)) ∷ []

-- SACK (RFC 9260, 3.3.4): its blocks and duplicates in order
abbrev pub sack_words : SackMeaning → List (List ℕ)
sack_words s =
    codes "SACK" ∷ codes "cum" ∷ decimal s.cumulative ∷ codes "rwnd" ∷ decimal s.rwnd ∷ codes "blocks" ∷ joined block_word s.blocks
    ∷ codes "dups" ∷ joined decimal s.duplicates ∷ []

-- a type without a case of its own: the type in decimal, flags and value in hexadecimal digits (RFC 9260, 3.2)
abbrev pub unknown_words : ℕ → ℕ → List ℕ → List (List ℕ)
unknown_words kind flags value =
    codes "UNKNOWN" ∷ decimal kind ∷ codes "flags" ∷ encode_lower (flags ∷ []) ∷ codes "value" ∷ hex_word value ∷ []

-- FORWARD-TSN and I-FORWARD-TSN (RFC 3758, 3.2; RFC 8260, 2.3.1): the point, and its entries as this word says them
abbrev pub forward_words : List ℕ → (SkipMeaning → List ℕ) → ForwardMeaning → List (List ℕ)
forward_words name word f = name ∷ codes "cum" ∷ decimal f.cumulative ∷ codes "skips" ∷ joined word f.skips ∷ []

-- the words of a chunk
abbrev pub chunk_words : ChunkMeaning → List (List ℕ)
chunk_words (Data p) = data_words p
chunk_words (IData p) = i_data_words p
chunk_words (Init i) = init_words (codes "INIT") i
chunk_words (InitAck i) = init_words (codes "INIT-ACK") i
chunk_words (Sack s) = sack_words s
chunk_words (Heartbeat info) = codes "HEARTBEAT" ∷ codes "info" ∷ hex_word info ∷ []
chunk_words (HeartbeatAck info) = codes "HEARTBEAT-ACK" ∷ codes "info" ∷ hex_word info ∷ []
chunk_words (Abort reflected causes) = codes "ABORT" ∷ codes "t" ∷ flag_word reflected ∷ codes "causes" ∷ joined type_word (typed_in causes) ∷ []
chunk_words (Shutdown cumulative) = codes "SHUTDOWN" ∷ codes "cum" ∷ decimal cumulative ∷ []
chunk_words ShutdownAck = codes "SHUTDOWN-ACK" ∷ []
chunk_words (Error causes) = codes "ERROR" ∷ codes "causes" ∷ joined type_word (typed_in causes) ∷ []
chunk_words (CookieEcho cookie) = codes "COOKIE-ECHO" ∷ codes "cookie" ∷ hex_word cookie ∷ []
chunk_words CookieAck = codes "COOKIE-ACK" ∷ []
chunk_words (ShutdownComplete reflected) = codes "SHUTDOWN-COMPLETE" ∷ codes "t" ∷ flag_word reflected ∷ []
chunk_words (ForwardTsn f) = forward_words (codes "FORWARD-TSN") skip_word f
chunk_words (IForwardTsn f) = forward_words (codes "I-FORWARD-TSN") kind_skip_word f
chunk_words (Unknown kind flags value) = unknown_words kind flags value

-- the line of a chunk
unfoldable pub chunk_line : ChunkMeaning → List ℕ
chunk_line m = line_of (chunk_words m)
