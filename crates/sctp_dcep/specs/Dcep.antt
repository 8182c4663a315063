-- The two messages of the Data Channel Establishment Protocol, DCEP (RFC 8832, 5).
use Rattle.std.specs.Prelude.{◌≡◌, ℕ, ◌+◌, ◌%◌, ◌<◌, ◌^◌, ◌==◌, nat_lt, Bool, if◌then◌else◌, List, [], ◌∷◌, ◌++◌, length, take, drop, Option, Some, None}
use Rattle.sctp_model.specs.numbers.Numbers.{u16_bytes, u32_bytes, u16_at, u32_at}

-- ---- parameters of a channel

-- How long its messages are retransmitted: until they are acknowledged; a number of times at most; for a number of milliseconds at most (5.1).
pub data Reliability : Type 0 where
  Reliable : Reliability
  MaxRetransmits : (times : ℕ) → Reliability
  MaxPacketLifetime : (milliseconds : ℕ) → Reliability

-- What a channel is opened with. Label and protocol are bytes, which should be UTF-8.
pub record Parameters : Type 0 where
  pub label : List ℕ
  pub protocol : List ℕ
  pub ordered : Bool
  pub reliability : Reliability
  pub priority : ℕ

-- the channel type without its top bit
abbrev pub type_of : Reliability → ℕ
type_of Reliable = 0
type_of (MaxRetransmits n) = 1
type_of (MaxPacketLifetime n) = 2

-- the Reliability Parameter
abbrev pub value_of : Reliability → ℕ
value_of Reliable = 0
value_of (MaxRetransmits n) = n
value_of (MaxPacketLifetime n) = n

-- the Channel Type: its top bit is set if the channel is unordered
abbrev pub channel_type : Parameters → ℕ
channel_type p = (if p.ordered then 0 else 128) + type_of p.reliability

-- each field is large enough for its number
pub record IsParameters (p : Parameters) : Type 0 where
  pub label : length p.label < 2 ^ 16
  pub protocol : length p.protocol < 2 ^ 16
  pub value : value_of p.reliability < 2 ^ 32
  pub priority : p.priority < 2 ^ 16

-- ---- written

-- DATA_CHANNEL_OPEN (5.1)
abbrev pub opening : Parameters → List ℕ
opening p =
    3 ∷ channel_type p
    ∷ (u16_bytes p.priority ++ (u32_bytes (value_of p.reliability) ++ (u16_bytes (length p.label) ++ (u16_bytes (length p.protocol) ++ (p.label ++ p.protocol)))))

-- DATA_CHANNEL_ACK (5.2)
abbrev pub acknowledgement : List ℕ
acknowledgement = 2 ∷ []

-- ---- read

-- what is wrong with a message of DCEP
pub data Fault : Type 0 where
  -- neither of the two; an OPEN that lacks a part of its fields or texts; an ACK of more than a byte; a channel type that isn't one of the six
  UnknownMessage OpenCutShort AckWithMore UnknownType : Fault

-- what a message of DCEP says
pub data Control : Type 0 where
  Opens : Parameters → Control
  Acknowledges : Control
  Faulty : Fault → Control

-- the reliability, by the channel type without its top bit and the Reliability Parameter
abbrev pub reliability_of : (kind value : ℕ) → Option Reliability
reliability_of kind value =
    if kind == 0 then Some Reliable
    else if kind == 1 then Some (MaxRetransmits value)
    else if kind == 2 then Some (MaxPacketLifetime value)
    else None

-- an OPEN with this reliability, these fields after its channel type, and these texts after them
abbrev pub opens_with : (ordered : Bool) → Option Reliability → (fields texts : List ℕ) → Control
opens_with ordered None fields texts = Faulty UnknownType
opens_with ordered (Some reliability) fields texts = Opens (record {
  label = take (u16_at (drop 6 fields)) texts;
  protocol = take (u16_at (drop 8 fields)) (drop (u16_at (drop 6 fields)) texts);
  ordered = ordered;
  reliability = reliability;
  priority = u16_at fields;
})

-- An OPEN that has its fields. What follows its texts is ignored: some peers count the characters of a label instead of its bytes.
abbrev pub opening_read : (kind : ℕ) → (fields : List ℕ) → Control
opening_read kind fields =
    if nat_lt (length fields) (10 + (u16_at (drop 6 fields) + u16_at (drop 8 fields))) then Faulty OpenCutShort
    else opens_with (nat_lt kind 128) (reliability_of (kind % 128) (u32_at (drop 2 fields))) fields (drop 10 fields)

-- an OPEN without its first byte
abbrev pub opening_of : List ℕ → Control
opening_of [] = Faulty OpenCutShort
opening_of (kind ∷ fields) = if nat_lt (length fields) 10 then Faulty OpenCutShort else opening_read kind fields

-- an ACK without its first byte
abbrev pub acknowledgement_of : List ℕ → Control
acknowledgement_of [] = Acknowledges
acknowledgement_of (b ∷ bs) = Faulty AckWithMore

-- What a message of DCEP says, by its first byte (5).
abbrev pub control_of : List ℕ → Control
control_of [] = Faulty UnknownMessage
control_of (kind ∷ rest) = if kind == 3 then opening_of rest else if kind == 2 then acknowledgement_of rest else Faulty UnknownMessage

-- an OPEN is read as the parameters that it was written for, whatever follows it
abbrev pub OpeningReadsBack : Type 0
OpeningReadsBack = (p : Parameters) (more : List ℕ) → IsParameters p → control_of (opening p ++ more) ≡ Opens p

-- an ACK is read as one
abbrev pub AcknowledgementReadsBack : Type 0
AcknowledgementReadsBack = control_of acknowledgement ≡ Acknowledges
