-- What a word may say, by its field, and the words of several fields.
use Rattle.std.specs.Prelude.{◌≡◌, ℕ, ◌<◌, ◌^◌, List, [], ◌∷◌, ◌++◌, Option, None, Some, codes}
use Rattle.sctp_model.specs.messages.Format.{Kind, Ordered, Unordered}
use Rattle.sctp_terms.specs.declared.mode.Mode.{Mode}
use Rattle.sctp_terms.specs.declared.mode.Mode.TheVariants.{Data, PartialData, IData, PartialIData}
use Rattle.sctp_text.specs.Numerals.{IsDecimal}
use Rattle.sctp_words.specs.declared.fields.TheConstants.{LIMIT_MARK}

-- a number that a field of this many bits holds
abbrev pub IsNumber : ℕ → List ℕ → ℕ → Type 0
IsNumber bits word n = IsDecimal word n × (n < 2 ^ bits)

-- a verification tag, which isn't 0 (RFC 9260, 5.3.1)
abbrev pub IsTag : List ℕ → ℕ → Type 0
IsTag word n = IsNumber 32 word n × (0 < n)

-- ordered or unordered delivery (RFC 9260, 6.6)
abbrev pub kind_word : Kind → List ℕ
kind_word Ordered = codes "o"
kind_word Unordered = codes "u"

-- the name of a mode
abbrev pub mode_word : Mode → List ℕ
mode_word Data = codes "data"
mode_word PartialData = codes "data-pr"
mode_word IData = codes "idata"
mode_word PartialIData = codes "idata-pr"

-- after a mode: SACKs may be delayed for a second packet (RFC 9260, 6.2)
abbrev pub delay_word : List ℕ
delay_word = codes "delay"

-- and the association closes by the RFC's timers (RFC 9260, 9.2)
abbrev pub standard_closing_word : List ℕ
standard_closing_word = codes "standard-closing"

-- what has three miss indications is retransmitted at once (RFC 9260, 7.2.4)
abbrev pub fast_retransmit_word : List ℕ
fast_retransmit_word = codes "fast-retransmit"

-- a congestion window limits what is in flight (RFC 9260, 7.2)
abbrev pub congestion_control_word : List ℕ
congestion_control_word = codes "congestion-control"

-- before RTO.Min in milliseconds (RFC 9260, 6.3.1)
abbrev pub rto_min_word : List ℕ
rto_min_word = codes "rto-min"

-- streams can be reset (RFC 6525)
abbrev pub reset_word : List ℕ
reset_word = codes "reset"

-- the end of a message's lifetime, in milliseconds, or no limit
abbrev pub IsUntil : List ℕ → Option ℕ → Type 0
IsUntil word None = word ≡ codes "-"
IsUntil word (Some n) = IsNumber 64 word n

-- the end of a lifetime as a word has it before a limit of retransmissions: nothing for none
abbrev pub IsTimeBefore : List ℕ → Option ℕ → Type 0
IsTimeBefore time None = time ≡ []
IsTimeBefore time (Some t) = IsNumber 64 time t

-- the word has a limit of retransmissions (RFC 7496, 3.1): the time, or nothing, then `x`, then how often each fragment may be retransmitted
pub record HasLimit (word : List ℕ) (until : Option ℕ) (n : ℕ) : Type 0 where
  pub time : List ℕ
  pub count : List ℕ
  pub whole : word ≡ time ++ LIMIT_MARK ∷ count
  pub lifetime : IsTimeBefore time until
  pub number : IsNumber 16 count n

-- the end of a message's lifetime, and its limit of retransmissions if it has one
abbrev pub IsUntilLimit : List ℕ → (until limit : Option ℕ) → Type 0
IsUntilLimit word until None = IsUntil word until
IsUntilLimit word until (Some n) = HasLimit word until n

-- ---- the words of several fields: F is what a program has as fields, Value what a word of a field says, and IsValue that it does

-- a value for each field
abbrev pub Values : {F : Type 0} → (Value : F → Type 0) → List F → Type 0
Values Value [] = Unit {0}
Values Value (f ∷ fs) = Value f × Values Value fs

-- there is a word for each field, and it says this value
abbrev pub AreValues : {F : Type 0} → (Value : F → Type 0) → (IsValue : (f : F) → List ℕ → Value f → Type 0) → (fs : List F) → List (List ℕ) → Values Value fs → Type 0
AreValues Value IsValue [] words vs = words ≡ []
AreValues Value IsValue (f ∷ fs) words (v, vs) =
    (word : List ℕ) × (others : List (List ℕ)) × (words ≡ word ∷ others) × IsValue f word v × AreValues Value IsValue fs others vs
