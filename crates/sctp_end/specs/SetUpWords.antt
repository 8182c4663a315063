-- What the words say that the program is started with.
use Rattle.std.specs.Prelude.{◌≡◌, ℕ, Bool, if◌then◌else◌, ◌||◌, ◌⊎◌, List, [], ◌∷◌, ◌++◌, length, Option, None, Some, codes}
use Rattle.sctp_model.specs.end.Configured.{configuration_fault, plain_configuration}
use Rattle.sctp_model.specs.end.EndView.{Configuration, EndView, Caller, Listener, Idle, Listening, fresh_end}
use Rattle.sctp_model.specs.end.Sealing.{Sealing}
use Rattle.sctp_model.specs.numbers.Limits.{LEAST_WAIT}
use Rattle.sctp_terms.specs.declared.mode.Mode.{Mode}
use Rattle.sctp_terms.specs.Modes.{asked}
use Rattle.sctp_cookie.specs.Seals.{IsUnder}
use Rattle.sctp_endpoint.specs.Counted.{none_counted}
use Rattle.sctp_end.specs.Fields.{Field, ANumber, AMode, Value, IsValue}
use Rattle.sctp_end.specs.Performing.{Standing}
use Rattle.sctp_text.specs.Numerals.{IsHex}
use Rattle.sctp_words.specs.Fields.{IsNumber, delay_word, standard_closing_word, fast_retransmit_word, congestion_control_word, reset_word, rto_min_word, Values, AreValues}

-- LIMIT FRAGMENT BUFFER STREAMS MODE PORT PEER
abbrev pub setting_fields : List Field
setting_fields = ANumber 16 ∷ ANumber 16 ∷ ANumber 32 ∷ ANumber 16 ∷ AMode ∷ ANumber 16 ∷ ANumber 16 ∷ []

-- the configuration that they say but for the mode: as many streams each way
abbrev pub plain_of : Values Value setting_fields → Configuration
plain_of (limit, (fragment, (buffer, (streams, (mode, (own_port, (peer_port, rest))))))) =
    plain_configuration own_port peer_port limit fragment buffer streams streams

-- the mode
abbrev pub mode_of : Values Value setting_fields → Mode
mode_of (limit, (fragment, (buffer, (streams, (mode, rest))))) = mode

-- these seven words say this configuration, and it has no fault
abbrev pub Settles : List (List ℕ) → Configuration → Type 0
Settles words c =
    (vs : Values Value setting_fields) × AreValues Value IsValue setting_fields words vs
    × (configuration_fault (plain_of vs) ≡ None) × (c ≡ asked (mode_of vs) (plain_of vs))

-- an optional word
abbrev pub word_if : Bool → List ℕ → List (List ℕ)
word_if b word = if b then word ∷ [] else []

-- RTO.Min: its word and its number, if it is there
abbrev pub rto_min_words : Option (List ℕ) → List (List ℕ)
rto_min_words None = []
rto_min_words (Some number) = rto_min_word ∷ number ∷ []

-- the number is that of RTO.Min in milliseconds, and 1,000 if it is left out (RFC 9260, 16)
abbrev pub SaysLeast : Option (List ℕ) → ℕ → Type 0
SaysLeast None least = least ≡ LEAST_WAIT
SaysLeast (Some number) least = IsNumber 32 number least

-- the options in their order, and the words after them
abbrev pub option_words : (delay standard fast control reset : Bool) (number : Option (List ℕ)) → List (List ℕ) → List (List ℕ)
option_words delay standard fast control reset number back =
    word_if delay delay_word ++ (word_if standard standard_closing_word
    ++ (word_if fast fast_retransmit_word ++ (word_if control congestion_control_word ++ (word_if reset reset_word ++ (rto_min_words number ++ back)))))

-- a configuration with these options: congestion control brings fast retransmission
abbrev pub with_options : (delay standard fast control reset : Bool) (least : ℕ) → Configuration → Configuration
with_options delay standard fast control reset least c =
    record c { delay = delay; standard_closing = standard; fast_retransmit = control || fast; congestion_control = control; reset = reset; least_wait = least }

-- The words say this configuration: after MODE, the fifth, may be `delay`, `standard-closing`, `fast-retransmit`, `congestion-control`, `reset`, and `rto-min`
-- with its number, in this order.
abbrev pub Configures : List (List ℕ) → Configuration → Type 0
Configures words c =
    (front back : List (List ℕ)) × (delay standard fast control reset : Bool) × (number : Option (List ℕ)) × (least : ℕ) × (plain : Configuration)
    × (words ≡ front ++ option_words delay standard fast control reset number back) × (length front ≡ 5)
    × Settles (front ++ back) plain × SaysLeast number least × (c ≡ with_options delay standard fast control reset least plain)

-- the word says a key: 32 bytes in hexadecimal
abbrev pub IsKey : List ℕ → List ℕ → Type 0
IsKey word key = IsHex word key × (length key ≡ 32)

-- NAME caller LIMIT FRAGMENT BUFFER STREAMS MODE [delay] [standard-closing] [fast-retransmit] [congestion-control] [reset] [rto-min MS] PORT PEER
abbrev pub SetsUpCaller : List (List ℕ) → EndView → Type 0
SetsUpCaller words v =
    (name : List ℕ) × (settings : List (List ℕ)) × (c : Configuration) × (words ≡ name ∷ codes "caller" ∷ settings) × Configures settings c
    × (v ≡ fresh_end c Caller Idle)

-- NAME listener LIMIT FRAGMENT BUFFER STREAMS MODE [delay] [standard-closing] [fast-retransmit] [congestion-control] [reset] [rto-min MS] PORT PEER KEY:
-- it has a seal under this key
abbrev pub SetsUpListener : List (List ℕ) → EndView → Type 0
SetsUpListener words v =
    (name last key : List ℕ) × (settings : List (List ℕ)) × (c : Configuration) × (seal : Sealing)
    × (words ≡ name ∷ codes "listener" ∷ (settings ++ last ∷ [])) × Configures settings c × IsKey last key × IsUnder key seal
    × (v ≡ fresh_end c (Listener seal) Listening)

-- The words, the program's own name first, set up this endpoint. Others are wrong.
abbrev pub SetsUp : List (List ℕ) → EndView → Type 0
SetsUp words v = SetsUpCaller words v ⊎ SetsUpListener words v

-- before the first line: nothing was counted, the random values are tag 1 and TSN 1, and the time 0
abbrev pub first_standing : EndView → Standing
first_standing v = record { view = v; counts = none_counted; draw = record { tag = 1; tsn = 1 }; now = 0 }
