-- The options of an endpoint: their names, the fields of each, and what each sets.
use Rattle.std.specs.Prelude.{ℕ, true, false, List, [], ◌∷◌, length, codes}
use Rattle.sctp_model.specs.end.EndView.{Configuration}
use Rattle.sctp_terms.specs.Modes.{asked}
use Rattle.sctp_words.specs.Fields.{Values, delay_word, standard_closing_word, fast_retransmit_word, congestion_control_word, rto_min_word, reset_word}
use Rattle.sctp_script.specs.Fields.{Field, ANumber, AMode, Value}
use Rattle.sctp_script.specs.declared.option_name.OptionName.{OptionName}
use Rattle.sctp_script.specs.declared.option_name.OptionName.TheVariants.{Limit, Fragment, Buffer, Streams, Mode, Delay, StandardClosing, FastRetransmit, CongestionControl, RtoMin, Reset}

-- the word that an option is
abbrev pub option_word : OptionName → List ℕ
option_word Limit = codes "limit"
option_word Fragment = codes "fragment"
option_word Buffer = codes "buffer"
option_word Streams = codes "streams"
option_word Mode = codes "mode"
option_word Delay = delay_word
option_word StandardClosing = standard_closing_word
option_word FastRetransmit = fast_retransmit_word
option_word CongestionControl = congestion_control_word
option_word RtoMin = rto_min_word
option_word Reset = reset_word

-- limit N; fragment N; buffer N; streams OUT IN; mode MODE; delay; standard-closing; fast-retransmit; congestion-control; rto-min MS; reset
abbrev pub option_fields : OptionName → List Field
option_fields Limit = ANumber 16 ∷ []
option_fields Fragment = ANumber 16 ∷ []
option_fields Buffer = ANumber 32 ∷ []
option_fields Streams = ANumber 16 ∷ ANumber 16 ∷ []
option_fields Mode = AMode ∷ []
option_fields Delay = []
option_fields StandardClosing = []
option_fields FastRetransmit = []
option_fields CongestionControl = []
option_fields RtoMin = ANumber 32 ∷ []
option_fields Reset = []

-- the number of words after an option's name
abbrev pub words_taken : OptionName → ℕ
words_taken o = length (option_fields o)

-- a value for each field of an option
abbrev pub OptionValues : OptionName → Type 0
OptionValues o = Values Value (option_fields o)

-- The configuration that an option leaves. Streams are those to the peer and those from it; a mode decides on both extensions; congestion control needs fast retransmission, and brings it.
abbrev pub set_option : (o : OptionName) → OptionValues o → Configuration → Configuration
set_option Limit (limit, rest) c = record c { limit = limit }
set_option Fragment (fragment, rest) c = record c { fragment = fragment }
set_option Buffer (buffer, rest) c = record c { buffer = buffer }
set_option Streams (outbound, (inbound, rest)) c = record c { outbound = outbound; inbound = inbound }
set_option Mode (mode, rest) c = asked mode (record c { interleave = false; partial = false })
set_option Delay rest c = record c { delay = true }
set_option StandardClosing rest c = record c { standard_closing = true }
set_option FastRetransmit rest c = record c { fast_retransmit = true }
set_option CongestionControl rest c = record c { fast_retransmit = true; congestion_control = true }
set_option RtoMin (milliseconds, rest) c = record c { least_wait = milliseconds }
set_option Reset rest c = record c { reset = true }
