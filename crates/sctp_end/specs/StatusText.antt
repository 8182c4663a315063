-- The words of a status.
use Rattle.std.specs.Prelude.{ℕ, Bool, true, false, List, [], ◌∷◌, Option, None, Some, option_map, codes, decimal}
use Rattle.sctp_association.specs.declared.user.agreed.Agreed.{Agreed}
use Rattle.sctp_terms.specs.Meanings.{state_meaning, end_meaning}
use Rattle.sctp_terms.specs.declared.mode.Mode.TheVariants.{Data, PartialData, IData, PartialIData}
use Rattle.sctp_end.specs.declared.status.Status.{Status}
use Rattle.sctp_words.specs.Fields.{mode_word}
use Rattle.sctp_words.specs.Names.{state_word, end_word, number_word}

-- the mode in which I-DATA and partial reliability are on, or off
abbrev pub mode_on : (interleave partial : Bool) → List ℕ
mode_on false false = mode_word Data
mode_on false true = mode_word PartialData
mode_on true false = mode_word IData
mode_on true true = mode_word PartialIData

-- what both endpoints agreed on, or `-` in place of each: the streams out
abbrev pub outbound_word : Option Agreed → List ℕ
outbound_word None = codes "-"
outbound_word (Some a) = decimal a.outbound

-- the streams in
abbrev pub inbound_word : Option Agreed → List ℕ
inbound_word None = codes "-"
inbound_word (Some a) = decimal a.inbound

-- the formats
abbrev pub formats_word : Option Agreed → List ℕ
formats_word None = codes "-"
formats_word (Some a) = mode_on a.interleave a.partial

-- STATE WHY NEXT OUTBOUND INBOUND FORMATS OUTSTANDING QUEUED BYTES HELD WINDOW READABLE
abbrev pub status_words : Status → List (List ℕ)
status_words x =
    codes "status" ∷ state_word (state_meaning x.state) ∷ end_word (option_map end_meaning x.ended) ∷ number_word x.next
    ∷ outbound_word x.agreed ∷ inbound_word x.agreed ∷ formats_word x.agreed
    ∷ decimal x.outstanding ∷ decimal x.queued ∷ decimal x.queued_bytes ∷ decimal x.held ∷ decimal x.window ∷ number_word x.readable ∷ []
