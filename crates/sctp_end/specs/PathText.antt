-- The words of a path.
use Rattle.std.specs.Prelude.{ℕ, List, [], ◌∷◌, Option, None, Some, codes, decimal}
use Rattle.sctp_association.specs.declared.user.path.Path.{Path}
use Rattle.sctp_words.specs.Names.{number_word}

-- FLIGHT SRTT RTTVAR RTO CWND SSTHRESH: bytes and milliseconds, and `-` for what isn't there
abbrev pub path_words : (flight : ℕ) → Option Path → List (List ℕ)
path_words flight None = codes "path" ∷ decimal flight ∷ codes "-" ∷ codes "-" ∷ codes "-" ∷ codes "-" ∷ codes "-" ∷ []
path_words flight (Some x) =
    codes "path" ∷ decimal flight ∷ number_word x.srtt ∷ number_word x.rttvar ∷ decimal x.rto ∷ number_word x.cwnd ∷ number_word x.ssthresh ∷ []
