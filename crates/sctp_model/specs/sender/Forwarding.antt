-- What a FORWARD to an index names (RFC 3758, 3.5; RFC 8260, 2.3.1): of each stream and numbered kind the largest number up to it.
use Rattle.std.specs.Prelude.{ℕ, zero, suc, ◌-◌, if◌then◌else◌, max, List, [], ◌∷◌, ◌++◌, take, drop, Option, None, Some}
use Rattle.sctp_model.specs.messages.Format.{Format, Ordered, Unordered, Lane, is_numbered, same_lane}
use Rattle.sctp_model.specs.messages.Plan.{Entry}
use Rattle.sctp_model.specs.messages.Forward.{Skip, Forward}
use Rattle.sctp_model.specs.sender.SenderView.{SenderView}
use Rattle.sctp_model.specs.sender.Entries.{entry_lane, entry_number}

-- the larger of a number, if there is one, and another
abbrev pub larger : Option ℕ → ℕ → Option ℕ
larger None n = Some n
larger (Some m) n = Some (max m n)

-- the largest number of a lane among entries, or the one found before
abbrev pub largest_in : Lane → Option ℕ → List Entry → Option ℕ
largest_in l found [] = found
largest_in l found (e ∷ es) = largest_in l (if same_lane l (entry_lane e) then larger found (entry_number e) else found) es

-- the entries after CUM, up to this index
abbrev pub entries_to : SenderView → (p : ℕ) → List Entry
entries_to v p = take (p - v.cum) (drop v.cum v.plan.entries)

-- the entry of a lane, if it has a number
abbrev pub skip_in : Lane → Option ℕ → List Skip
skip_in l None = []
skip_in l (Some n) = record { lane = l; number = n } ∷ []

-- the entry of a lane, if its messages are numbered and one was passed
abbrev pub skip_of : Format → List Entry → Lane → List Skip
skip_of f es l = if is_numbered f l.kind then skip_in l (largest_in l None es) else []

-- those of a stream, the ordered one first
abbrev pub skips_on : Format → List Entry → ℕ → List Skip
skips_on f es s = skip_of f es (record { stream = s; kind = Ordered }) ++ skip_of f es (record { stream = s; kind = Unordered })

-- those of the streams below a number, by rising stream
abbrev pub skips_below : Format → List Entry → ℕ → List Skip
skips_below f es zero = []
skips_below f es (suc s) = skips_below f es s ++ skips_on f es s

-- the FORWARD from CUM to this index
abbrev pub forward_to : Format → SenderView → (p : ℕ) → Forward
forward_to f v p = record { point = p; skips = skips_below f (entries_to v p) v.streams }
