-- The lanes that a FORWARD names, as they are found entry by entry: in the order of the list (RFC 3758, 3.2; RFC 8260, 2.3.1).
use Rattle.std.specs.Prelude.{ℕ, suc, ◌+◌, ◌*◌, ◌≤◌, ◌==◌, ◌&&◌, nat_lt, max, if◌then◌else◌, List, [], ◌∷◌, map}
use Rattle.sctp_model.specs.messages.Format.{Format, Kind, Ordered, Unordered, Lane, is_numbered}
use Rattle.sctp_model.specs.messages.Framing.{forward_chunk}
use Rattle.sctp_model.specs.messages.Plan.{Entry}
use Rattle.sctp_model.specs.messages.Forward.{Skip}
use Rattle.sctp_model.specs.sender.Entries.{entry_lane, entry_number}
use Rattle.sctp_model.specs.sender.SentChunks.{skip_said}
use Rattle.sctp_model.specs.wire.Chunk.{ChunkMeaning}
use Rattle.sctp_wire.specs.Skips.{skips_in}
use Rattle.sctp_framing.specs.SkipForms.{skip_form}
use Rattle.sctp_send.specs.OutstandingFields.{lane_of}
use Rattle.sctp_send.specs.declared.forward.lanes.Passed.{Passed}

-- the ordered lane of a stream comes first
abbrev pub kind_key : Kind → ℕ
kind_key Ordered = 0
kind_key Unordered = 1

-- where a lane stands: by rising stream
abbrev pub lane_key : Lane → ℕ
lane_key l = 2 * l.stream + kind_key l.kind

-- what is said of a lane
abbrev pub passed_meaning : Passed → Skip
passed_meaning p = record { lane = lane_of p.stream p.kind; number = p.number }

-- the lanes stand in order, the first one no lower than here
abbrev pub AreRising : (here : ℕ) → List Skip → Type 0
AreRising n [] = Unit {0}
AreRising n (x ∷ xs) = (n ≤ lane_key x.lane) × AreRising (suc (lane_key x.lane)) xs

-- how many of them, from the first on, come before one
abbrev pub before : (key : ℕ) → List Skip → ℕ
before k [] = 0
before k (x ∷ xs) = if nat_lt (lane_key x.lane) k then suc (before k xs) else 0

-- a lane with a number
abbrev pub told_at : Lane → ℕ → Skip
told_at l n = record { lane = l; number = n }

-- what was said of a lane, with the larger of its number and this one
abbrev pub at_least : ℕ → Skip → Skip
at_least n x = record { lane = x.lane; number = max x.number n }

-- a number of a lane is noted: the larger one, where the lane has one already
abbrev pub noted : Lane → ℕ → List Skip → List Skip
noted l n [] = told_at l n ∷ []
noted l n (x ∷ xs) = if nat_lt (lane_key x.lane) (lane_key l) then x ∷ noted l n xs
    else if lane_key x.lane == lane_key l then at_least n x ∷ xs
    else told_at l n ∷ x ∷ xs

-- an entry that is passed, of one of so many streams, is noted where its lane is numbered
abbrev pub noted_entry : Format → (streams : ℕ) → Entry → List Skip → List Skip
noted_entry f s e xs = if nat_lt (entry_lane e).stream s && is_numbered f (entry_lane e).kind then noted (entry_lane e) (entry_number e) xs else xs

-- the FORWARD to a TSN with this list of streams and numbers, as on the wire (RFC 3758, 3.2; RFC 8260, 2.3.1)
abbrev pub forward_of_list : Format → (cumulative : ℕ) → List ℕ → ChunkMeaning
forward_of_list f c bytes = forward_chunk f (record { cumulative = c; skips = skips_in (skip_form f) bytes })

-- the same, of lanes, by their bases
abbrev pub forward_of_lanes : Format → (base : Lane → ℕ) → (cumulative : ℕ) → List Passed → ChunkMeaning
forward_of_lanes f base c xs = forward_chunk f (record { cumulative = c; skips = map (skip_said f base) (map passed_meaning xs) })
