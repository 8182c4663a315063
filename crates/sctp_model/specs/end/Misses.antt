-- Which fragments have three miss indications (RFC 9260, 7.2.4): no count for each, but three numbers for all, and for each when it went out last.
use Rattle.std.specs.Prelude.{ℕ, min, max, nat_lt, nat_le, Bool, not, ◌&&◌, ◌||◌, if◌then◌else◌, length, Option, None, Some, is_some, option_and_then, suc}
use Rattle.std.specs.Prelude.{◌==◌, List}
use Rattle.std.specs.List.{list_any}
use Rattle.sctp_model.specs.sender.SenderView.{SenderView}
use Rattle.sctp_model.specs.sender.Words.{when, lowest, last_that}
use Rattle.sctp_model.specs.sender.Entries.{is_in_flight, passes_at}
use Rattle.sctp_model.specs.sender.Filling.{Wish}

-- The state of miss indications. An acknowledgement is a miss indication for each index that it doesn't acknowledge below the highest that it newly
-- acknowledges (HTNA). Fragments are sent for the first time by rising index, so that each index below the third largest of these highest ones, if it isn't
-- acknowledged, has three. One that was retransmitted is missed only by what was sent for the first time after that: what was sent before says nothing of it.
pub record Misses : Type 0 where
  -- the three largest of the highest ones
  pub first : ℕ
  pub second : ℕ
  pub third : ℕ
  -- the highest index that was sent when the fragment at an index went out last; of one that went out once its own
  pub went : ℕ → ℕ
  -- in Fast Recovery: its exit point (7.2.4, step 6)
  pub exit : Option ℕ

-- before the first acknowledgement
abbrev pub fresh_misses : Misses
fresh_misses = record { first = 0; second = 0; third = 0; went = λ i. i; exit = None }

-- After an expiry of the data timer Fast Recovery is over. All is retransmitted, so that what was sent before misses none of it.
abbrev pub expired_misses : Misses → Misses
expired_misses m = record m { exit = None }

-- ---- what went out

-- the highest index that was sent
abbrev pub last_sent : SenderView → ℕ
last_sent u = last_that u.sent (length u.plan.entries)

-- the fragment at this index is retransmitted by these wishes
abbrev pub goes_again : List Wish → ℕ → Bool
goes_again ws i = list_any (λ w. w.view.sent w.index && (w.index == i)) ws

-- The state after a packet with these fragments, when `last` was the highest index that was sent before it: retransmissions are first in a packet.
abbrev pub misses_sent : (last : ℕ) → List Wish → Misses → Misses
misses_sent last ws m = record m { went = λ i. if goes_again ws i then last else m.went i }

-- ---- what an acknowledgement newly acknowledges: `v` is the sender before it, `u` the sender after it

-- it moved CUM
abbrev pub moves : (v u : SenderView) → Bool
moves v u = nat_lt v.cum u.cum

-- the index was sent, and is acknowledged by it and not before
abbrev pub is_newly_covered : (v u : SenderView) → ℕ → Bool
is_newly_covered v u i = v.sent i && (u.covered i && not (v.covered i))

-- The index below which it is a miss indication (HTNA): the highest that it newly acknowledges; in Fast Recovery, if it moved CUM, the highest that it
-- acknowledges.
abbrev pub newest : (recovering : Bool) → (v u : SenderView) → ℕ
newest recovering v u =
    last_that (λ i. is_newly_covered v u i || (recovering && (moves v u && u.covered i))) (length v.plan.entries)

-- the state after an acknowledgement with this highest index
abbrev pub noticed : ℕ → Misses → Misses
noticed n m = record m { first = max n m.first; second = max (min n m.first) m.second; third = max (min n m.second) m.third }

-- what was sent and acknowledged before it, and isn't acknowledged by it (6.2.1, D iii)
abbrev pub is_taken_back : (v u : SenderView) → ℕ → Bool
is_taken_back v u i = v.sent i && (v.covered i && not (u.covered i))

-- That counts as sent now: what was acknowledged before it was taken back doesn't miss it.
abbrev pub taken_back : (v u : SenderView) → Misses → Misses
taken_back v u m = record m { went = λ i. if is_taken_back v u i then last_sent u else m.went i }

-- ---- what is missed

-- the index has its third miss indication, unless it is acknowledged
abbrev pub is_missed : Misses → ℕ → Bool
is_missed m i = nat_lt (m.went i) m.third

-- the lowest index in flight of which that is so
abbrev pub first_missed : Misses → SenderView → Option ℕ
first_missed m u = lowest (passes_at u.plan (λ i e. is_missed m i && is_in_flight u i e)) (length u.plan.entries)

-- ---- Fast Recovery

-- it is over once CUM has reached the exit point (step 6)
abbrev pub recovery_at : (cum : ℕ) → Option ℕ → Option ℕ
recovery_at cum o = option_and_then (λ i. when (nat_lt cum i) i) o

-- The state after an acknowledgement that gave some index its third miss indication, or none: Fast Recovery begins, unless it is on, and its exit point is
-- the highest index that was sent (step 6).
abbrev pub recovery_begun : SenderView → (some : Bool) → Misses → Misses
recovery_begun u some m = record m { exit = if some && not (is_some m.exit) then Some (last_sent u) else m.exit }
