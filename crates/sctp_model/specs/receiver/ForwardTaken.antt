-- A FORWARD arrives at a receiver: its sender gave up all that is missing up to an index, and names the messages that are waited for in vain
-- (RFC 3758, 3.6; RFC 8260, 2.3).
use Rattle.std.specs.Prelude.{◌≡◌, ℕ, Bool, true, false, not, ◌||◌, nat_le, max, List, [], ◌∷◌, filter, Option, Some, None, if◌then◌else◌}
use Rattle.sctp_model.specs.wire.Chunk.{SkipMeaning, ForwardMeaning}
use Rattle.sctp_model.specs.messages.Format.{Format, Kind, Ordered, Unordered, Lane}
use Rattle.sctp_model.specs.messages.Framing.{lets_go}
use Rattle.sctp_model.specs.messages.Pieces.{Piece}
use Rattle.sctp_model.specs.messages.Forward.{Skip, skipped}
use Rattle.sctp_model.specs.receiver.ReceiverView.{ReceiverView, IsCumulative}
use Rattle.sctp_model.specs.receiver.Rows.{first_of}
use Rattle.sctp_model.specs.receiver.Reading.{index_at, is_behind, is_ahead, is_late, lane_of, number_in}
use Rattle.sctp_model.specs.receiver.Receiving.{GivesAll}

-- What it answers to a FORWARD (RFC 3758, 3.6).
pub data ForwardAnswer : Type 0 where
  -- its TSN is old
  OutOfDate : ForwardAnswer
  -- its TSN is too far ahead, or it names a stream that isn't there
  Bad : ForwardAnswer
  -- the cumulative index moves
  Moved : ForwardAnswer

-- one of the entries is for a stream that isn't there
abbrev pub names_other_stream : (streams : ℕ) → List SkipMeaning → Bool
names_other_stream streams [] = false
names_other_stream streams (x ∷ xs) = nat_le streams x.stream || names_other_stream streams xs

-- THE TABLE OF ANSWERS to a FORWARD; below it, it moves.
abbrev pub forward_answer : ReceiverView → (c : ℕ) → ForwardMeaning → ForwardAnswer
forward_answer r c x = first_of
    ((is_behind r c x.cumulative, OutOfDate)
    ∷ (is_ahead r c x.cumulative || names_other_stream r.streams x.skips, Bad)
    ∷ [])
    Moved

-- ---- what it skips

-- the entry of a lane, if its number counts there, before the others
abbrev pub with_skip : ReceiverView → Lane → Option ℕ → List Skip → List Skip
with_skip r l None others = others
with_skip r l (Some n) others = if is_late r l (Some n) then others else record { lane = l; number = n } ∷ others

-- The entries in counts, each read as its chunks would be before the FORWARD arrived. One without a number, or with one too late, is passed over.
abbrev pub skips_read : Format → ReceiverView → List SkipMeaning → List Skip
skips_read f r [] = []
skips_read f r (x ∷ xs) =
    with_skip r (lane_of x.stream x.unordered) (number_in f r (lane_of x.stream x.unordered) x.number) (skips_read f r xs)

-- ---- what it leaves

-- all indexes up to its own are passed, and of each lane all numbers up to the largest that it names
abbrev pub jumped : Format → ReceiverView → (c : ℕ) → ForwardMeaning → ReceiverView
jumped f r c x = record r { jump = max r.jump (index_at r c x.cumulative); skip = skipped r.skip (skips_read f r x.skips) }

-- An ordered chunk stays, to be delivered or to go with its number; an unordered one goes by its index under DATA, and by its number under I-DATA.
abbrev pub stays_by : Kind → Format → ReceiverView → Piece → Bool
stays_by Ordered f r x = true
stays_by Unordered f r x = not (lets_go f x.index x.number r.jump (r.skip x.lane))

-- What a FORWARD leaves of the kept chunks. That nothing whole goes is a law of views at rest.
abbrev pub let_go : Format → ReceiverView → ReceiverView
let_go f r = record r { kept = filter (λ (x : Piece). stays_by x.lane.kind f r x) r.kept }

-- the view when its index and its entries were taken, and what can't become whole any more went
abbrev pub forwarded : Format → ReceiverView → (c : ℕ) → ForwardMeaning → ReceiverView
forwarded f r c x = let_go f (jumped f r c x)

-- One that moves does that, and on every stream what is due then is delivered.
abbrev pub ForwardLeaves : Format → ReceiverView → (c : ℕ) → ForwardMeaning → ForwardAnswer → ReceiverView → Type 0
ForwardLeaves f r c x OutOfDate t = t ≡ r
ForwardLeaves f r c x Bad t = t ≡ r
ForwardLeaves f r c x Moved t = GivesAll f r.streams (forwarded f r c x) t

-- A FORWARD TAKEN: read at the cumulative index c, it is answered by the table, and the answer leaves t.
pub record ForwardTaken (f : Format) (r : ReceiverView) (x : ForwardMeaning) (a : ForwardAnswer) (t : ReceiverView) : Type 0 where
  pub c : ℕ
  pub cumulative : IsCumulative r c
  pub answer : a ≡ forward_answer r c x
  pub leaves : ForwardLeaves f r c x a t
