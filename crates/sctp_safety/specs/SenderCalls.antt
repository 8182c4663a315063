-- Laws of a sender's calls, whatever its peer says: the plan stays orderly, nothing is abandoned unasked, and each call has one result.
use Rattle.std.specs.Prelude.{◌≡◌, ℕ, ◌<◌, ◌≤◌, ◌⊎◌, true, false, List, Some, Option, Bool}
use Rattle.sctp_model.specs.messages.Format.{Format, Lane}
use Rattle.sctp_model.specs.wire.Chunk.{SackMeaning}
use Rattle.sctp_model.specs.messages.Plan.{Message, Entry, Plan, entry_at, message_at}
use Rattle.sctp_model.specs.messages.Orderly.{Orderly}
use Rattle.sctp_model.specs.messages.Forward.{Forward, IsForward}
use Rattle.sctp_model.specs.sender.SenderView.{SenderView, IsDrained, IsPoint}
use Rattle.sctp_model.specs.sender.Entries.{entry_message}
use Rattle.sctp_model.specs.sender.Queueing.{queued}
use Rattle.sctp_model.specs.sender.Filling.{Wish, IsFill, fill}
use Rattle.sctp_model.specs.sender.SackTaken.{sack_after, shutdown_after}
use Rattle.sctp_model.specs.sender.Abandoning.{has_ticket, abandon_after, is_past, expired, marking, worn}
use Rattle.sctp_model.specs.sender.Readers.{point, drained}
use Rattle.sctp_model.specs.sender.Forwarding.{forward_to}
use Rattle.sctp_model.specs.sender.SentChunks.{fits_forward, forward_end}
use Rattle.sctp_model.specs.sender.Reached.{IsReached}
use Rattle.sctp_model.specs.world.World.{if_newly_abandoned, newly_abandoned}
use Rattle.sctp_model.specs.world.Safe.{WasRepeated}

-- ---- the plan

-- The plan of every view that calls reach is orderly (RFC 9260, 6.6 and 6.9; RFC 8260, 2.2).
abbrev pub PlanStaysOrderly : Type 0
PlanStaysOrderly = (f : Format) (v : SenderView) → IsReached f v → Orderly f v.plan

-- ---- what is abandoned

-- the same messages are abandoned in both
abbrev pub SameAbandoned : SenderView → SenderView → Type 0
SameAbandoned v u = u.abandoned ≡ v.abandoned

-- what is abandoned afterwards was so before, or is a message with this ticket
abbrev pub OnlyOfTicket : SenderView → (ticket : ℕ) → SenderView → Type 0
OnlyOfTicket v t u = (l : Lane) (n : ℕ) → u.abandoned l n ≡ true → (v.abandoned l n ≡ true) ⊎ (has_ticket t (message_at v.plan l n) ≡ true)

-- what is abandoned afterwards was so before, or is a message past its time
abbrev pub OnlyPastTime : SenderView → (now : ℕ) → SenderView → Type 0
OnlyPastTime v now u =
    (l : Lane) (n : ℕ) → u.abandoned l n ≡ true → (v.abandoned l n ≡ true) ⊎ ((m : Message) × (message_at v.plan l n ≡ Some m) × (is_past now m ≡ true))

-- what is abandoned afterwards was so before, or is a message of which a fragment was retransmitted as often as its limit allows
abbrev pub OnlyRepeated : SenderView → SenderView → Type 0
OnlyRepeated v u = (l : Lane) (n : ℕ) → u.abandoned l n ≡ true →
    (v.abandoned l n ≡ true) ⊎ ((m : Message) × (message_at v.plan l n ≡ Some m) × ((k : ℕ) × (m.limit ≡ Some k) × WasRepeated v l n k))

-- A message is abandoned by a call that names its ticket, if its lifetime is over, or if it was retransmitted as often as it may be, and by nothing else.
pub record AbandonsAlone (f : Format) (v : SenderView) : Type 0 where
  pub queueing : (l : Lane) (payload : ℕ) (bytes : List ℕ) (until limit : Option ℕ) → SameAbandoned v (queued v l payload bytes until limit)
  pub filling : (room : ℕ) → SameAbandoned v (fill f room v).view
  pub sack : (x : SackMeaning) → SameAbandoned v (sack_after v x)
  pub shutdown : (wire : ℕ) → SameAbandoned v (shutdown_after v wire)
  pub marks : (test : ℕ → Bool) → SameAbandoned v (marking v test)
  pub abandoning : (t : ℕ) → OnlyOfTicket v t (abandon_after v t)
  pub expiring : (now : ℕ) → OnlyPastTime v now (expired v now)
  pub wearing : (test : ℕ → Bool) → OnlyRepeated v (worn test v)

-- So it is of every view that calls reach (RFC 3758, 3.5).
abbrev pub AbandonedOnlyAsked : Type 0
AbandonedOnlyAsked = (f : Format) (v : SenderView) → IsReached f v → AbandonsAlone f v

-- Of all tickets given, one that is abandoned by a call is newly abandoned at most: that of the call (so a log that notes it alone leaves none out).
abbrev pub AbandonsItsOwnAlone : Type 0
AbandonsItsOwnAlone = (f : Format) (v : SenderView) (t : ℕ) → IsReached f v →
    newly_abandoned v (abandon_after v t) (abandon_after v t).tickets ≡ if_newly_abandoned v (abandon_after v t) t

-- If messages may be abandoned, no fragment is retransmitted more often than its message's limit says (RFC 7496, 3.1).
abbrev pub NoneGoesTooOften : Type 0
NoneGoesTooOften = (f : Format) (v : SenderView) (i k : ℕ) (e : Entry) (m : Message) → IsReached f v → v.partial ≡ true →
    entry_at v.plan i ≡ Some e → entry_message v.plan e ≡ Some m → m.limit ≡ Some k → v.repeats i ≤ k

-- ---- one result

-- What is determined by its property: there is one FILL, and the function gives it.
pub record HasOneFill (f : Format) (v : SenderView) : Type 0 where
  pub fill_is : (room : ℕ) → IsFill f v room (fill f room v).wishes (fill f room v).view
  pub fill_one : (room : ℕ) (ws : List Wish) (u : SenderView) → IsFill f v room ws u → (ws ≡ (fill f room v).wishes) × (u ≡ (fill f room v).view)

-- So it is of every view, whether calls reach it or not.
abbrev pub EachViewHasOneFill : Type 0
EachViewHasOneFill = (f : Format) (v : SenderView) → HasOneFill f v

-- There is one point, and the function gives it.
pub record HasOnePoint (v : SenderView) : Type 0 where
  pub point_is : IsPoint v (point v)
  pub point_one : (p : ℕ) → IsPoint v p → p ≡ point v

-- So it is of every view.
abbrev pub EachViewHasOnePoint : Type 0
EachViewHasOnePoint = (v : SenderView) → HasOnePoint v

-- There is one FORWARD of a plan between two indexes.
pub record HasOneForward (f : Format) (plan : Plan) (c p : ℕ) : Type 0 where
  pub forward : Forward
  pub forward_is : IsForward f plan c p forward
  pub forward_one : (x : Forward) → IsForward f plan c p x → x ≡ forward

-- So it is of every plan, and any two indexes.
abbrev pub EachPlanHasOneForward : Type 0
EachPlanHasOneForward = (f : Format) (plan : Plan) (c p : ℕ) → HasOneForward f plan c p

-- Of a view that calls reach the function gives the one from CUM to an index: of each numbered lane with an entry there the largest number, each lane once
-- and in order. All other calls are functions as they are.
abbrev pub ForwardIsGiven : Type 0
ForwardIsGiven = (f : Format) (v : SenderView) (p : ℕ) → IsReached f v → IsForward f v.plan v.cum p (forward_to f v p)

-- How far the FORWARD of a view goes: to the largest index from CUM to the point for which its chunk fits a packet of its own (RFC 3758, 3.5).
pub record IsForwardEnd (f : Format) (limit : ℕ) (v : SenderView) (p : ℕ) : Type 0 where
  pub from : v.cum ≤ p
  pub upto : p ≤ point v
  pub fits : v.cum < p → fits_forward f limit v p ≡ true
  pub behind : (q : ℕ) → p < q → q ≤ point v → fits_forward f limit v q ≡ false

-- There is one such index, and the function gives it.
abbrev pub ForwardEndIsGiven : Type 0
ForwardEndIsGiven = (f : Format) (limit : ℕ) (v : SenderView) →
    IsForwardEnd f limit v (forward_end f limit v) × ((p : ℕ) → IsForwardEnd f limit v p → p ≡ forward_end f limit v)

-- ---- drained

-- The test holds just if nothing waits, nothing is in part, and all that has an index is acknowledged (RFC 9260, 9.2).
abbrev pub DrainedIsTold : Type 0
DrainedIsTold = (f : Format) (v : SenderView) → IsReached f v → (drained v ≡ true → IsDrained v) × (IsDrained v → drained v ≡ true)
