-- What a call that abandons leaves of a sender, as a relation on its plan (RFC 3758, 3.5; RFC 8260, 2.3.1).
use Rattle.std.specs.Prelude.{◌≡◌, ◌↔◌, ◌⊎◌, ℕ, true, false, List, [], ◌∷◌, ◌++◌, Some}
use Rattle.sctp_model.specs.numbers.Lists.{Has}
use Rattle.sctp_model.specs.messages.Format.{Format, Lane}
use Rattle.sctp_model.specs.messages.Plan.{Message, Entry, End, entry_at, message_at, IsOf, IsInPart}
use Rattle.sctp_model.specs.sender.SenderView.{Queued, SenderView}
use Rattle.sctp_model.specs.sender.Abandoning.{is_past, abandon_after, expired}
use Rattle.sctp_model.specs.sender.Reached.{IsReached}
use Rattle.sctp_safety.specs.Told.{HasNumber, WasAbandoned, WasAcknowledged}

-- the message that waits with this ticket, if there is one, waits no longer; the others stay in their order
pub data IsWithdrawn (t : ℕ) : (before after : List Queued) → Type 0 where
  Leaves_queue : (ahead behind : List Queued) (q : Queued) → q.message.ticket ≡ t → ((x : Queued) → Has ahead x → x.message.ticket ≡ t → ⊥)
      → IsWithdrawn t (ahead ++ q ∷ behind) (ahead ++ behind)
  Waits_not : (queue : List Queued) → ((x : Queued) → Has queue x → x.message.ticket ≡ t → ⊥) → IsWithdrawn t queue queue

-- A message is given up: it counts as abandoned beside those that did; none of its entries is to be repeated; if it is in part, one index more is
-- assigned, to its end mark; and nothing else changes.
pub record BecomesAbandoned (v u : SenderView) (l : Lane) (n : ℕ) : Type 0 where
  pub abandoned : (k : Lane) (m : ℕ) → (u.abandoned k m ≡ true) ↔ (((k ≡ l) × (m ≡ n)) ⊎ (v.abandoned k m ≡ true))
  pub marked : (i : ℕ) → (u.marked i ≡ true) ↔ ((v.marked i ≡ true) × ((e : Entry) → entry_at v.plan i ≡ Some e → IsOf l n e → ⊥))
  pub ended : IsInPart v.plan l n → u.plan ≡ record v.plan { entries = v.plan.entries ++ End l n ∷ [] }
  pub whole : (IsInPart v.plan l n → ⊥) → u.plan ≡ v.plan
  pub others : u ≡ record v { plan = u.plan; abandoned = u.abandoned; marked = u.marked }

-- Without a number the message is withdrawn. With one it is given up; but nothing changes if it was abandoned or acknowledged, or if that isn't allowed.
pub data AbandonLeaves (v : SenderView) (t : ℕ) : SenderView → Type 0 where
  Withdraws : (queue : List Queued) → (HasNumber v t → ⊥) → IsWithdrawn t v.queue queue → AbandonLeaves v t (record v { queue = queue })
  Lets_be : HasNumber v t → WasAbandoned v t ⊎ (WasAcknowledged v t ⊎ (v.partial ≡ false)) → AbandonLeaves v t v
  Abandons : (u : SenderView) → (h : HasNumber v t) → (WasAbandoned v t → ⊥) → (WasAcknowledged v t → ⊥) → v.partial ≡ true →
      BecomesAbandoned v u h.lane h.number → AbandonLeaves v t u

-- So it is of every view that calls reach.
abbrev pub AbandonIsTaken : Type 0
AbandonIsTaken = (f : Format) (v : SenderView) (t : ℕ) → IsReached f v → AbandonLeaves v t (abandon_after v t)

-- ---- what is past its time

-- Nothing is left to expire: no message that waits is past its time; and one with a number that is was abandoned or acknowledged, if abandoning is allowed.
pub record HasNoneToExpire (v : SenderView) (now : ℕ) : Type 0 where
  pub queue : (q : Queued) → Has v.queue q → is_past now q.message ≡ false
  pub plan : (l : Lane) (n : ℕ) (m : Message) → message_at v.plan l n ≡ Some m → is_past now m ≡ true → v.partial ≡ true
      → WasAbandoned v m.ticket ⊎ WasAcknowledged v m.ticket

-- So it is when what was past its time has expired, in every view that calls reach.
abbrev pub NoneIsLeftToExpire : Type 0
NoneIsLeftToExpire = (f : Format) (v : SenderView) (now : ℕ) → IsReached f v → HasNoneToExpire (expired v now) now
