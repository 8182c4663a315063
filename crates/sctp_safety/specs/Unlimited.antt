-- SAFE if no message has a limit of retransmissions: then a message is abandoned only if its user named it, or if its lifetime is over (RFC 3758, 3.5).
use Rattle.std.specs.Prelude.{◌≡◌, ℕ, ◌<◌, ◌≤◌, ◌⊎◌, true, List, Some, None}
use Rattle.sctp_model.specs.numbers.Lists.{Has}
use Rattle.sctp_model.specs.messages.Format.{Format, Lane}
use Rattle.sctp_model.specs.messages.Plan.{Message, bytes_of, Entry, entry_at, message_at, IsOf}
use Rattle.sctp_model.specs.sender.SenderView.{SenderView}
use Rattle.sctp_model.specs.receiver.ReceiverView.{ReceiverView}
use Rattle.sctp_model.specs.world.Calls.{Call, Asked, call_at}
use Rattle.sctp_model.specs.world.Safe.{Safe, IsInOrder, IsPassedRightly, IsOnce, IsKept}
use Rattle.sctp_model.specs.end.EndView.{format_of}
use Rattle.sctp_model.specs.world.World.{Side, other, World, end_of, Setup}
use Rattle.sctp_model.specs.world.Events.{Event, Send}
use Rattle.sctp_model.specs.world.Premises.{asked_at, IsReachedInTime}

-- no accepted `send` had a limit
abbrev pub NoneIsLimited : Asked → Type 0
NoneIsLimited u = (t : ℕ) (c : Call) → call_at u t ≡ Some c → c.limit ≡ None

-- its user named it, or its lifetime is over
abbrev pub IsNamedOrPast : Asked → Message → Type 0
IsNamedOrPast u m = (u.named m.ticket ≡ true) ⊎ ((t : ℕ) × (m.until ≡ Some t) × (t ≤ u.clock))

-- The plan holds what was asked for, in the order in which it was asked for, and nothing else is abandoned.
pub record IsAskedUnlimited (a : SenderView) (u : Asked) : Type 0 where
  pub called : (l : Lane) (n : ℕ) (m : Message) → message_at a.plan l n ≡ Some m →
      call_at u m.ticket ≡ Some (record { lane = l; payload = m.payload; bytes = bytes_of m; until = m.until; limit = m.limit })
  pub once : (l k : Lane) (n o : ℕ) (m x : Message) → message_at a.plan l n ≡ Some m → message_at a.plan k o ≡ Some x →
      m.ticket ≡ x.ticket → (l ≡ k) × (n ≡ o)
  pub order : (i j : ℕ) (d e : Entry) (l k : Lane) (n o : ℕ) (m x : Message) →
      entry_at a.plan i ≡ Some d → IsOf l n d → message_at a.plan l n ≡ Some m →
      entry_at a.plan j ≡ Some e → IsOf k o e → message_at a.plan k o ≡ Some x →
      l.stream ≡ k.stream → m.ticket < x.ticket → i < j
  pub abandoned : (l : Lane) (n : ℕ) → a.abandoned l n ≡ true →
      (m : Message) × (message_at a.plan l n ≡ Some m) × IsNamedOrPast u m

-- The five promises, the fifth without limits.
pub record SafeUnlimited (f : Format) (a : SenderView) (r : ReceiverView) (u : Asked) : Type 0 where
  pub in_order : IsInOrder a r
  pub passed_rightly : IsPassedRightly a r
  pub once : IsOnce a r
  pub kept : IsKept f a r
  pub asked : IsAskedUnlimited a u

-- If none is limited, the five promises are these.
abbrev pub SafeWithoutLimits : Type 0
SafeWithoutLimits = (f : Format) (a : SenderView) (r : ReceiverView) (u : Asked) → NoneIsLimited u →
    (Safe f a r u → SafeUnlimited f a r u) × (SafeUnlimited f a r u → Safe f a r u)

-- ---- over runs

-- no `send` among these events has a limit
abbrev pub NoneHasLimit : List Event → Type 0
NoneHasLimit events = (x : Side) (c : Call) → Has events (Send x c) → c.limit ≡ None

-- In every world that a run without limits reaches in time, both directions keep these promises.
abbrev pub UnlimitedRunsAreSafe : Type 0
UnlimitedRunsAreSafe = (s : Setup) (events : List Event) (w : World) → IsReachedInTime s events w → NoneHasLimit events →
    (x : Side) → SafeUnlimited (format_of (end_of w x)) (end_of w x).sender (end_of w (other x)).receiver (asked_at w x)
