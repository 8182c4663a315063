-- What every move keeps. Each fact is stated so that it only grows more true as plans, abandoned messages, indexes seen and numbers passed grow.
use Rattle.std.proofs.Common.{◌≡◌, ℕ, suc, ◌-◌, ◌<◌, ◌≤◌, ◌⊎◌, true, false, List, length, Some, [], ◌∷◌}
use Rattle.sctp_model.specs.numbers.Lists.{Has}
use Rattle.sctp_model.specs.messages.Format.{Format, Plain, Ordered, Unordered, Lane, is_numbered, ordered_lane}
use Rattle.sctp_model.specs.messages.Plan.{Message, bytes_of, Entry, Part, End, Plan, entry_at, message_at, IsOf, IsAssigned, IsComplete, IsClosed}
use Rattle.sctp_model.specs.messages.Pieces.{Piece, piece_of, IsFragment, IsNumberBelow}
use Rattle.sctp_model.specs.sender.SenderView.{Queued, SenderView}
use Rattle.sctp_model.specs.messages.Forward.{Skip, Forward}
use Rattle.sctp_model.specs.receiver.ReceiverView.{Handed, ReceiverView, handed, Reaches}
use Rattle.sctp_model.specs.messages.Acknowledgement.{Acknowledgement, covers}
use Rattle.sctp_model.specs.world.Calls.{Asked, call_at}
use Rattle.sctp_model.specs.world.Safe.{IsRising, AreDifferent, IsSent, WasHanded, IsGivenUp}
use Rattle.sctp_safety.specs.Way.{Way}

-- the receiver is done with the number, if there is one
abbrev pub IsDone : Format → ReceiverView → Lane → ℕ → Type 0
IsDone f r l n = (is_numbered f l.kind ≡ false) ⊎ ((n < r.skip l) ⊎ ((l.kind ≡ Ordered) × (n < r.next l.stream)))

-- the index belongs to an abandoned message that the receiver is done with
pub record IsLost (f : Format) (a : SenderView) (r : ReceiverView) (i : ℕ) : Type 0 where
  pub lane : Lane
  pub number : ℕ
  pub entry : Entry
  pub here : entry_at a.plan i ≡ Some entry
  pub of : IsOf lane number entry
  pub gone : a.abandoned lane number ≡ true
  pub done : IsDone f r lane number

-- or will be, when it takes this list
pub record IsLostBy (f : Format) (a : SenderView) (r : ReceiverView) (skips : List Skip) (i : ℕ) : Type 0 where
  pub lane : Lane
  pub number : ℕ
  pub entry : Entry
  pub here : entry_at a.plan i ≡ Some entry
  pub of : IsOf lane number entry
  pub gone : a.abandoned lane number ≡ true
  pub done : IsDone f r lane number ⊎ ((y : Skip) × Has skips y × (y.lane ≡ lane) × (number ≤ y.number))

-- what has become of a fragment
abbrev pub IsOver : Format → SenderView → ReceiverView → Lane → ℕ → Type 0
IsOver f a r l n = WasHanded a.plan r l n ⊎ ((a.abandoned l n ≡ true) × IsDone f r l n)

pub record IsSettled (f : Format) (a : SenderView) (r : ReceiverView) (i : ℕ) : Type 0 where
  pub lane : Lane
  pub number : ℕ
  pub fragment : ℕ
  pub message : Message
  pub named : message_at a.plan lane number ≡ Some message
  pub here : entry_at a.plan i ≡ Some (Part lane number fragment)
  pub state : Has r.kept (piece_of f i lane number fragment message) ⊎ IsOver f a r lane number

-- every fragment of the message arrived
pub record IsAllSeen (p : Plan) (r : ReceiverView) (l : Lane) (n : ℕ) : Type 0 where
  pub message : Message
  pub named : message_at p l n ≡ Some message
  pub seen : (k : ℕ) → k < length message.fragments → (i : ℕ) × (entry_at p i ≡ Some (Part l n k)) × (r.seen i ≡ true)

-- the message may be passed over if it isn't whole
abbrev pub MayPass : SenderView → ReceiverView → Lane → ℕ → Type 0
MayPass a r l n = (a.abandoned l n ≡ true) ⊎ IsAllSeen a.plan r l n

-- an unordered chunk at this index may be let go if its message isn't whole
pub record IsRetired (a : SenderView) (r : ReceiverView) (i : ℕ) : Type 0 where
  pub lane : Lane
  pub number : ℕ
  pub entry : Entry
  pub here : entry_at a.plan i ≡ Some entry
  pub of : IsOf lane number entry
  pub may : lane.kind ≡ Unordered → MayPass a r lane number

-- some index up to this one isn't reached
abbrev pub IsAhead : ReceiverView → ℕ → Type 0
IsAhead r p = (j : ℕ) × (j ≤ p) × (Reaches r j → ⊥)

-- a FORWARD is its sender's
pub record IsSendersForward (f : Format) (a : SenderView) (r : ReceiverView) (x : Forward) : Type 0 where
  pub upto : (i : ℕ) → 0 < i → i ≤ x.point → (r.seen i ≡ true) ⊎ IsLostBy f a r x.skips i
  pub listed : (y : Skip) → Has x.skips y → (n : ℕ) → n ≤ y.number → MayPass a r y.lane n
  pub numbered : (y : Skip) → Has x.skips y → is_numbered f y.lane.kind ≡ true
  pub old : f ≡ Plain → IsAhead r x.point → (i : ℕ) → 0 < i → i ≤ x.point → IsRetired a r i

-- The plan is orderly, by tickets.
pub record IsOrderedPlan (f : Format) (p : Plan) : Type 0 where
  pub begun : (l : Lane) (n : ℕ) (m : Message) → message_at p l n ≡ Some m → IsAssigned p l n 0
  pub filled : (l : Lane) (n : ℕ) (m : Message) → message_at p l n ≡ Some m →
      (0 < length m.fragments) × ((x : List ℕ) → Has m.fragments x → 0 < length x)
  pub within : (i : ℕ) (l : Lane) (n k : ℕ) → entry_at p i ≡ Some (Part l n k) →
      (m : Message) × (message_at p l n ≡ Some m) × (k < length m.fragments)
  pub marked : (i : ℕ) (l : Lane) (n : ℕ) → entry_at p i ≡ Some (End l n) → (m : Message) × (message_at p l n ≡ Some m)
  pub follows : (j : ℕ) (l : Lane) (n k : ℕ) → entry_at p j ≡ Some (Part l n (suc k)) →
      (i : ℕ) × (i < j) × (entry_at p i ≡ Some (Part l n k))
  pub once : (i j : ℕ) (l : Lane) (n k : ℕ) → entry_at p i ≡ Some (Part l n k) → entry_at p j ≡ Some (Part l n k) → i ≡ j
  pub ended : (i : ℕ) (l : Lane) (n : ℕ) (m : Message) → entry_at p i ≡ Some (End l n) → IsComplete p l n m → ⊥
  pub consecutive : f ≡ Plain → (j : ℕ) (l : Lane) (n k : ℕ) → entry_at p j ≡ Some (Part l n (suc k)) → entry_at p (j - 1) ≡ Some (Part l n k)
  pub complete : f ≡ Plain → (l : Lane) (n : ℕ) (m : Message) → message_at p l n ≡ Some m → IsComplete p l n m
  -- two messages of a stream: the one with the lower ticket is before the other, and takes no further index
  pub order : (i j : ℕ) (d e : Entry) (l k : Lane) (n o : ℕ) (m x : Message) →
      entry_at p i ≡ Some d → IsOf l n d → message_at p l n ≡ Some m →
      entry_at p j ≡ Some e → IsOf k o e → message_at p k o ≡ Some x →
      l.stream ≡ k.stream → m.ticket < x.ticket → i < j
  pub closed : (l k : Lane) (n o : ℕ) (m x : Message) → message_at p l n ≡ Some m → message_at p k o ≡ Some x →
      l.stream ≡ k.stream → m.ticket < x.ticket → IsClosed p l n
  pub rising : (l : Lane) (n o : ℕ) (m x : Message) → message_at p l n ≡ Some m → message_at p l o ≡ Some x → n < o → m.ticket < x.ticket
  pub different : (l k : Lane) (n o : ℕ) (m x : Message) → message_at p l n ≡ Some m → message_at p k o ≡ Some x →
      m.ticket ≡ x.ticket → (l ≡ k) × (n ≡ o)

-- the tickets of what waits rise
abbrev pub IsQueue : List Queued → Type 0
IsQueue [] = Unit {0}
IsQueue (q ∷ qs) = ((x : Queued) → Has qs x → q.message.ticket < x.message.ticket) × IsQueue qs

-- the call with the message's ticket asked for just this message
abbrev pub IsCalled : Asked → Lane → Message → Type 0
IsCalled u l m = call_at u m.ticket ≡ Some (record { lane = l; payload = m.payload; bytes = bytes_of m; until = m.until; limit = m.limit })

-- What waits for a number.
pub record Waits (streams : ℕ) (p : Plan) (u : Asked) (qs : List Queued) : Type 0 where
  pub rising : IsQueue qs
  pub streamed : (q : Queued) → Has qs q → q.lane.stream < streams
  pub filled : (q : Queued) → Has qs q → (0 < length q.message.fragments) × ((x : List ℕ) → Has q.message.fragments x → 0 < length x)
  pub called : (q : Queued) → Has qs q → IsCalled u q.lane q.message
  pub later : (q : Queued) (l : Lane) (n : ℕ) (m : Message) → Has qs q → message_at p l n ≡ Some m → l.stream ≡ q.lane.stream →
      m.ticket < q.message.ticket
  pub different : (q : Queued) (l : Lane) (n : ℕ) (m : Message) → Has qs q → message_at p l n ≡ Some m → m.ticket ≡ q.message.ticket → ⊥

-- The plan holds what was asked for, and what is abandoned is a message that was to be.
pub record IsAskedPlan (streams : ℕ) (a : SenderView) (u : Asked) : Type 0 where
  pub streamed : (l : Lane) (n : ℕ) (m : Message) → message_at a.plan l n ≡ Some m → l.stream < streams
  pub called : (l : Lane) (n : ℕ) (m : Message) → message_at a.plan l n ≡ Some m → IsCalled u l m
  pub abandoned : (l : Lane) (n : ℕ) → a.abandoned l n ≡ true → (m : Message) × (message_at a.plan l n ≡ Some m) × IsGivenUp a u l n m
  pub ended : (i : ℕ) (l : Lane) (n : ℕ) → entry_at a.plan i ≡ Some (End l n) → a.abandoned l n ≡ true

-- What lies between the two endpoints, and what the sender took from there.
pub record Between (w : Way) : Type 0 where
  pub pieces : (x : Piece) → Has w.pieces x → IsFragment w.format w.sender.plan x
  pub forwards : (x : Forward) → Has w.forwards x → IsSendersForward w.format w.sender w.receiver x
  pub sacks : (x : Acknowledgement) (i : ℕ) → Has w.sacks x → covers x i ≡ true → Reaches w.receiver i
  pub shutdowns : (c i : ℕ) → Has w.shutdowns c → i ≤ c → Reaches w.receiver i
  pub covered : (i : ℕ) → w.sender.covered i ≡ true → Reaches w.receiver i
  pub cum : (i : ℕ) → i ≤ w.sender.cum → Reaches w.receiver i

-- a message delivered is one of the plan, on this stream
pub record IsHonest (f : Format) (p : Plan) (s : ℕ) (h : Handed) : Type 0 where
  pub sent : IsSent p h.lane h
  pub stream : h.lane.stream ≡ s
  pub counted : is_numbered f h.lane.kind ≡ true → h.number ≡ Some sent.number

-- What is delivered.
pub record IsHandedRightly (f : Format) (a : SenderView) (r : ReceiverView) : Type 0 where
  pub all_seen : (l : Lane) (n : ℕ) → WasHanded a.plan r l n → IsAllSeen a.plan r l n
  pub below : (s : ℕ) (h : Handed) → Has (handed r s) h → h.lane.kind ≡ Ordered → IsNumberBelow (r.next s) h.number
  pub rising : (s : ℕ) → IsRising (handed r s)
  pub apart : (s : ℕ) → AreDifferent (handed r s)
  pub honest : (s : ℕ) (h : Handed) → Has (handed r s) h → IsHonest f a.plan s h
  pub passed : (s n : ℕ) → n < r.next s → WasHanded a.plan r (ordered_lane s) n ⊎ (a.abandoned (ordered_lane s) n ≡ true)

-- What the receiver holds.
pub record Held (f : Format) (a : SenderView) (r : ReceiverView) : Type 0 where
  pub jumped : (i : ℕ) → 0 < i → i ≤ r.jump → (r.seen i ≡ true) ⊎ IsLost f a r i
  pub old : f ≡ Plain → (i : ℕ) → 0 < i → i ≤ r.jump → IsRetired a r i
  pub kept : (x : Piece) → Has r.kept x → IsFragment f a.plan x
  pub seen : (i : ℕ) → r.seen i ≡ true → IsSettled f a r i
  pub skips : (l : Lane) (n : ℕ) → n < r.skip l → MayPass a r l n
  pub unskipped : (l : Lane) → is_numbered f l.kind ≡ false → r.skip l ≡ 0
  pub kept_seen : (x : Piece) → Has r.kept x → r.seen x.index ≡ true
  pub fresh : (x : Piece) (n k : ℕ) → Has r.kept x → entry_at a.plan x.index ≡ Some (Part x.lane n k) → WasHanded a.plan r x.lane n → ⊥
  pub told : IsHandedRightly f a r

pub record Good (w : Way) : Type 0 where
  pub arranged : IsOrderedPlan w.format w.sender.plan
  pub waits : Waits w.streams w.sender.plan w.asked w.sender.queue
  pub sound : IsAskedPlan w.streams w.sender w.asked
  pub between : Between w
  pub held : Held w.format w.sender w.receiver
