-- THE HEADLINE IN USERS' WORDS: what two applications see of a run, by events, answers and the readers of an endpoint. No plan, no TSN, no packet.
use Rattle.std.specs.Prelude.{◌≡◌, ℕ, ◌<◌, ◌≤◌, ◌⊎◌, ◌&&◌, ◌==◌, max, if◌then◌else◌, Bool, true, false, List, [], ◌∷◌, ◌++◌, map, Option, Some}
use Rattle.sctp_model.specs.numbers.Lists.{Has, AreInOrder, joined}
use Rattle.sctp_model.specs.messages.Format.{Ordered}
use Rattle.sctp_model.specs.messages.Pieces.{Piece}
use Rattle.sctp_model.specs.receiver.ReceiverView.{Handed}
use Rattle.sctp_model.specs.sender.Readers.{acknowledged}
use Rattle.sctp_model.specs.world.Calls.{Call}
use Rattle.sctp_model.specs.end.Configured.{IsConfiguration}
use Rattle.sctp_model.specs.end.EndView.{Ended, Completed, ended_of}
use Rattle.sctp_model.specs.end.UserCalls.{Ticket}
use Rattle.sctp_model.specs.world.World.{Side, A, B, other, World, end_of, Setup, configuration_of, start}
use Rattle.sctp_model.specs.world.Events.{Event, At, Send, Abandon, Take, Outcome, Told, Fate, Message, Later}
use Rattle.sctp_model.specs.world.Steps.{PassesThrough, last_of}
use Rattle.sctp_model.specs.world.Aged.{Aged}
use Rattle.sctp_model.specs.world.Premises.{FreshAndUnforged}
use Rattle.sctp_model.specs.sender.Abandoning.{AbandonAnswer, gives_up}
use Rattle.sctp_safety.specs.Runs.{AssignFewer}
use Rattle.sctp_model.specs.numbers.Serial.{half_space}

-- ---- what an application did, read off events and answers

-- both are one side
abbrev pub same_side : Side → Side → Bool
same_side A A = true
same_side A B = false
same_side B A = false
same_side B B = true

-- a message that `send` accepted, and the ticket that it returned
pub record Sent : Type 0 where
  pub ticket : ℕ
  pub call : Call

-- the message that `send` accepted at one event, if this side sent it
abbrev pub sent_by : Side → Event → Option Outcome → List Sent
sent_by x (Send s c) (Some (Told (Ticket t))) = if same_side s x then record { ticket = t; call = c } ∷ [] else []
sent_by x e o = []

-- the messages of this side that `send` accepted, in the order of the calls
abbrev pub sent : Side → List Event → List (Option Outcome) → List Sent
sent x (e ∷ es) (o ∷ os) = sent_by x e o ++ sent x es os
sent x es os = []

-- this ticket, if `abandon` answered that its message is given up
abbrev pub given_by : AbandonAnswer → (ticket : ℕ) → List ℕ
given_by a t = if gives_up a then t ∷ [] else []

-- the ticket of the message that this side gave up by `abandon` at one event
abbrev pub named_by : Side → Event → Option Outcome → List ℕ
named_by x (Abandon s t) (Some (Fate a)) = if same_side s x then given_by a t else []
named_by x e o = []

-- the tickets of the messages that this side gave up by `abandon`
abbrev pub named : Side → List Event → List (Option Outcome) → List ℕ
named x (e ∷ es) (o ∷ os) = named_by x e o ++ named x es os
named x es os = []

-- the message that this side took from this stream at one event
abbrev pub taken_by : Side → (stream : ℕ) → Event → Option Outcome → List Handed
taken_by x n (Take s m) (Some (Message h)) = if same_side s x && (n == m) then h ∷ [] else []
taken_by x n e o = []

-- the messages that this side took from this stream, in the order of the calls
abbrev pub taken : Side → (stream : ℕ) → List Event → List (Option Outcome) → List Handed
taken x n (e ∷ es) (o ∷ os) = taken_by x n e o ++ taken x n es os
taken x n es os = []

-- the time that the clock of this side reached at one event, in milliseconds
abbrev pub time_by : Side → Event → Option Outcome → ℕ
time_by x (Later s m) (Some o) = if same_side s x then m else 0
time_by x (At m) (Some o) = m
time_by x e o = 0

-- the latest time that it reached, in milliseconds
abbrev pub time : Side → List Event → List (Option Outcome) → ℕ
time x (e ∷ es) (o ∷ os) = max (time_by x e o) (time x es os)
time x es os = 0

-- ---- one direction of a stream

-- What is known of the messages that go one way on one stream: by both applications, and by the readers of both endpoints.
pub record Exchange : Type 0 where
  pub stream : ℕ
  -- what the sending application did, on any stream
  pub sent : List Sent
  pub named : List ℕ
  -- the time, by the clock of the sending endpoint
  pub time : ℕ
  -- the endpoints agreed on partial reliability: `Endpoint::is_partial` at the sending endpoint
  pub partial : Bool
  -- of a ticket: `Endpoint::acknowledged` at the sending endpoint
  pub acknowledged : ℕ → Bool
  -- what the receiving application took from the stream, and what waits there for `take`: `Endpoint::waiting`
  pub taken : List Handed
  pub waiting : List Handed
  -- the chunks with data that the receiving endpoint holds, of any stream: `Endpoint::reassembly_bytes` counts their bytes
  pub held : List Piece
  -- how the association ended at an endpoint, if it is over there: `Endpoint::ended`
  pub ended : Side → Option Ended

-- the messages that side x sends on stream n
abbrev pub exchange : Side → (stream : ℕ) → List Event → List (Option Outcome) → World → Exchange
exchange x n es os w = record {
  stream = n;
  sent = sent x es os;
  named = named x es os;
  time = time x es os;
  partial = (end_of w x).sender.partial;
  acknowledged = λ t. acknowledged (end_of w x).sender t;
  taken = taken (other x) n es os;
  waiting = (end_of w (other x)).receiver.waiting n;
  held = (end_of w (other x)).receiver.kept;
  ended = λ y. ended_of (end_of w y).phase;
}

-- ---- what is promised of it

-- the message was accepted, on this stream
pub record WasSent (e : Exchange) (s : Sent) : Type 0 where
  pub accepted : Has e.sent s
  pub stream : s.call.lane.stream ≡ e.stream

-- a message that was delivered, and the one that was sent
pub record Match : Type 0 where
  pub message : Handed
  pub sent : Sent

-- They are the same: accepted on this stream, ordered or unordered as it was sent, with its payload protocol identifier and its bytes.
pub record IsMatch (e : Exchange) (m : Match) : Type 0 where
  pub was_sent : WasSent e m.sent
  pub lane : m.message.lane ≡ m.sent.call.lane
  pub payload : m.message.payload ≡ m.sent.call.payload
  pub bytes : m.message.bytes ≡ m.sent.call.bytes

-- the message is among those delivered
abbrev pub IsDelivered : List Match → Sent → Type 0
IsDelivered matches s = (m : Match) × Has matches m × (m.sent ≡ s)

-- Its application gave it up: by `abandon`, which answered so; or the lifetime that it gave the message is over; or it limited how often a fragment may
-- be retransmitted, and partial reliability was agreed on. (That a fragment really went out again so often is in SAFE: no event shows it.)
pub data WasGivenUp (e : Exchange) (s : Sent) : Type 0 where
  ByName : Has e.named s.ticket → WasGivenUp e s
  ByTime : (until : ℕ) → s.call.until ≡ Some until → until ≤ e.time → WasGivenUp e s
  ByLimit : (limit : ℕ) → s.call.limit ≡ Some limit → e.partial ≡ true → WasGivenUp e s

-- The endpoint holds the whole message: chunks of its stream and kind, of rising TSN, whose bytes joined are its bytes. Each of them has the message's
-- ticket, and so is a chunk of no other message.
pub record IsHeld (e : Exchange) (ticket_of : Piece → ℕ) (s : Sent) : Type 0 where
  pub chunks : List Piece
  pub each : (x : Piece) → Has chunks x → Has e.held x × (x.lane ≡ s.call.lane)
  pub own : (x : Piece) → Has chunks x → ticket_of x ≡ s.ticket
  pub rising : AreInOrder (λ (x y : Piece). x.index < y.index) chunks
  pub bytes : joined (map (λ (x : Piece). x.bytes) chunks) ≡ s.call.bytes

-- THE PROMISE
pub record IsFaithful (e : Exchange) : Type 0 where
  -- Each message that was taken or waits for `take` is matched with one that was sent,
  pub matches : List Match
  pub all : map (λ (m : Match). m.message) matches ≡ e.taken ++ e.waiting
  pub each : (m : Match) → Has matches m → IsMatch e m
  -- none with two,
  pub once : AreInOrder (λ (m k : Match). m.sent.ticket ≡ k.sent.ticket → ⊥) matches
  -- and ordered ones are in the order in which they were sent.
  pub in_order : AreInOrder (λ (m k : Match). m.message.lane.kind ≡ Ordered → k.message.lane.kind ≡ Ordered → m.sent.ticket < k.sent.ticket) matches
  -- An ordered message that was sent before one of these is one of these, or was given up.
  pub overtaken : (s : Sent) → WasSent e s → s.call.lane.kind ≡ Ordered → (m : Match) → Has matches m → m.message.lane.kind ≡ Ordered →
      s.ticket < m.sent.ticket →
      IsDelivered matches s ⊎ WasGivenUp e s
  -- A message that is reported acknowledged is one of these, or is held whole; each chunk that is held has one ticket.
  pub ticket_of : Piece → ℕ
  pub acknowledged : (s : Sent) → WasSent e s → e.acknowledged s.ticket ≡ true → IsDelivered matches s ⊎ IsHeld e ticket_of s
  -- Once either endpoint has completed the association, every message that was sent is one of these, or was given up.
  pub completed : (x : Side) → e.ended x ≡ Some Completed → (s : Sent) → WasSent e s → IsDelivered matches s ⊎ WasGivenUp e s

-- So it is at the end of every run that meets the three premises, of each stream in each direction: and at each time on the way, since the beginning of a
-- run is a run.
abbrev pub UsersTakeWhatWasSent : Type 0
UsersTakeWhatWasSent = (s : Setup) (es : List Event) (os : List (Option Outcome)) (vs : List World) → ((x : Side) → IsConfiguration (configuration_of s x)) →
    PassesThrough (start s) es os vs → FreshAndUnforged s.sealing es → Aged (start s) es vs →
    (x : Side) (n : ℕ) → IsFaithful (exchange x n es os (last_of (start s) vs))

-- The same at the end of every run in which each endpoint assigns fewer than 2^31 TSNs, however late packets arrive: it meets FRESH and UNFORGED, and
-- needs no third premise (RFC 9260, 2.6).
abbrev pub ShortRunsAreFaithful : Type 0
ShortRunsAreFaithful = (s : Setup) (es : List Event) (os : List (Option Outcome)) (vs : List World) → ((x : Side) → IsConfiguration (configuration_of s x)) →
    PassesThrough (start s) es os vs → FreshAndUnforged s.sealing es → AssignFewer (half_space 32) (start s ∷ vs) →
    (x : Side) (n : ℕ) → IsFaithful (exchange x n es os (last_of (start s) vs))
