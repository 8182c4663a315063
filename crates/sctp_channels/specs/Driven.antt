-- A table of channels drives an end of a run: the calls at that end are those that its channels make, and its user is told of them (RFC 8831, 6; RFC 8832, 6).
use Rattle.std.specs.Prelude.{◌≡◌, ◌⊎◌, ◌==◌, if◌then◌else◌, ℕ, ◌<◌, ◌≤◌, Bool, true, false, List, [], ◌∷◌, ◌++◌, length, take, drop, Option, Some, None, Ok}
use Rattle.sctp_model.specs.numbers.Lists.{Has}
use Rattle.sctp_model.specs.receiver.ReceiverView.{Handed}
use Rattle.sctp_model.specs.sender.Queueing.{Refusal}
use Rattle.sctp_model.specs.world.Calls.{Call}
use Rattle.sctp_model.specs.end.Configured.{IsConfiguration}
use Rattle.sctp_model.specs.end.EndView.{EndView, ended_of}
use Rattle.sctp_model.specs.end.UserCalls.{Ticket, Refused, NotOpen}
use Rattle.sctp_model.specs.world.World.{Side, other, World, end_of, Setup, configuration_of, start}
use Rattle.sctp_model.specs.world.Events.{Event, Send, Take, Reset, WasReset, Outcome, Done, NoSuchReset, ResetThere, NoReset}
use Rattle.sctp_model.specs.world.Events as model
use Rattle.sctp_model.specs.world.Steps.{PassesThrough, last_of}
use Rattle.sctp_model.specs.world.Aged.{Aged}
use Rattle.sctp_model.specs.world.Premises.{FreshAndUnforged}
use Rattle.sctp_outcomes.specs.Users.{same_side, exchange, taken, Match}
use Rattle.sctp_outcomes.specs.Parted.{ResetAfter, AreMatched}
use Rattle.sctp_dcep.specs.Content.{Content, content_of}
use Rattle.sctp_dcep.specs.Dcep.{Reliability, Parameters}
use Rattle.sctp_channels.specs.declared.stream.Due.TheVariants as due
use Rattle.sctp_channels.specs.declared.stream.State.TheVariants as state
use Rattle.sctp_channels.specs.declared.stream.Stream.{Stream}
use Rattle.sctp_channels.specs.declared.table.DtlsRole.{DtlsRole}
use Rattle.sctp_channels.specs.Streams.{may_send, with_channel, Table, fresh_table, stream_at, with_stream}
use Rattle.sctp_channels.specs.Told.{Told, Message, Closed, Report}
use Rattle.sctp_channels.specs.Buffered.{with_look, threshold_set}
use Rattle.sctp_channels.specs.Calling.{open_call, ack_call, content_call, open_choice, negotiated_choice}
use Rattle.sctp_channels.specs.Settling.{without_due, is_gone}
use Rattle.sctp_channels.specs.Events.{next_report, with_left_over, with_reset, all_noted}
use Rattle.sctp_channels.specs.Promise.{IsOfContent}

-- ---- one event

-- the user of this end sends, takes, or resets, or asks which stream was reset
abbrev pub is_call : Side → Event → Bool
is_call y (Send s c) = same_side s y
is_call y (Take s n) = same_side s y
is_call y (Reset s n) = same_side s y
is_call y (WasReset s) = same_side s y
is_call y e = false

-- this side's half of a channel is being closed
abbrev pub closes : Stream → Stream
closes x = record x { state = state.Closing; due = due.Nothing }

-- An event of a run leaves the second view of an end: what the user is told by it, and the channels after it.
pub data Moves (y : Side) (v u : EndView) (x : Table) : Event → Option Outcome → List Report → Table → Type 0 where
  -- packets, time, other calls, and whatever the user of the other end calls
  Elsewhere : (e : Event) (o : Option Outcome) → is_call y e ≡ false → Moves y v u x e o [] x
  -- an allocation failed
  Fails : (e : Event) → Moves y v u x e None [] x
  -- the next event is of a message that is taken; each reset of its stream was noted before
  Takes : (s : ℕ) (h : Handed) (r : Report) → (next_report v x).report ≡ Some r → u ≡ (next_report v x).view → u.receiver.resets.told s ≡ None →
      Moves y v u x (Take y s) (Some (model.Message h)) (r ∷ []) (next_report v x).table
  -- a reset of the peer's is noted, or there is none
  Notes : (s k : ℕ) → Moves y v u x (WasReset y) (Some (ResetThere s k)) [] (with_reset s k x)
  NotesNone : Moves y v u x (WasReset y) (Some NoReset) [] x
  -- a channel is opened by an OPEN; an ACK that is due is sent; a content is sent; or a message is refused
  Opens : (s t : ℕ) (p : Parameters) (o : Option ℕ) → open_choice v x p o ≡ Ok s →
      Moves y v u x (Send y (open_call s p)) (Some (model.Told (Ticket t))) [] (with_stream x s (with_channel state.Connecting p.ordered p.reliability (stream_at x s)))
  Answers : (s t : ℕ) → (stream_at x s).due ≡ due.Acknowledgement → Moves y v u x (Send y (ack_call s)) (Some (model.Told (Ticket t))) [] (with_stream x s (without_due (stream_at x s)))
  Says : (s t now : ℕ) (c : Content) → may_send (stream_at x s).state ≡ true →
      Moves y v u x (Send y (content_call s (stream_at x s) now c)) (Some (model.Told (Ticket t))) [] (with_look u s x)
  Refuses : (c : Call) (why : Refusal) → Moves y v u x (Send y c) (Some (model.Told (Refused why))) [] x
  IsNotOpen : (c : Call) → Moves y v u x (Send y c) (Some (model.Told NotOpen)) [] x
  -- this side's half is reset: as the user closes the channel, or as is due; or it isn't
  Closes : (s : ℕ) → may_send (stream_at x s).state ≡ true → Moves y v u x (Reset y s) (Some Done) [] (with_stream x s (closes (stream_at x s)))
  Resets : (s : ℕ) (o : Outcome) → (stream_at x s).due ≡ due.Reset → (o ≡ Done) ⊎ (o ≡ NoSuchReset) →
      Moves y v u x (Reset y s) (Some o) [] (with_stream x s (without_due (stream_at x s)))
  ResetsNone : (s : ℕ) (o : Outcome) → (o ≡ Done → ⊥) → Moves y v u x (Reset y s) (Some o) [] x

-- So it is when messages are taken: once all resets were noted, none is left to be told.
abbrev pub ResetsAreAllNoted : Type 0
ResetsAreAllNoted = (v : EndView) (x : Table) (s : ℕ) → s < v.receiver.streams → (all_noted v x).view.receiver.resets.told s ≡ None

-- ---- a run

-- From a world on, with a table, the events of a run make the table move at this end; the user is told this; and this table is left.
pub data Driven (y : Side) : World → Table → List Event → List (Option Outcome) → List World → List Report → Table → Type 0 where
  Rests : (w : World) (x : Table) → Driven y w x [] [] [] [] x
  -- an event happens
  Goes : (w v : World) (x z u : Table) (e : Event) (o : Option Outcome) (es : List Event) (os : List (Option Outcome)) (vs : List World) (rs more : List Report) →
      Moves y (end_of w y) (end_of v y) x e o rs z → Driven y v z es os vs more u → Driven y w x (e ∷ es) (o ∷ os) (v ∷ vs) (rs ++ more) u
  -- the user is told something that changes nothing at the endpoint: a channel is open, or closed, or its buffered amount is low
  Tells : (w : World) (x u : Table) (es : List Event) (os : List (Option Outcome)) (vs : List World) (r : Report) (more : List Report) →
      (next_report (end_of w y) x).report ≡ Some r → (next_report (end_of w y) x).view ≡ end_of w y →
      Driven y w (next_report (end_of w y) x).table es os vs more u → Driven y w x es os vs (r ∷ more) u
  -- a channel is opened that both applications agreed on
  Agrees : (w : World) (x u : Table) (es : List Event) (os : List (Option Outcome)) (vs : List World) (more : List Report) (s t : ℕ) (ordered : Bool) (r : Reliability) →
      negotiated_choice (end_of w y) x r t ≡ Ok s → Driven y w (with_stream x s (with_channel state.Open ordered r (stream_at x s))) es os vs more u →
      Driven y w x es os vs more u
  -- the low threshold of a channel's buffered amount is set
  Sets : (w : World) (x u : Table) (es : List Event) (os : List (Option Outcome)) (vs : List World) (more : List Report) (s n : ℕ) →
      may_send (stream_at x s).state ≡ true → Driven y w (threshold_set (end_of w y) s n x) es os vs more u → Driven y w x es os vs more u
  -- a stream is closed without a channel that was reported, and free again
  Frees : (w : World) (x u : Table) (es : List Event) (os : List (Option Outcome)) (vs : List World) (more : List Report) (s : ℕ) →
      is_gone (end_of w y) x s ≡ true → Driven y w (with_left_over x s) es os vs more u → Driven y w x es os vs more u

-- ---- a channel that is closed

-- At a place of the run, after these events, the user is told that the channel of the stream is closed, while the association lives.
pub record IsClosedIn (s : Setup) (y : Side) (role : DtlsRole) (many n : ℕ) (es : List Event) (os : List (Option Outcome)) : Type 0 where
  pub events : List Event
  pub later : List Event
  pub outcomes : List (Option Outcome)
  pub others : List (Option Outcome)
  pub all : es ≡ events ++ later
  pub answered : os ≡ outcomes ++ others
  pub worlds : List World
  pub passes : PassesThrough (start s) events outcomes worlds
  pub told : List Report
  pub table : Table
  pub driven : Driven y (start s) (fresh_table role many) events outcomes worlds told table
  pub alive : ended_of (end_of (last_of (start s) worlds) y).phase ≡ None
  pub closed : (next_report (end_of (last_of (start s) worlds) y) table).report ≡ Some (record { stream = n; told = Closed })

-- The peer's user had reset the stream. What was taken from it in these events was accepted before that reset; and all that is delivered later was accepted after it.
pub record IsPartedThere (x : Side) (n : ℕ) (events : List Event) (outcomes : List (Option Outcome)) (ms : List Match) : Type 0 where
  pub count : ℕ
  pub reset : ResetAfter x n 0 events outcomes count
  pub old : (m : Match) → Has (take (length (taken (other x) n events outcomes)) ms) m → m.sent.ticket ≤ count
  pub new : (m : Match) → Has (drop (length (taken (other x) n events outcomes)) ms) m → count < m.sent.ticket

-- ---- what is told

-- the content that is told, if it is of this stream
abbrev pub content_in : (n stream : ℕ) → Told → List Content
content_in n s (Message c) = if n == s then c ∷ [] else []
content_in n s t = []

-- the contents that are told of a stream
abbrev pub contents_on : (stream : ℕ) → List Report → List Content
contents_on n [] = []
contents_on n (r ∷ rs) = content_in n r.stream r.told ++ contents_on n rs

-- They are those of some of these messages, each of one, in their order.
abbrev pub AreOf : List Handed → List Content → Type 0
AreOf hs [] = Unit {0}
AreOf [] (c ∷ cs) = ⊥
AreOf (h ∷ hs) (c ∷ cs) = ((content_of h.payload h.bytes ≡ Some c) × AreOf hs cs) ⊎ AreOf hs (c ∷ cs)

-- ---- what is promised

-- THE PROMISE: where tables drive both ends of a run, of each stream in each direction: the contents that are told are of messages that were taken, each of one, in their
-- order; all messages are matched with messages that were sent, each content with itself; and once a channel is told closed, what was told is of before the peer's reset,
-- and what comes is of after it.
abbrev pub ChannelsAreFaithful : Type 0
ChannelsAreFaithful = (s : Setup) (es : List Event) (os : List (Option Outcome)) (vs : List World) → ((x : Side) → IsConfiguration (configuration_of s x)) →
    PassesThrough (start s) es os vs → FreshAndUnforged s.sealing es → Aged (start s) es vs →
    (roles : Side → DtlsRole) (many : Side → ℕ) (told : Side → List Report) (left : Side → Table) →
    ((y : Side) → Driven y (start s) (fresh_table (roles y) (many y)) es os vs (told y) (left y)) → (x : Side) (n : ℕ) →
    AreOf (taken (other x) n es os) (contents_on n (told (other x)))
    × ((ms : List Match) × AreMatched (exchange x n es os (last_of (start s) vs)) ms
    × ((m : Match) → Has ms m → (c : Content) → content_of m.message.payload m.message.bytes ≡ Some c → IsOfContent c m.sent.call)
    × ((c : IsClosedIn s (other x) (roles (other x)) (many (other x)) n es os) → IsPartedThere x n c.events c.outcomes ms))
