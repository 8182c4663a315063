-- What each call of channels makes, from what its contract says of it (RFC 8831, 6; RFC 8832, 6).
use Rattle.std.specs.Prelude.{◌≡◌, ℕ, ◌<◌, ◌^◌, max, List, [], ◌∷◌, ◌++◌, Bool, Option, Some, None, Result, Ok, Err}
use Rattle.std.specs.declared.vec.Vec.{Vec}
use Rattle.std.specs.declared.alloc.Global.{Global}
use Rattle.sctp_model.specs.wire.Packet.{Packet}
use Rattle.sctp_model.specs.end.EndView.{Draw, IsDraw}
use Rattle.sctp_model.specs.end.Moments.{ticked}
use Rattle.sctp_model.specs.end.UserCalls.{connect_answer, abandoned_at, shut}
use Rattle.sctp_model.specs.world.World.{Side, A, other, World, end_of, bag_of, clock_of, Setup, start}
use Rattle.sctp_model.specs.world.Events.{Event, OpenBoth, Later, Moment, At, Drawing, Connect, Build, Abandon, Shutdown, Abort, Outcome, Done}
use Rattle.sctp_model.specs.world.Steps.{Step, Brings, last_of}
use Rattle.sctp_packet.specs.PacketBytes.{WritesPacket}
use Rattle.sctp_values.specs.declared.no_memory.NoMemory.{NoMemory}
use Rattle.sctp_values.specs.declared.ticket.Ticket.{Ticket}
use Rattle.sctp_terms.specs.declared.calls.AbortFault.{AbortFault}
use Rattle.sctp_terms.specs.declared.calls.ConnectFault.{ConnectFault}
use Rattle.sctp_association.specs.AbortAnswers.{AbortAnswers, aborted_view}
use Rattle.sctp_association.specs.CallAnswers.{connect_meaning, connected}
use Rattle.sctp_endpoint.specs.declared.after.Verdict.{Verdict}
use Rattle.sctp_endpoint.specs.declared.after.Verdict.TheVariants.{Taken, Dropped, Answer}
use Rattle.sctp_endpoint.specs.declared.transmit.Sent.{Sent}
use Rattle.sctp_dcep.specs.Content.{Content}
use Rattle.sctp_dcep.specs.Dcep.{Reliability, Parameters}
use Rattle.sctp_channels.specs.declared.channels.Channels.{Channels}
use Rattle.sctp_channels.specs.declared.event.Event as declared
use Rattle.sctp_channels.specs.declared.fault.CloseFault.{CloseFault}
use Rattle.sctp_channels.specs.declared.fault.OpenFault.{OpenFault}
use Rattle.sctp_channels.specs.declared.fault.SendFault.{SendFault}
use Rattle.sctp_channels.specs.declared.fault.ThresholdFault.{ThresholdFault}
use Rattle.sctp_channels.specs.declared.table.DtlsRole.{DtlsRole}
use Rattle.sctp_channels.specs.Streams.{Table, fresh_table}
use Rattle.sctp_channels.specs.Told.{Report}
use Rattle.sctp_channels.specs.Events.{next_told}
use Rattle.sctp_channels.specs.Meanings.{event_meaning}
use Rattle.sctp_channels.specs.ChannelsStand.{ChannelsStand}
use Rattle.sctp_channels.specs.Answers.{Opens, OpensNegotiated, Sends, Closes, SetsThreshold}
use Rattle.sctp_channels.specs.Telling.{Tells}
use Rattle.sctp_channels.specs.Packets.{Hears, Transmit}
use Rattle.sctp_channels.specs.Making.{IsAllNoted, IsMade, with_side, IsDrivenTo}

-- ---- calls of the user

-- a call that changed nothing: one that asks, gives back a buffer, or was refused
abbrev pub NothingIsMade : Type 0
NothingIsMade = (y : Side) (w : World) (x : Table) (c : Channels) → ChannelsStand c (end_of w y) x → IsMade y w x [] [] [] c

-- `open` (RFC 8832, 6)
abbrev pub OpensAreMade : Type 0
OpensAreMade = (y : Side) (w : World) (x : Table) (p : Parameters) (o : Option ℕ) (r : Result ℕ OpenFault) (c : Channels) → Opens (end_of w y) x p o r c → IsMade y w x [] [] [] c

-- `open_negotiated` (RFC 8831, 6.4)
abbrev pub NegotiatedAreMade : Type 0
NegotiatedAreMade = (y : Side) (w : World) (x : Table) (ordered : Bool) (l : Reliability) (s : ℕ) (r : Result (Unit {0}) OpenFault) (c : Channels) →
    OpensNegotiated (end_of w y) x ordered l s r c → IsMade y w x [] [] [] c

-- `send` (RFC 8831, 6.6)
abbrev pub SendsAreMade : Type 0
SendsAreMade = (y : Side) (w : World) (x : Table) (now s : ℕ) (k : Content) (r : Result Ticket SendFault) (c : Channels) → Sends (end_of w y) x now s k r c → IsMade y w x [] [] [] c

-- `close` (RFC 8831, 6.7)
abbrev pub ClosesAreMade : Type 0
ClosesAreMade = (y : Side) (w : World) (x : Table) (s : ℕ) (r : Result (Unit {0}) CloseFault) (c : Channels) → Closes (end_of w y) x s r c → IsMade y w x [] [] [] c

-- `set_buffered_amount_low_threshold`
abbrev pub ThresholdsAreMade : Type 0
ThresholdsAreMade = (y : Side) (w : World) (x : Table) (s bytes : ℕ) (r : Result (Unit {0}) ThresholdFault) (c : Channels) → SetsThreshold (end_of w y) x s bytes r c → IsMade y w x [] [] [] c

-- ---- what is told

-- the report of an event, if there is one
abbrev pub reports_of : Option declared.Event → List Report
reports_of None = []
reports_of (Some e) = event_meaning e ∷ []

-- `next_event`, if resets are noted
abbrev pub EventsAreMade : Type 0
EventsAreMade = (y : Side) (w : World) (x : Table) (e : Option declared.Event) (c : Channels) → IsAllNoted (end_of w y) → Tells (next_told (end_of w y) x) e c → IsMade y w x [] (reports_of e) [] c

-- ---- packets

-- the packet whose bytes answer a packet, if there is one
abbrev pub IsAnsweredBy : Result Verdict NoMemory → List Packet → Type 0
IsAnsweredBy (Ok Taken) ps = ps ≡ []
IsAnsweredBy (Ok (Dropped reason)) ps = ps ≡ []
IsAnsweredBy (Ok (Answer bytes)) ps = (p : Packet) × (ps ≡ p ∷ []) × WritesPacket bytes.items p
IsAnsweredBy (Err why) ps = ps ≡ []

-- `handle_packet`, at the time of the endpoint's clock and with the world's random numbers, of a packet that an event brings
abbrev pub PacketsAreMade : Type 0
PacketsAreMade = (y : Side) (w : World) (x : Table) (e : Event) (o : Option Packet) (r : Result Verdict NoMemory) (c : Channels) → Brings w e y o → Hears (end_of w y) x (clock_of w y) w.draw o r c →
    (ps : List Packet) × IsAnsweredBy r ps × IsMade y w x (e ∷ []) [] ps c

-- the packet whose bytes are sent, if there is one
abbrev pub IsSentAs : Result (Option Sent) NoMemory → List Packet → Type 0
IsSentAs (Ok None) ps = ps ≡ []
IsSentAs (Ok (Some sent)) ps = (p : Packet) × (ps ≡ p ∷ []) × WritesPacket sent.packet.items p
IsSentAs (Err why) ps = ps ≡ []

-- a packet is built, unless an allocation failed before that
abbrev pub building : Side → Result (Option Sent) NoMemory → List Event
building y (Ok sent) = Build y ∷ []
building y (Err why) = []

-- `poll_transmit`, at the time of the endpoint's clock
abbrev pub TransmitsAreMade : Type 0
TransmitsAreMade = (y : Side) (w : World) (x : Table) (r : Result (Option Sent) NoMemory) (c : Channels) → Transmit (end_of w y) x (clock_of w y) r c →
    (ps : List Packet) × IsSentAs r ps × IsMade y w x (building y r) [] ps c

-- ---- calls that are passed on

-- `connect`, at the end that calls (RFC 9260, 5.1); at the other it is refused, and changes nothing
abbrev pub ConnectsAreMade : Type 0
ConnectsAreMade = (w : World) (x : Table) (d : Draw) (r : Result (Unit {0}) ConnectFault) (c : Channels) → IsDraw d → connect_meaning r ≡ connect_answer w.a.phase →
    ChannelsStand c (connected w.a w.clock_a d r) x → IsMade A w x (Connect d ∷ []) [] [] c

-- `abandon` (RFC 3758, 3.5)
abbrev pub AbandonsAreMade : Type 0
AbandonsAreMade = (y : Side) (w : World) (x : Table) (k : ℕ) (c : Channels) → ChannelsStand c (abandoned_at (end_of w y) k) x → IsMade y w x (Abandon y k ∷ []) [] [] c

-- `shutdown` (RFC 9260, 9.2)
abbrev pub ShutdownsAreMade : Type 0
ShutdownsAreMade = (y : Side) (w : World) (x : Table) (c : Channels) → ChannelsStand c (shut (end_of w y)) x → IsMade y w x (Shutdown y ∷ []) [] [] c

-- the ABORT whose bytes are returned, if it is
abbrev pub IsAbortedBy : Result (Vec ℕ Global) AbortFault → List Packet → Type 0
IsAbortedBy (Ok bytes) ps = (p : Packet) × (ps ≡ p ∷ []) × WritesPacket bytes.items p
IsAbortedBy (Err why) ps = ps ≡ []

-- `abort` (RFC 9260, 9.1)
abbrev pub AbortsAreMade : Type 0
AbortsAreMade = (y : Side) (w : World) (x : Table) (reason : List ℕ) (r : Result (Vec ℕ Global) AbortFault) (c : Channels) → AbortAnswers (end_of w y) reason r →
    ChannelsStand c (aborted_view (end_of w y) reason r) x → (ps : List Packet) × IsAbortedBy r ps × IsMade y w x (Abort y reason ∷ []) [] ps c

-- ---- both ends

-- `on_moment` at one end: its clock goes on to that time, if that is later, and it is asked what is due. Nothing happens at the other end, and no packet is built.
abbrev pub TimesAreMade : Type 0
TimesAreMade = (y : Side) (w : World) (m : ℕ) (x : Table) (c : Channels) → m < 2 ^ 64 → ChannelsStand c (ticked (end_of w y) (max (clock_of w y) m)) x →
    (u v : World) × Step w (Later y m) (Some Done) u × Step u (Moment y) (Some Done) v × ChannelsStand c (end_of v y) x × (end_of v (other y) ≡ end_of w (other y))
    × ((z : Side) → bag_of v z ≡ bag_of w z) × (clock_of v y ≡ max (clock_of w y) m) × (clock_of v (other y) ≡ clock_of w (other y))

-- both ends are opened without packets, a clock goes on, an end is asked what is due, both of these happen at both ends, or there are new random numbers
pub data IsBeside : Event → Type 0 where
  OpensBoth : (d e : Draw) → IsBeside (OpenBoth d e)
  GoesOn : (y : Side) (m : ℕ) → IsBeside (Later y m)
  Comes : (y : Side) → IsBeside (Moment y)
  Passes : (m : ℕ) → IsBeside (At m)
  Draws : (d : Draw) → IsBeside (Drawing d)

-- WHAT CALLS MAKE IS DRIVEN: from the start, call by call at either end and with what happens beside, a run that the tables of both ends drive. The law of channels speaks of each such run.
pub record CallsAreDriven : Type 0 where
  pub begins : (s : Setup) (roles : Side → DtlsRole) (many : Side → ℕ) → IsDrivenTo s roles many [] [] [] (λ y. []) (start s) (λ y. fresh_table (roles y) (many y))
  pub calls : (s : Setup) (roles : Side → DtlsRole) (many : Side → ℕ) (es : List Event) (os : List (Option Outcome)) (vs : List World) (told : Side → List Report) (w : World) (x : Side → Table) →
      IsDrivenTo s roles many es os vs told w x → (y : Side) (others : List Event) (reports : List Report) (ps : List Packet) (c : Channels) → (m : IsMade y w (x y) others reports ps c) →
      IsDrivenTo s roles many (es ++ m.makes.events) (os ++ m.makes.outcomes) (vs ++ m.makes.worlds) (with_side y (told y ++ reports) told) (last_of w m.makes.worlds) (with_side y m.table x)
  pub goes_on : (s : Setup) (roles : Side → DtlsRole) (many : Side → ℕ) (es : List Event) (os : List (Option Outcome)) (vs : List World) (told : Side → List Report) (w : World) (x : Side → Table) →
      IsDrivenTo s roles many es os vs told w x → (e : Event) (o : Option Outcome) (v : World) → IsBeside e → Step w e o v →
      IsDrivenTo s roles many (es ++ e ∷ []) (os ++ o ∷ []) (vs ++ v ∷ []) told v x
