-- What each call of an endpoint leaves of all that its user notes of it: the tickets that were given, the tickets numbered, and the messages taken.
use Rattle.std.specs.Prelude.{◌≡◌, ℕ, suc, ◌<◌, ◌≤◌, Bool, true, false, List, [], ◌∷◌, ◌++◌, length, Option, Some, None}
use Rattle.sctp_model.specs.numbers.Lists.{Has, at}
use Rattle.sctp_model.specs.wire.Chunk.{ChunkMeaning}
use Rattle.sctp_model.specs.wire.Packet.{Packet}
use Rattle.sctp_model.specs.messages.Plan.{Entry, Plan}
use Rattle.sctp_model.specs.sender.SenderView.{fresh_sender}
use Rattle.sctp_model.specs.sender.Entries.{entry_lane, entry_number}
use Rattle.sctp_model.specs.sender.Filling.{begun_tickets, newly_numbered}
use Rattle.sctp_model.specs.receiver.ReceiverView.{Handed, fresh_receiver}
use Rattle.sctp_model.specs.world.Calls.{Call}
use Rattle.sctp_model.specs.end.EndView.{Configuration, Draw, Phase, Idle, Listening, Calling, Echoing, Open, Over, Role, EndView, fresh_end, send_limits}
use Rattle.sctp_model.specs.end.Clock.{at_moment}
use Rattle.sctp_model.specs.end.Opening.{opened}
use Rattle.sctp_model.specs.end.Strays.{Verdict}
use Rattle.sctp_model.specs.end.Arriving.{Receives, IsCutShort}
use Rattle.sctp_model.specs.end.Building.{Builds}
use Rattle.sctp_model.specs.end.Moments.{ticked}
use Rattle.sctp_model.specs.end.UserCalls.{Called, connect_answer, called, SendAnswer, Ticket, Refused, NotOpen, send_answer, send_leaves, abandoned_at}
use Rattle.sctp_model.specs.end.UserCalls.{UserTakes, shut, AbortAnswer, abort_leaves, reset_call, reset_leaves, reset_there, told_leaves}

-- ---- what every end is that calls lead to

-- before an association: CLOSED as an endpoint is made, LISTEN, and COOKIE-WAIT (RFC 9260, 4)
abbrev pub is_before : Phase → Bool
is_before Idle = true
is_before Listening = true
is_before (Calling d) = true
is_before (Echoing t xs) = false
is_before (Open t g) = false
is_before (Over why) = false

-- Its sender and its receiver are empty: they are as they are made.
pub record IsUnused (e : EndView) : Type 0 where
  pub sender : e.sender ≡ fresh_sender 0 0 e.configuration.fragment 0 false (send_limits e.configuration)
  pub receiver : e.receiver ≡ fresh_receiver 0 0 e.configuration.buffer e.configuration.reserve

-- So it is before an association.
abbrev pub IsBare : EndView → Type 0
IsBare e = is_before e.phase ≡ true → IsUnused e

-- each index is of a message that has its number
abbrev pub IsNamed : Plan → Type 0
IsNamed p = (e : Entry) → Has p.entries e → entry_number e < length (p.messages (entry_lane e))

-- An endpoint is bare before an association, its receiver has the buffer that it is set up with, and each index that it gave is of a message of its own.
pub record IsSound (e : EndView) : Type 0 where
  pub bare : IsBare e
  pub buffer : e.receiver.buffer ≡ e.configuration.buffer
  pub named : IsNamed e.sender.plan

-- ---- what is noted

-- the tickets of the messages that have numbers, by their first TSN
abbrev pub numbered : EndView → List ℕ
numbered e = begun_tickets e.sender.plan e.sender.plan.entries

-- Nothing is noted of this endpoint.
pub record HasNoLogs (e : EndView) : Type 0 where
  pub sound : IsSound e
  pub numbers : numbered e ≡ []
  pub tickets : e.sender.tickets ≡ 0
  pub taken : e.receiver.taken ≡ λ s. []

-- All that is noted of the one is noted of the other, and nothing else.
pub record KeepsLogs (e t : EndView) : Type 0 where
  pub sound : IsSound t
  pub grown : length e.sender.plan.entries ≤ length t.sender.plan.entries
  pub numbers : numbered t ≡ numbered e
  pub tickets : t.sender.tickets ≡ e.sender.tickets
  pub taken : t.receiver.taken ≡ e.receiver.taken

-- The messages numbered on the way are noted, and nothing else.
pub record AddsNumbers (e t : EndView) : Type 0 where
  pub sound : IsSound t
  pub grown : length e.sender.plan.entries ≤ length t.sender.plan.entries
  pub numbers : numbered t ≡ numbered e ++ newly_numbered e.sender t.sender
  pub tickets : t.sender.tickets ≡ e.sender.tickets
  pub taken : t.receiver.taken ≡ e.receiver.taken

-- One ticket was given, and nothing else is noted.
pub record AddsTicket (e t : EndView) : Type 0 where
  pub sound : IsSound t
  pub grown : length e.sender.plan.entries ≤ length t.sender.plan.entries
  pub numbers : numbered t ≡ numbered e
  pub tickets : t.sender.tickets ≡ suc e.sender.tickets
  pub taken : t.receiver.taken ≡ e.receiver.taken

-- This message was taken from this stream, and nothing else is noted.
pub record AddsTaken (e : EndView) (stream : ℕ) (h : Handed) (t : EndView) : Type 0 where
  pub sound : IsSound t
  pub grown : length e.sender.plan.entries ≤ length t.sender.plan.entries
  pub numbers : numbered t ≡ numbered e
  pub tickets : t.sender.tickets ≡ e.sender.tickets
  pub taken : t.receiver.taken ≡ at e.receiver.taken stream (e.receiver.taken stream ++ h ∷ [])

-- ---- ends as they are made

-- of an endpoint that is made nothing is noted
abbrev pub FreshHasNoLogs : Type 0
FreshHasNoLogs = (c : Configuration) (r : Role) (h : Phase) → HasNoLogs (fresh_end c r h)

-- nor of one that is opened without packets
abbrev pub OpenedHasNoLogs : Type 0
OpenedHasNoLogs = (c : Configuration) (own peer : Draw) → HasNoLogs (opened c own peer)

-- ---- what arrives, and time

-- A packet that arrives numbers, gives and takes nothing, whatever is in it.
abbrev pub PacketsKeepLogs : Type 0
PacketsKeepLogs = (e : EndView) (now : ℕ) (d : Draw) (p : Option Packet) (t : EndView) (v : Verdict) → IsSound e → Receives e now d p t v → KeepsLogs e t

-- nor does one that is cut short
abbrev pub CutPacketsKeepLogs : Type 0
CutPacketsKeepLogs = (e : EndView) (now : ℕ) (d : Draw) (p : Option Packet) (t : EndView) → IsSound e → IsCutShort e now d p t → KeepsLogs e t

-- nor a time
abbrev pub MomentsKeepLogs : Type 0
MomentsKeepLogs = (e : EndView) (now : ℕ) → IsSound e → KeepsLogs e (ticked e now)

-- ---- what the user calls

-- connect, if it is taken (RFC 9260, 11.1.2)
abbrev pub ConnectKeepsLogs : Type 0
ConnectKeepsLogs = (e : EndView) (now : ℕ) (d : Draw) → IsSound e → connect_answer e.phase ≡ Called → KeepsLogs e (called (at_moment e now) d)

-- shutdown (11.1.3)
abbrev pub ShutdownKeepsLogs : Type 0
ShutdownKeepsLogs = (e : EndView) → IsSound e → KeepsLogs e (shut e)

-- the reset of a stream (RFC 6525, 5.1)
abbrev pub ResetKeepsLogs : Type 0
ResetKeepsLogs = (e : EndView) (stream : ℕ) → IsSound e → KeepsLogs e (reset_leaves (reset_call e stream) e stream)

-- and the report of the peer's (5.2)
abbrev pub ToldKeepsLogs : Type 0
ToldKeepsLogs = (e : EndView) → IsSound e → KeepsLogs e (told_leaves (reset_there e) e)

-- abort (11.1.4), whatever it answers
abbrev pub AbortKeepsLogs : Type 0
AbortKeepsLogs = (e : EndView) (a : AbortAnswer) → IsSound e → KeepsLogs e (abort_leaves a e)

-- abandon (RFC 3758, 3.5)
abbrev pub AbandonKeepsLogs : Type 0
AbandonKeepsLogs = (e : EndView) (ticket : ℕ) → IsSound e → KeepsLogs e (abandoned_at e ticket)

-- what send notes, by its answer
abbrev pub SendNotes : SendAnswer → EndView → EndView → Type 0
SendNotes (Ticket t) e u = AddsTicket e u
SendNotes (Refused r) e u = KeepsLogs e u
SendNotes NotOpen e u = KeepsLogs e u

-- send (11.1.5)
abbrev pub SendGivesTickets : Type 0
SendGivesTickets = (e : EndView) (c : Call) → IsSound e → SendNotes (send_answer e c) e (send_leaves (send_answer e c) e c)

-- what take notes, by its answer
abbrev pub TakeNotes : Option Handed → (stream : ℕ) → EndView → EndView → Type 0
TakeNotes (Some h) s e t = AddsTaken e s h t
TakeNotes None s e t = KeepsLogs e t

-- take (11.1.6)
abbrev pub TakeTakesOne : Type 0
TakeTakesOne = (e : EndView) (stream : ℕ) (h : Option Handed) (t : EndView) → IsSound e → UserTakes e stream h t → TakeNotes h stream e t

-- ---- what goes out

-- A packet that is built numbers what is newly numbered, and nothing else (RFC 9260, 6.9).
abbrev pub BuildsAddNumbers : Type 0
BuildsAddNumbers = (e : EndView) (now : ℕ) (xs : List ChunkMeaning) (t : EndView) → IsSound e → Builds (at_moment e now) xs t → AddsNumbers e t

-- If there is no next packet nothing is numbered.
abbrev pub EmptyBuildsKeepLogs : Type 0
EmptyBuildsKeepLogs = (e : EndView) (now : ℕ) (t : EndView) → IsSound e → Builds (at_moment e now) [] t → KeepsLogs e t
