-- A packet in the making: which chunks went in, and what that leaves at its end (RFC 9260, 6.10).
use Rattle.std.specs.Prelude.{◌≡◌, ◌≤◌, ℕ, Bool, true, false, not, List, [], map, Option, None}
use Rattle.sctp_model.specs.numbers.Limits.{BLOCK_LIMIT}
use Rattle.sctp_model.specs.wire.Typed.{Typed}
use Rattle.sctp_model.specs.wire.Chunk.{SackMeaning, Sack}
use Rattle.sctp_model.specs.sender.SenderView.{SenderView}
use Rattle.sctp_model.specs.sender.Filling.{newly_numbered}
use Rattle.sctp_model.specs.receiver.ReceiverView.{ReceiverView, room_left}
use Rattle.sctp_model.specs.receiver.SackMade.{IsSack, sack_sent}
use Rattle.sctp_model.specs.receiver.ResetTaken.{with_answers}
use Rattle.sctp_model.specs.end.EndView.{Configuration, EndView, format_of}
use Rattle.sctp_model.specs.end.EndView as model
use Rattle.sctp_model.specs.end.Pacing.{Pace}
use Rattle.sctp_model.specs.end.Building.{Slot, Puts, Builds, tag_to}
use Rattle.sctp_packet.specs.Draft.{Draft, has_room, after_try}
use Rattle.sctp_terms.specs.PlainOptions.{HasPlainOptions}
use Rattle.sctp_congestion.specs.PaceStands.{PacesStand}
use Rattle.sctp_congestion.specs.declared.pacing.Pacing.{Pacing}
use Rattle.sctp_association.specs.StartsMean.{starts_at, started_from}
use Rattle.sctp_association.specs.Asks.{asks}
use Rattle.sctp_association.specs.DueStands.{DueStands}
use Rattle.sctp_association.specs.TrafficStands.{TrafficStands}
use Rattle.sctp_association.specs.Sends.{Sends}
use Rattle.sctp_association.specs.declared.state.due.Due.{Due}
use Rattle.sctp_association.specs.declared.traffic.Traffic.{Traffic}
use Rattle.sctp_association.specs.declared.build.packing.Marks.{Marks}
use Rattle.sctp_association.specs.declared.build.packing.Packing.{Packing}
use Rattle.sctp_association.specs.declared.build.sendings.Filled.{Filled}

-- the SACK of a receiver goes into a packet, or doesn't fit
pub record PutsSack (r : ReceiverView) (old new : Draft) (put : Bool) : Type 0 where
  pub sack : SackMeaning
  pub told : IsSack BLOCK_LIMIT r sack
  pub answer : put ≡ has_room old (Sack sack)
  pub after : new ≡ after_try old (Sack sack) put

-- ---- what a packet leaves

-- the value of a HEARTBEAT, unless it went out
abbrev pub value_left : Bool → Option (List ℕ) → Option (List ℕ)
value_left true x = x
value_left false x = None

-- causes, unless they went out
abbrev pub causes_left : Bool → List Typed → List Typed
causes_left true xs = xs
causes_left false xs = []

-- the receiver: once a SACK that was due went out, it has told its duplicates
abbrev pub receiver_left : (was_due is_due : Bool) → ReceiverView → ReceiverView
receiver_left true false r = sack_sent r
receiver_left true true r = r
receiver_left false is_due r = r

-- the receiver, unless its responses went out
abbrev pub answers_left : Bool → ReceiverView → ReceiverView
answers_left true r = r
answers_left false r = with_answers r []

-- the window that was advertised last: that of a SACK that was due and went out
abbrev pub offered_left : (was_due is_due : Bool) → ReceiverView → ℕ → ℕ
offered_left true false r n = room_left r
offered_left true true r n = n
offered_left false is_due r n = n

-- the moment at which a SACK that waits is due: behind a SACK none waits
abbrev pub delayed_left : (was_due is_due : Bool) → Option ℕ → Option ℕ
delayed_left true false m = None
delayed_left true true m = m
delayed_left false is_due m = m

-- what is still due
abbrev pub due_left : Marks → model.Due → model.Due
due_left m d = record d {
  init = m.init;
  cookie_echo = m.cookie_echo;
  cookie_ack = m.cookie_ack;
  heartbeat = value_left m.heartbeat d.heartbeat;
  causes = causes_left m.causes d.causes;
  sack = m.sack;
  forward = m.forward;
  request = m.request;
  shutdown = m.shutdown;
  shutdown_ack = m.shutdown_ack;
}

-- the end, once what isn't marked any more went out at its moment
abbrev pub drafted : Marks → EndView → EndView
drafted m e = record e {
  due = due_left m e.due;
  timers = started_from (starts_at m.starts) e.moment e.timers;
  delayed = delayed_left e.due.sack m.sack e.delayed;
  offered = offered_left e.due.sack m.sack e.receiver e.offered;
  receiver = answers_left m.answers (receiver_left e.due.sack m.sack e.receiver);
}

-- ---- the packet

-- It is this end's, whose options are plain, by its limit and its header, and nothing went in yet.
pub record IsFresh (e : EndView) (w : Draft) : Type 0 where
  pub options : HasPlainOptions e.configuration
  pub limit : w.limit ≡ e.configuration.limit
  pub source : w.source ≡ e.configuration.own_port
  pub destination : w.destination ≡ e.configuration.peer_port
  pub tag : w.tag ≡ tag_to e.phase
  pub chunks : w.chunks ≡ []

-- The packet is this end's, whose options are plain, by its limit and its header, and only a SACK that was due is marked.
pub record IsOf (e : EndView) (p : Packing) : Type 0 where
  pub options : HasPlainOptions e.configuration
  pub limit : p.writer.limit ≡ e.configuration.limit
  pub source : p.writer.source ≡ e.configuration.own_port
  pub destination : p.writer.destination ≡ e.configuration.peer_port
  pub tag : p.writer.tag ≡ tag_to e.phase
  pub sack : p.marks.sack ≡ true → e.due.sack ≡ true

-- The packet is this end's, within its limit, by its header, and only a SACK that was due is marked.
pub record IsOwn (e : EndView) (p : Packing) : Type 0 where
  pub limit : p.writer.limit ≤ e.configuration.limit
  pub source : p.writer.source ≡ e.configuration.own_port
  pub destination : p.writer.destination ≡ e.configuration.peer_port
  pub tag : p.writer.tag ≡ tag_to e.phase
  pub sack : p.marks.sack ≡ true → e.due.sack ≡ true

-- Nothing went in yet.
pub record IsEmpty (e : EndView) (p : Packing) : Type 0 where
  pub packet : IsOf e p
  pub chunks : p.writer.chunks ≡ []
  pub same : drafted p.marks e ≡ e

-- What was due at these places went in, as far as there was room.
pub record PutsAt (ss : List Slot) (e : EndView) (old new : Packing) (room : Bool) : Type 0 where
  pub puts : Puts ss (drafted old.marks e) old.writer.chunks new.writer.chunks (not room) (drafted new.marks e)
  pub packet : IsOf e new

-- The packet is whole: it holds what the end's next packet does, which leaves this sender and this pace; the tickets are those newly
-- numbered, and the sendings those of its user data.
pub record IsPacked (e : EndView) (s : SenderView) (o : Option Pace) (p : Packing) (filled : Filled) : Type 0 where
  pub builds : Builds e p.writer.chunks (record (drafted p.marks e) { sender = s; pace = o })
  pub packet : IsOwn e p
  pub tickets_are : map (λ t. t.0) filled.tickets.items ≡ newly_numbered e.sender s
  pub sendings : Sends e p.writer.chunks filled.sendings

-- The packet is whole, and this traffic and this pace stand for what it leaves of the end's; without a pace there is none then.
pub record IsWhole (e : EndView) (traffic : Traffic) (pace : Option Pacing) (p : Packing) (filled : Filled) : Type 0 where
  pub sender : SenderView
  pub after : Option Pace
  pub packed : IsPacked e sender after p filled
  pub traffic_stands : TrafficStands traffic (format_of e) sender e.receiver
  pub pace_stands : PacesStand (format_of e) sender.cum pace after
  pub unpaced : e.pace ≡ None → after ≡ None

-- ---- where the chunks come from

-- All that a packet is made of while the association is open stands for its part of the end, which makes no request any more.
pub record IsPartOf (config : Configuration) (traffic : Traffic) (due : Due) (e : EndView) : Type 0 where
  pub configured : config ≡ e.configuration
  pub due_stands : DueStands due e.due
  pub traffic_stands : TrafficStands traffic (format_of e) e.sender e.receiver
  pub unasked : asks e ≡ false
